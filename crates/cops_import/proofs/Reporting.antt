-- A line has at most one operation, and a line that has one is not faulty.
use Rattle.std.proofs.Common.{◌≡◌, ◌==◌, ◌^◌, ◌<◌, ◌+◌, ℕ, Bool, false, List, [], ◌∷◌, ◌++◌, All, get_or, refl, sym, ap, subst, ◌∙◌, inl, inr, arith}
use Rattle.std.specs.Prelude.{Option, Some, None, codes, decimal}
use Rattle.std.proofs.lemmas.Bool.{ne_eqb}
use Rattle.std.proofs.lemmas.Fmt.{decimal_injective}
use Rattle.std.proofs.lemmas.List.{append_cancel_left}
use Rattle.std.proofs.lemmas.List.Elements.{All-from_get_or}
use Rattle.std.specs.List.{Contains}
use Rattle.std.proofs.lemmas.Option.{get_or_from_slice_get, slice_get_within}
use Rattle.std.proofs.lemmas.List.Splits.{slice_split_at}
use Rattle.std.specs.List.{slice_split}
use Rattle.serde_json.specs.Data.{Data, null}
use Rattle.serde_json.specs.Find.{get}
use Rattle.cops_types.specs.Texts.{version_text}
use Rattle.cops_types.specs.Version.{IsVersion, clock_of, node_of}
use Rattle.cops_types.specs.Format.{Fits}
use Rattle.cops_types.specs.declared.format.Format.{Format}
use Rattle.cops_types.specs.declared.format.Format.TheVariants.{One}
use Rattle.cops_types.specs.declared.op.Op.{Op}
use Rattle.cops_types.specs.declared.op.Op.TheVariants as op
use Rattle.cops_json.specs.Json.{text_json}
use Rattle.cops_import.specs.Line.{AsksKey, FoundNothing, HasForm, HasName, HasNoVersion, HasSeveral, HasWrongVersion, IsAsked, IsNothing, IsOrdered, IsUnranked, IsFaulty, IsJson, IsNameJson, IsVersionJson, IsVersionOf, IsWrong, IsWrongIn, LacksFormat, LacksValue, LacksVersion, LacksRank, LineGives, LineLacksRank, Gives, GivesContent, GivesName, GivesOp, GivesValue, GivesVersion, GivesWrite, TextGives, maybe_kind}
use Rattle.cops_import.specs.Lines.{GiveAfter, with_reported}
use Rattle.cops_import.specs.declared.fault.JsonLineFault.{JsonLineFault}
use Rattle.cops_import.specs.declared.fault.JsonLineFault.TheVariants.{NoJson, NoClient, NoOperation, BothOperations, BadKey, BadValue, BadVersion, NeedsFormat2, TooManyClients, TooManyOperations}
use Rattle.cops_import.specs.declared.line.Kind.{Kind}
use Rattle.cops_import.specs.declared.line.Kind.TheVariants.{Put, Get, Del, MaybePut, MaybeDel}
use Rattle.cops_import.specs.declared.reported.Reported.{Reported}
use Rattle.cops_import.specs.declared.reported.Reported.TheVariants.{Known, Unknown}
use Rattle.cops_outcomes.specs.declared.write.Write.{Write}
use Rattle.cops_json.proofs.Versions.{clock_fits, no_dot}
use Rattle.cops_import.specs.Stores.{AStoreVersion, store_json, IsRankOf}
use Rattle.cops_import.specs.Stores as store
use Rattle.cops_import.specs.declared.rules.Rules.{Rules}
use Rattle.cops_import.specs.declared.rules.Versions.{Versions}
use Rattle.cops_import.specs.declared.rules.Versions.TheVariants.{Plain, Ranked}
use Rattle.cops_import.proofs.InOrder.{kind_one, rank_one}

-- ---- at most one name and one version

name_in : (a b : List ℕ) (x : Data) → IsNameJson a x → IsNameJson b x → a ≡ b
name_in a b x (inl p) (inl q) = cc
name_in a b x (inl p) (inr q) = let e = q.1 in absurd cc
name_in a b x (inr p) (inl q) = let e = p.1 in absurd cc
name_in a b x (inr p) (inr q) = let e = p.1 in let f = q.1 in let same : p.0 ≡ q.0 = cc in p.2 ∙ ap decimal same ∙ sym q.2

name_one : (d : Data) (a b : List ℕ) → GivesName d a → GivesName d b → a ≡ b
name_one d a b p q =
    let e = p.1 in
    let f = q.1 in
    let same : p.0 ≡ q.0 = cc in
    name_in a b q.0 (subst (IsNameJson a) same p.2) q.2

same_version : (v w : ℕ) → clock_of v ≡ clock_of w → node_of v ≡ node_of w → v ≡ w
same_version v w c n = omega (arith, c, n)

no_dots : (n : ℕ) → n < 2 ^ 48 → All (λ (b : ℕ). (b == 46) ≡ false) (decimal n)
no_dots n small = All-from_get_or (λ (b : ℕ). (b == 46) ≡ false) (decimal n) 0 (λ i inside. ne_eqb (get_or (decimal n) i 0) 46 (no_dot n (omega arith) i inside))

same_text : (v w : ℕ) → IsVersion v → IsVersion w → version_text v ≡ version_text w → v ≡ w
same_text v w is also e =
    let fits = clock_fits v is in
    let fits' = clock_fits w also in
    let p : ℕ → Bool = λ b. b == 46 in
    let first = slice_split_at p (decimal (clock_of v)) 46 (decimal (node_of v)) (no_dots (clock_of v) fits) refl in
    let second = slice_split_at p (decimal (clock_of w)) 46 (decimal (node_of w)) (no_dots (clock_of w) fits') refl in
    let both : decimal (clock_of v) ∷ slice_split p (decimal (node_of v)) ≡ decimal (clock_of w) ∷ slice_split p (decimal (node_of w)) = sym first ∙ ap (slice_split p) e ∙ second in
    let clocks : decimal (clock_of v) ≡ decimal (clock_of w) = cc in
    let rest : 46 ∷ decimal (node_of v) ≡ 46 ∷ decimal (node_of w) =
    append_cancel_left (decimal (clock_of v)) (46 ∷ decimal (node_of v)) (46 ∷ decimal (node_of w)) (e ∙ ap (λ (l : List ℕ). l ++ 46 ∷ decimal (node_of w)) (sym clocks)) in
    let nodes : decimal (node_of v) ≡ decimal (node_of w) = cc in
    same_version v w (decimal_injective (clock_of v) (clock_of w) (omega arith) (omega arith) clocks) (decimal_injective (node_of v) (node_of w) (omega (arith, is.1)) (omega (arith, also.1)) nodes)

version_in : (v w : ℕ) (x : Data) → IsVersion v → IsVersion w → IsVersionJson v x → IsVersionJson w x → v ≡ w
version_in v w x is also (inl p) (inl q) = let e : version_text v ≡ version_text w = cc in same_text v w is also e
version_in v w x is also (inl p) (inr (inl q)) = let f = q.0 in absurd cc
version_in v w x is also (inl p) (inr (inr q)) = absurd cc
version_in v w x is also (inr (inl p)) (inl q) = let f = p.0 in absurd cc
version_in v w x is also (inr (inl p)) (inr (inl q)) = let e = p.0 in let f = q.0 in let c : clock_of v ≡ clock_of w = cc in same_version v w c (p.1 ∙ sym q.1)
version_in v w x is also (inr (inl p)) (inr (inr q)) = let f = p.0 in absurd cc
version_in v w x is also (inr (inr p)) (inl q) = absurd cc
version_in v w x is also (inr (inr p)) (inr (inl q)) = let f = q.0 in absurd cc
version_in v w x is also (inr (inr p)) (inr (inr q)) = let c : clock_of v ≡ clock_of w = cc in let n : node_of v ≡ node_of w = cc in same_version v w c n

plain_one : (d : Data) (v w : ℕ) → GivesVersion Plain d v → GivesVersion Plain d w → v ≡ w
plain_one d v w p q =
    let e = p.1 in
    let f = q.1 in
    let same : p.0 ≡ q.0 = cc in
    version_in v w q.0 p.3 q.3 (subst (IsVersionJson v) same p.2) q.2

-- two versions of a store with one JSON are equal
store_one : (a b : AStoreVersion) → store_json a ≡ store_json b → a ≡ b
store_one (store.number m) (store.number n) e = let same : m ≡ n = cc in ap store.number same
store_one (store.text x) (store.text y) e = let same : x ≡ y = cc in ap store.text same
store_one (store.pair m x) (store.pair n y) e = let first : m ≡ n = cc in let second : x ≡ y = cc in cc
store_one _ _ e = absurd cc

version_one : (versions : Versions) → IsOrdered versions → (d : Data) (v w : ℕ) → GivesVersion versions d v → GivesVersion versions d w → v ≡ w
version_one Plain ordered d v w p q = plain_one d v w p q
version_one (Ranked all) ordered d v w p q =
    let e = p.1 in
    let f = q.1 in
    let first = p.2.1 in
    let second = q.2.1 in
    let json : store_json p.2.0 ≡ store_json q.2.0 = cc in
    rank_one all ordered p.2.0 v w p.2.2 (subst (λ (a : AStoreVersion). IsRankOf all a w) (sym (store_one p.2.0 q.2.0 json)) q.2.2)

value_one : (format : Format) (d : Data) (a b : List ℕ) → GivesValue format d a → GivesValue format d b → a ≡ b
value_one format d a b p q = let e = p.0 in let f = q.0 in cc

not_null : (format : Format) (d : Data) (value : List ℕ) → GivesValue format d value → get (codes "value") d ≡ Some null → ⊥
not_null format d value reported none = let e = reported.0 in cc

-- a get with a content did not find nothing
something : (format : Format) (d : Data) (content : Option (List ℕ)) → GivesContent format d Get content → FoundNothing d → ⊥
something format d (Some value) reported found = not_null format d value reported found.0
something format d None reported found = reported.1 found.1

-- ---- at most one operation

asked_one : (d : Data) (k l : Kind) (x y : Data) → IsAsked d k x → IsAsked d l y → (k ≡ l) × (x ≡ y)
asked_one d Put Put x y p q = (refl, cc)
asked_one d MaybePut MaybePut x y p q = (refl, cc)
asked_one d Get Get x y p q = (refl, cc)
asked_one d Del Del x y p q = (refl, cc)
asked_one d MaybeDel MaybeDel x y p q = (refl, cc)
asked_one d Put MaybePut x y p q = absurd (p.3 q.3)
asked_one d MaybePut Put x y p q = absurd (q.3 p.3)
asked_one d Del MaybeDel x y p q = absurd (p.3 q.3)
asked_one d MaybeDel Del x y p q = absurd (q.3 p.3)
asked_one d _ _ x y p q = absurd cc

key_one : (d : Data) (k l : Kind) (a b : List ℕ) → AsksKey d k a → AsksKey d l b → (k ≡ l) × (a ≡ b)
key_one d k l a b p q = let one = asked_one d k l (text_json a) (text_json b) p.0 q.0 in let e = one.1 in (one.0, cc)

abbrev kind_of : Op → Kind
kind_of (op.Put key value version) = Put
kind_of (op.Del key version) = Del
kind_of _ = Get

abbrev key_in : Op → List ℕ
key_in (op.Put key value version) = key
key_in (op.Del key version) = key
key_in (op.Got key value version) = key
key_in (op.Gone key version) = key
key_in (op.Missed key) = key

asks_of : (rules : Rules) (d : Data) (o : Op) → GivesOp rules d o → AsksKey d (kind_of o) (key_in o)
asks_of rules d (op.Put key value version) reported = reported.0
asks_of rules d (op.Del key version) reported = reported.0
asks_of rules d (op.Got key value version) reported = reported.0
asks_of rules d (op.Gone key version) reported = reported.0
asks_of rules d (op.Missed key) reported = reported.0

same_kind : (rules : Rules) (d : Data) (a b : Op) → GivesOp rules d a → GivesOp rules d b → kind_of a ≡ kind_of b
same_kind rules d a b p q = (key_one d (kind_of a) (kind_of b) (key_in a) (key_in b) (asks_of rules d a p) (asks_of rules d b q)).0

op_one : (rules : Rules) → IsOrdered rules.versions → (d : Data) (a b : Op) → GivesOp rules d a → GivesOp rules d b → a ≡ b
op_one rules ordered d (op.Put k x v) (op.Put l y w) p q =
    let key : k ≡ l = (key_one d Put Put k l p.0 q.0).1 in
    let value : x ≡ y = value_one rules.format d x y p.1 q.1 in
    let version : v ≡ w = version_one rules.versions ordered d v w p.2 q.2 in
    cc
op_one rules ordered d (op.Del k v) (op.Del l w) p q =
    let key : k ≡ l = (key_one d Del Del k l p.0 q.0).1 in
    let version : v ≡ w = version_one rules.versions ordered d v w p.2 q.2 in
    cc
op_one rules ordered d (op.Got k x v) (op.Got l y w) p q =
    let key : k ≡ l = (key_one d Get Get k l p.0 q.0).1 in
    let value : x ≡ y = value_one rules.format d x y p.1 q.1 in
    let version : v ≡ w = version_one rules.versions ordered d v w p.2 q.2 in
    cc
op_one rules ordered d (op.Gone k v) (op.Gone l w) p q =
    let key : k ≡ l = (key_one d Get Get k l p.0 q.0).1 in
    let version : v ≡ w = version_one rules.versions ordered d v w p.2 q.2 in
    cc
op_one rules ordered d (op.Missed k) (op.Missed l) p q = let key : k ≡ l = (key_one d Get Get k l p.0 q.0).1 in cc
op_one rules ordered d (op.Got k x v) (op.Gone l w) p q = absurd (not_null rules.format d x p.1 q.1.0)
op_one rules ordered d (op.Gone k v) (op.Got l y w) p q = absurd (not_null rules.format d y q.1 p.1.0)
op_one rules ordered d (op.Got k x v) (op.Missed l) p q = absurd (something rules.format d (Some x) p.1 q.1)
op_one rules ordered d (op.Gone k v) (op.Missed l) p q = absurd (something rules.format d None p.1 q.1)
op_one rules ordered d (op.Missed k) (op.Got l y w) p q = absurd (something rules.format d (Some y) q.1 p.1)
op_one rules ordered d (op.Missed k) (op.Gone l w) p q = absurd (something rules.format d None q.1 p.1)
op_one rules ordered d (op.Put k x v) b p q = let e = same_kind rules d (op.Put k x v) b p q in absurd cc
op_one rules ordered d (op.Del k v) b p q = let e = same_kind rules d (op.Del k v) b p q in absurd cc
op_one rules ordered d a (op.Put l y w) p q = let e = same_kind rules d a (op.Put l y w) p q in absurd cc
op_one rules ordered d a (op.Del l w) p q = let e = same_kind rules d a (op.Del l w) p q in absurd cc

-- two contents of one object are equal if both are of unknown outcome
content_one : (format : Format) (d : Data) (a b : Option (List ℕ)) → maybe_kind a ≡ maybe_kind b → GivesContent format d (maybe_kind a) a → GivesContent format d (maybe_kind b) b → a ≡ b
content_one format d None None kind p q = refl
content_one format d (Some x) (Some y) kind p q = ap Some (value_one format d x y p q)
content_one format d _ _ kind p q = absurd cc

write_one : (rules : Rules) (d : Data) (a b : Write) → GivesWrite rules d a → GivesWrite rules d b → a ≡ b
write_one rules d a b p q =
    let same = key_one d (maybe_kind a.content) (maybe_kind b.content) a.key b.key p.0 q.0 in
    let content = content_one rules.format d a.content b.content same.0 p.1 q.1 in
    λ i. record { key = same.1 i; content = content i }

abbrev kind_in : Reported → Kind
kind_in (Known reported) = kind_of reported.op
kind_in (Unknown put) = maybe_kind put.write.content

abbrev key_of : Reported → List ℕ
key_of (Known reported) = key_in reported.op
key_of (Unknown put) = put.write.key

asks_in : (rules : Rules) (number : ℕ) (d : Data) (reported : Reported) → Gives rules number d reported → AsksKey d (kind_in reported) (key_of reported)
asks_in rules number d (Known reported) reports = asks_of rules d reported.op reports.1
asks_in rules number d (Unknown put) reports = reports.1.0

-- the kind of an object's operation
its_kind : (rules : Rules) (number : ℕ) (d : Data) (reported : Reported) (kind : Kind) (key : List ℕ) → Gives rules number d reported → AsksKey d kind key → kind ≡ kind_in reported
its_kind rules number d reported kind key reports asks = (key_one d kind (kind_in reported) key (key_of reported) asks (asks_in rules number d reported reports)).0

-- an operation with its result is not of unknown outcome
not_both : (o : Op) (content : Option (List ℕ)) → kind_of o ≡ maybe_kind content → ⊥
not_both o content e = grind arith

reported_one : (rules : Rules) → IsOrdered rules.versions → (number : ℕ) (d : Data) (a b : Reported) → Gives rules number d a → Gives rules number d b → a ≡ b
reported_one rules ordered number d (Known a) (Known b) p q =
    let name = name_one d a.name b.name p.0 q.0 in
    let ops = op_one rules ordered d a.op b.op p.1 q.1 in
    λ i. Known (record { name = name i; op = ops i })
reported_one rules ordered number d (Unknown a) (Unknown b) p q =
    let name = name_one d a.name b.name p.0 q.0 in
    let write = write_one rules d a.write b.write p.1 q.1 in
    let line : a.line ≡ b.line = p.2 ∙ sym q.2 in
    λ i. Unknown (record { name = name i; write = write i; line = line i })
reported_one rules ordered number d (Known a) (Unknown b) p q =
    absurd (not_both a.op b.write.content (its_kind rules number d (Unknown b) (kind_of a.op) (key_in a.op) q (asks_of rules d a.op p.1)))
reported_one rules ordered number d (Unknown a) (Known b) p q =
    absurd (not_both b.op a.write.content (its_kind rules number d (Unknown a) (kind_of b.op) (key_in b.op) p (asks_of rules d b.op q.1)))

json_one : (line : List ℕ) (d e : Data) → IsJson line d → IsJson line e → d ≡ e
json_one line d e p q = let f = p.1 in let g = q.1 in cc

-- what one line reports is one
line_one : (rules : Rules) → IsOrdered rules.versions → (number : ℕ) (line : List ℕ) (a b : Option Reported) → LineGives rules number line a → LineGives rules number line b → a ≡ b
line_one rules ordered number line None None p q = refl
line_one rules ordered number line None (Some b) p q = absurd (q.0 p)
line_one rules ordered number line (Some a) None p q = absurd (p.0 q)
line_one rules ordered number line (Some a) (Some b) p q =
    let same = json_one line p.1.0 q.1.0 p.1.1 q.1.1 in
    ap Some (reported_one rules ordered number q.1.0 a b (subst (λ (d : Data). Gives rules number d a) same p.1.2) q.1.2)

pub lines_one : (rules : Rules) → IsOrdered rules.versions → (number : ℕ) (earlier : List Reported) (ls : List (List ℕ)) (a b : List Reported) → GiveAfter rules number earlier ls a → GiveAfter rules number earlier ls b → a ≡ b
lines_one rules ordered number earlier [] a b p q = p ∙ sym q
lines_one rules ordered number earlier (line ∷ ls) a b p q =
    let same = line_one rules ordered number line p.0 q.0 p.1 q.1 in
    lines_one rules ordered (number + 1) (with_reported earlier q.0) ls a b (subst (λ (t : Option Reported). GiveAfter rules (number + 1) (with_reported earlier t) ls a) same p.2) q.2

-- ---- a line with an operation is not faulty

lacks_value : (rules : Rules) (d : Data) (o : Op) → GivesOp rules d o → LacksValue rules.format d (kind_of o) → ⊥
lacks_value rules d (op.Put k x v) reported lacks = lacks.0 (Some x) reported.1
lacks_value rules d (op.Del k v) reported lacks = lacks.0 None reported.1
lacks_value rules d (op.Got k x v) reported lacks = lacks.0 (Some x) reported.1
lacks_value rules d (op.Gone k v) reported lacks = lacks.0 None reported.1
lacks_value rules d (op.Missed k) reported lacks = lacks.1 refl reported.1

-- a version that a line has is of the right form
has_form : (rules : Rules) → IsOrdered rules.versions → (d : Data) (v : ℕ) → GivesVersion rules.versions d v → HasNoVersion rules.versions d → ⊥
has_form rules ordered d v (at, is, json, legal) none = none at is (go rules.versions ordered json)
  where
    go : (versions : Versions) → IsOrdered versions → IsVersionOf versions v at → HasForm versions at
    go Plain ordered json = (v, json, legal)
    go (Ranked all) ordered json = (json.0, json.1, kind_one all ordered json.0 json.2.0 json.2.1)

lacks_version : (rules : Rules) → IsOrdered rules.versions → (d : Data) (o : Op) → GivesOp rules d o → LacksVersion rules d (kind_of o) → ⊥
lacks_version rules ordered d (op.Put k x v) reported lacks = has_form rules ordered d v reported.2 lacks.2
lacks_version rules ordered d (op.Del k v) reported lacks = has_form rules ordered d v reported.2 lacks.2
lacks_version rules ordered d (op.Got k x v) reported lacks = has_form rules ordered d v reported.2 lacks.2
lacks_version rules ordered d (op.Gone k v) reported lacks = has_form rules ordered d v reported.2 lacks.2
lacks_version rules ordered d (op.Missed k) reported lacks = something rules.format d lacks.0 lacks.1 reported.1

-- format 1 has no deletions
no_deletion : (format : Format) → Fits format None → format ≡ One → ⊥
no_deletion format fits is = subst (λ (f : Format). Fits f None) is fits

lacks_format : (rules : Rules) (d : Data) (o : Op) → GivesOp rules d o → LacksFormat rules d (kind_of o) → ⊥
lacks_format rules d (op.Put k x v) reported lacks = lacks.0
lacks_format rules d (op.Del k v) reported lacks = no_deletion rules.format reported.3 lacks.2
lacks_format rules d (op.Got k x v) reported lacks = not_null rules.format d x reported.1 lacks.0.0
lacks_format rules d (op.Gone k v) reported lacks = no_deletion rules.format reported.3 lacks.2
lacks_format rules d (op.Missed k) reported lacks = something rules.format d None lacks.0 reported.1

-- a put of unknown outcome has no version
right_version : (versions : Versions) (d : Data) (content : Option (List ℕ)) → IsNothing (get (codes "version") d) → HasWrongVersion versions d (maybe_kind content) → ⊥
right_version versions d None none wrong = wrong none
right_version versions d (Some value) none wrong = wrong none

right_format : (rules : Rules) (d : Data) (content : Option (List ℕ)) → Fits rules.format content → LacksFormat rules d (maybe_kind content) → ⊥
right_format rules d None fits lacks = no_deletion rules.format fits lacks.2
right_format rules d (Some value) fits lacks = lacks.0

value_right : (rules : Rules) (number : ℕ) (d : Data) (reported : Reported) → Gives rules number d reported → LacksValue rules.format d (kind_in reported) → ⊥
value_right rules number d (Known reported) reports lacks = lacks_value rules d reported.op reports.1 lacks
value_right rules number d (Unknown put) reports lacks = lacks.0 put.write.content reports.1.1

version_right : (rules : Rules) → IsOrdered rules.versions → (number : ℕ) (d : Data) (reported : Reported) → Gives rules number d reported → LacksVersion rules d (kind_in reported) → ⊥
version_right rules ordered number d (Known reported) reports lacks = lacks_version rules ordered d reported.op reports.1 lacks
version_right rules ordered number d (Unknown put) reports lacks = right_version rules.versions d put.write.content reports.1.2 lacks.2

format_right : (rules : Rules) (number : ℕ) (d : Data) (reported : Reported) → Gives rules number d reported → LacksFormat rules d (kind_in reported) → ⊥
format_right rules number d (Known reported) reports lacks = lacks_format rules d reported.op reports.1 lacks
format_right rules number d (Unknown put) reports lacks = right_format rules d put.write.content reports.1.3 lacks

neither : (d : Data) (kind : Kind) (x : Data) → IsAsked d kind x → get (codes "put") d ≡ None → get (codes "get") d ≡ None → get (codes "del") d ≡ None → ⊥
neither d _ x asked p q r = grind arith

several : (d : Data) (kind : Kind) (x : Data) → IsAsked d kind x → HasSeveral d → ⊥
several d _ x asked h = grind arith

has_name : (rules : Rules) (number : ℕ) (d : Data) (reported : Reported) → Gives rules number d reported → HasName d
has_name rules number d (Known reported) reports = (reported.name, reports.0)
has_name rules number d (Unknown put) reports = (put.name, reports.0)

-- the object of a line that reports something is not wrong
module _ (rules : Rules) (ordered : IsOrdered rules.versions) (number : ℕ) (d : Data) (reported : Reported) (reports : Gives rules number d reported) where
  asks : AsksKey d (kind_in reported) (key_of reported)
  asks = asks_in rules number d reported reports

  kind_is : (kind : Kind) (key : List ℕ) → AsksKey d kind key → kind ≡ kind_in reported
  kind_is kind key also = its_kind rules number d reported kind key reports also

  not_wrong : (fault : JsonLineFault) → IsWrong rules d fault → ⊥
  not_wrong NoJson wrong = wrong
  not_wrong NoClient wrong = let name = has_name rules number d reported reports in wrong name.0 name.1
  not_wrong NoOperation wrong = neither d (kind_in reported) (text_json (key_of reported)) asks.0 wrong.1 wrong.2 wrong.3
  not_wrong BothOperations wrong = several d (kind_in reported) (text_json (key_of reported)) asks.0 wrong.1
  not_wrong BadKey wrong =
      let bad = wrong.1 in
      bad.3 (key_of reported) asks.1 (sym (asked_one d (kind_in reported) bad.0 (text_json (key_of reported)) bad.1 asks.0 bad.2).1)
  not_wrong BadValue wrong = value_right rules number d reported reports (subst (LacksValue rules.format d) (kind_is wrong.1.0 wrong.1.1 wrong.1.2) wrong.1.3)
  not_wrong BadVersion wrong =
      version_right rules ordered number d reported reports (subst (LacksVersion rules d) (kind_is wrong.1.0 wrong.1.1 wrong.1.2) wrong.1.3)
  not_wrong NeedsFormat2 wrong = format_right rules number d reported reports (subst (LacksFormat rules d) (kind_is wrong.1.0 wrong.1.1 wrong.1.2) wrong.1.3)
  not_wrong TooManyClients wrong = wrong
  not_wrong TooManyOperations wrong = wrong

module _ (rules : Rules) (ordered : IsOrdered rules.versions) (number : ℕ) (line : List ℕ) (reported : Reported) (reports : TextGives rules number line reported) where
  -- the line reports it by any object that it is the JSON of
  gives : (d : Data) → IsJson line d → Gives rules number d reported
  gives d json = subst (λ (d : Data). Gives rules number d reported) (json_one line reports.0 d reports.1 json) reports.2

  wrong_text : (fault : JsonLineFault) → (d : Data) × IsJson line d × IsWrong rules d fault → ⊥
  wrong_text fault wrong = not_wrong rules ordered number wrong.0 reported (gives wrong.0 wrong.1) fault wrong.2

  wrong_line : (fault : JsonLineFault) → IsWrongIn rules line fault → ⊥
  wrong_line NoJson wrong = wrong reports.0 reports.1
  wrong_line fault wrong = wrong_text fault wrong

pub not_faulty : (rules : Rules) → IsOrdered rules.versions → (number : ℕ) (line : List ℕ) (reported : Option Reported) (fault : JsonLineFault) → LineGives rules number line reported → IsFaulty rules line fault → ⊥
not_faulty rules ordered number line None fault reports faulty = faulty.0 reports
not_faulty rules ordered number line (Some reported) fault reports faulty = wrong_line rules ordered number line reported reports.1 fault faulty.1

-- ---- a line with an operation does not lack a rank

has_rank : (versions : Versions) → IsOrdered versions → (d : Data) (v : ℕ) → GivesVersion versions d v → IsUnranked versions d → ⊥
has_rank Plain ordered d v gives lacks = lacks.2
has_rank (Ranked all) ordered d v gives lacks =
    let e = gives.1 in
    let f = lacks.1 in
    let first = gives.2.1 in
    let second = lacks.2.1 in
    let json : store_json gives.2.0 ≡ store_json lacks.2.0 = cc in
    let place = gives.2.2 in
    lacks.2.3 (subst (Contains all) (store_one gives.2.0 lacks.2.0 json) (place.0, slice_get_within all place.0 gives.2.0 place.1, get_or_from_slice_get all place.0 gives.2.0 gives.2.0 place.1))

op_ranked : (rules : Rules) → IsOrdered rules.versions → (d : Data) (o : Op) (content : Option (List ℕ)) → GivesOp rules d o → GivesContent rules.format d (kind_of o) content → IsUnranked rules.versions d → ⊥
op_ranked rules ordered d (op.Put k x v) content reported gives lacks = has_rank rules.versions ordered d v reported.2 lacks
op_ranked rules ordered d (op.Del k v) content reported gives lacks = has_rank rules.versions ordered d v reported.2 lacks
op_ranked rules ordered d (op.Got k x v) content reported gives lacks = has_rank rules.versions ordered d v reported.2 lacks
op_ranked rules ordered d (op.Gone k v) content reported gives lacks = has_rank rules.versions ordered d v reported.2 lacks
op_ranked rules ordered d (op.Missed k) content reported gives lacks = something rules.format d content gives reported.1

-- a missing or null version has no form
no_version : (versions : Versions) (d : Data) → IsNothing (get (codes "version") d) → IsUnranked versions d → ⊥
no_version Plain d none lacks = lacks.2
no_version (Ranked all) d none lacks = no_store lacks.2.0 (sym lacks.2.1) none
  where
    no_store : (of : AStoreVersion) → store_json of ≡ lacks.0 → IsNothing (get (codes "version") d) → ⊥
    no_store of is (inl none) = let e = lacks.1 in cc
    no_store _ is (inr none) = let e = lacks.1 in grind arith

ranked : (rules : Rules) → IsOrdered rules.versions → (number : ℕ) (d : Data) (reported : Reported) (content : Option (List ℕ)) → Gives rules number d reported
    → GivesContent rules.format d (kind_in reported) content → IsUnranked rules.versions d → ⊥
ranked rules ordered number d (Known reported) content reports has lacks = op_ranked rules ordered d reported.op content reports.1 has lacks
ranked rules ordered number d (Unknown put) content reports has lacks = no_version rules.versions d reports.1.2 lacks

ranked_text : (rules : Rules) → IsOrdered rules.versions → (number : ℕ) (d : Data) (reported : Reported) → Gives rules number d reported → LacksRank rules d → ⊥
ranked_text rules ordered number d reported reports lacks =
    let content = lacks.1.3 in
    ranked rules ordered number d reported content.0 reports
    (subst (λ (kind : Kind). GivesContent rules.format d kind content.0) (its_kind rules number d reported lacks.1.0 lacks.1.1 reports lacks.1.2) content.1) content.2

pub not_unranked : (rules : Rules) → IsOrdered rules.versions → (number : ℕ) (line : List ℕ) (reported : Option Reported) → LineGives rules number line reported → LineLacksRank rules line → ⊥
not_unranked rules ordered number line None reports lacks = lacks.0 reports
not_unranked rules ordered number line (Some reported) reports lacks =
    let other = lacks.1 in
    ranked_text rules ordered number other.0 reported (gives rules ordered number line reported reports.1 other.0 other.1) other.2
