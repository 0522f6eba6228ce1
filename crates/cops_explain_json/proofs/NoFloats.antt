-- No explanation has a float.
use Rattle.std.proofs.Common.{◌≡◌, ◌+◌, ℕ, List, [], ◌∷◌, ◌++◌, Bool, true, false, cond, Option, Some, None, length, take, refl, subst, sym}
use Rattle.std.specs.Prelude.{⊤, ◌||◌, codes}
use Rattle.std.specs.Ordering.{match_ordering}
use Rattle.std.specs.declared.cmp.Ordering.{Ordering}
use Rattle.std.specs.declared.cmp.Ordering.TheVariants.{Less, Equal, Greater}
use Rattle.std.specs.Cmp.Lexicographic.{slice_cmp}
use Rattle.std.specs.Ordering.{nat_cmp}
use Rattle.std.specs.Str.{is_utf8}
use Rattle.std.proofs.lemmas.Bool.{or_parts}
use Rattle.hex.specs.Hex.{encode_lower}
use Rattle.serde_json.specs.Data.{Data, Members, no_members, member, null, put}
use Rattle.serde_json.specs.View.{items_of}
use Rattle.serde_json.specs.Written.{has_float, items_have_float, members_have_float}
use Rattle.cops_json.specs.Json.{number_json, text_json}
use Rattle.cops_types.specs.declared.op.OpName.{OpName}
use Rattle.cops_types.specs.Histories.{Operation, write, read, missed, op_at}
use Rattle.cops_types.specs.declared.selection.Selection.{Selection}
use Rattle.cops_types.specs.declared.selection.Selection.TheVariants.{First, All, One}
use Rattle.cops_audit.specs.declared.fault.Fault.{Fault}
use Rattle.cops_audit.specs.declared.fault.Fault.TheVariants.{Doubled, NoSource, NotAbove, Stale}
use Rattle.cops_audit.specs.declared.verdict.Verdict.{Verdict}
use Rattle.cops_audit.specs.declared.verdict.Verdict.TheVariants.{Accepted, Refused}
use Rattle.cops_audit.specs.declared.verdict.Faults.{Faults}
use Rattle.cops_audit.specs.Faults.{faults_of, fault_of_number, op_of}
use Rattle.cops_explain.specs.declared.limits.TheConstants.{FIRST_FAULTS, MOST_OTHERS}
use Rattle.cops_outcomes.specs.declared.counts.OutcomeCounts.{OutcomeCounts}
use Rattle.cops_outcomes.specs.Words.{has_none}
use Rattle.cops_explain.specs.Naming.{ANamedHistory, outcomes_of}
use Rattle.cops_explain.specs.declared.naming.Naming.{Naming}
use Rattle.cops_explain.specs.declared.naming.Naming.TheVariants.{Trace, Lines}
use Rattle.cops_explain_json.specs.Objects.{Member, object_json, with_member, with_members}
use Rattle.cops_explain_json.specs.Operations.{act_members, client_name, did_members, line_members, name_members, operation_json, operation_members, operations_json, value_member, version_json}
use Rattle.cops_explain_json.specs.Faults.{AreFaults, IsFaultJson, Show}
use Rattle.cops_explain_json.specs.Explanations.{AreAsked, IsOne, IsVerdictJson, later_classes, outcome_members, outcomes_json, refusal_members, texts_json, verdict_members}
use Rattle.cops_explain_json.specs.Faulty.{at_line, faulty_json}

abbrev pub HasNoFloat : Data → Type 0
HasNoFloat json = has_float json ≡ false

-- none of the members has one
abbrev NoFloats : List Member → Type 0
NoFloats [] = ⊤
NoFloats (next ∷ more) = HasNoFloat next.1 × NoFloats more

either : (b c : Bool) → b ≡ false → c ≡ false → (b || c) ≡ false
either b c p q = rw (p, q)

placed : (o : Ordering) (a b c : Members) → members_have_float a ≡ false → members_have_float b ≡ false → members_have_float c ≡ false → members_have_float (match_ordering o a b c) ≡ false
placed Less a b c p q r = p
placed Equal a b c p q r = q
placed Greater a b c p q r = r

put_none : (old : Members) (name : List ℕ) (value : Data) → members_have_float old ≡ false → HasNoFloat value → members_have_float (put name value old) ≡ false
put_none no_members name value none is = either (has_float value) false is refl
put_none (member k d more) name value none is =
    let parts = or_parts (has_float d) (members_have_float more) none in
    placed (slice_cmp nat_cmp name k) (member name value (member k d more)) (member k value more) (member k d (put name value more)) (either (has_float value) _ is none)
    (either (has_float value) _ is parts.1) (either (has_float d) _ parts.0 (put_none more name value parts.1 is))

with_none : (old : Members) (name : List ℕ) (value : Data) → members_have_float old ≡ false → HasNoFloat value → members_have_float (with_member old name value) ≡ false
unfolding with_member
with_none old name value none is = put_none old name value none is

all_none : (members : List Member) (old : Members) → NoFloats members → members_have_float old ≡ false → members_have_float (with_members old members) ≡ false
all_none [] old is none = none
all_none (next ∷ more) old is none = all_none more (with_member old next.0 next.1) is.1 (with_none old next.0 next.1 none is.0)

object_none : (members : List Member) → NoFloats members → HasNoFloat (object_json members)
object_none members is = all_none members no_members is refl

none-append : (a b : List Member) → NoFloats a → NoFloats b → NoFloats (a ++ b)
none-append [] b p q = q
none-append (next ∷ a) b p q = (p.0, none-append a b p.1 q)

bytes_none : (name hex_name bytes : List ℕ) (test : Bool) → HasNoFloat (let m : Member = cond test (name, text_json bytes) (hex_name, text_json (encode_lower bytes)) in m.1)
bytes_none name hex_name bytes true = refl
bytes_none name hex_name bytes false = refl

value_none : (value : Option (List ℕ)) → HasNoFloat (value_member value).1
value_none (Some value) = bytes_none _ _ value (is_utf8 value)
value_none None = refl

line_none : (naming : Naming) (op : OpName) → NoFloats (line_members naming op)
line_none Trace op = tt
line_none (Lines names) op = (bytes_none _ _ (client_name names op) (is_utf8 (client_name names op)), (refl, tt))

act_none : (word key : List ℕ) (value : Option (List ℕ)) (version : Data) → HasNoFloat version → NoFloats (act_members word key value version)
act_none word key value version is = (refl, (bytes_none _ _ key (is_utf8 key), (value_none value, (is, tt))))

did_none : (did : Option Operation) → NoFloats (did_members did)
did_none (Some (write key (Some value) version)) = act_none (codes "put") key (Some value) (version_json version) refl
did_none (Some (write key None version)) = act_none (codes "del") key None (version_json version) refl
did_none (Some (read key value version)) = act_none (codes "get") key value (version_json version) refl
did_none (Some (missed key)) = act_none (codes "get") key None null refl
did_none None = tt

operation_members_none : (named : ANamedHistory) (op : OpName) → NoFloats (operation_members named op)
operation_members_none named op =
    none-append (name_members named.naming op) (did_members (op_at named.sessions op)) (refl, (refl, line_none named.naming op)) (did_none (op_at named.sessions op))

operation_none : (named : ANamedHistory) (op : OpName) → HasNoFloat (operation_json named op)
operation_none named op = object_none (operation_members named op) (operation_members_none named op)

operations_none : (named : ANamedHistory) (ops : List OpName) → HasNoFloat (operations_json named ops)
operations_none named [] = refl
operations_none named (op ∷ ops) = either (has_float (operation_json named op)) _ (operation_none named op) (operations_none named ops)

shown_none : (named : ANamedHistory) (fault : Fault) (members : List Member) → Show named fault members → NoFloats members
shown_none named (Doubled op) members (others, are, is) = subst NoFloats (sym is) (operations_none named (take MOST_OTHERS others), (refl, tt))
shown_none named (NoSource op) members (others, are, is) = subst NoFloats (sym is) (operations_none named (take MOST_OTHERS others), (refl, tt))
shown_none named (NotAbove fault) members is = subst NoFloats (sym is) (operation_none named fault.earlier, tt)
shown_none named (Stale fault) members (chain, first, is) = subst NoFloats (sym is) (operation_none named fault.newer, (operations_none named chain, tt))

fault_none : (named : ANamedHistory) (number : ℕ) (fault : Fault) (json : Data) → IsFaultJson named number fault json → HasNoFloat json
fault_none named number fault json (shown, show, is) =
    let op = op_of fault in
    let members = none-append (operation_members named op) shown (operation_members_none named op) (shown_none named fault shown show) in
    subst HasNoFloat (sym is) (object_none ((codes "number", number_json number) ∷ operation_members named op ++ shown) (refl, members))

faults_none : (named : ANamedHistory) (number : ℕ) (faults : List Fault) (list : List Data) → AreFaults named number faults list → items_have_float (items_of list) ≡ false
faults_none named number [] list is = subst (λ (l : List Data). items_have_float (items_of l) ≡ false) (sym is) refl
faults_none named number (fault ∷ faults) list (first, rest, one, is, more) =
    subst (λ (l : List Data). items_have_float (items_of l) ≡ false) (sym is)
    (either (has_float first) _ (fault_none named number fault first one) (faults_none named (number + 1) faults rest more))

one_none : (named : ANamedHistory) (number : ℕ) (fault : Option Fault) (list : List Data) → IsOne named number fault list → items_have_float (items_of list) ≡ false
one_none named number (Some fault) list is = faults_none named number (fault ∷ []) list is
one_none named number None list is = subst (λ (l : List Data). items_have_float (items_of l) ≡ false) (sym is) refl

asked_none : (named : ANamedHistory) (faults : List Fault) (asked : Selection) (list : List Data) → AreAsked named faults asked list → items_have_float (items_of list) ≡ false
asked_none named faults First list is = faults_none named 1 (take FIRST_FAULTS faults) list is
asked_none named faults All list is = faults_none named 1 faults list is
asked_none named faults (One number) list is = one_none named number (fault_of_number faults number) list is

texts_none : (texts : List (List ℕ)) → HasNoFloat (texts_json texts)
texts_none [] = refl
texts_none (text ∷ texts) = texts_none texts

-- a member that is there unless a test holds
unless_none : (name : List ℕ) (json : Data) (test : Bool) → HasNoFloat json → NoFloats (cond test [] ((name, json) ∷ []))
unless_none name json true is = tt
unless_none name json false is = (is, tt)

outcomes_none : (counts : OutcomeCounts) → NoFloats (outcome_members counts)
outcomes_none counts =
    let numbers : List Member = (codes "took_effect", number_json counts.took_effect) ∷ (codes "left_out", number_json counts.left_out) ∷ [] in
    unless_none (codes "unknown_outcomes") (outcomes_json counts) (has_none counts) (object_none numbers (refl, (refl, tt)))

verdict_members_none : (named : ANamedHistory) (verdict : List ℕ) (faults : ℕ) → NoFloats (verdict_members named verdict faults)
verdict_members_none named verdict faults = (refl, (refl, (refl, (refl, outcomes_none (outcomes_of named.naming)))))

refusal_none : (faults : Faults) (list : List Data) → items_have_float (items_of list) ≡ false → NoFloats (refusal_members faults list)
refusal_none faults list none = (refl, (none, (texts_none (later_classes faults), tt)))

pub verdict_none : (named : ANamedHistory) (verdict : Verdict) (asked : Selection) (json : Data) → IsVerdictJson named verdict asked json → HasNoFloat json
verdict_none named (Accepted puts) asked json is =
    let numbers = verdict_members named (codes "accepted") 0 in
    subst HasNoFloat (sym is) (object_none numbers (verdict_members_none named (codes "accepted") 0))
verdict_none named (Refused faults) asked json (list, are, is) =
    let count = length (faults_of faults) in
    let numbers = verdict_members named (codes "refused") count in
    let rest = refusal_members faults list in
    let none = none-append numbers rest (verdict_members_none named (codes "refused") count) (refusal_none faults list (asked_none named (faults_of faults) asked list are)) in
    subst HasNoFloat (sym is) (object_none (numbers ++ rest) none)

at_line_none : (line : Option ℕ) → NoFloats (at_line line)
at_line_none (Some line) = (refl, tt)
at_line_none None = tt

pub faulty_none : (why : List ℕ) (line : Option ℕ) → HasNoFloat (faulty_json why line)
faulty_none why line =
    object_none ((codes "verdict", text_json (codes "faulty")) ∷ (codes "fault", text_json why) ∷ at_line line) (refl, (refl, at_line_none line))
