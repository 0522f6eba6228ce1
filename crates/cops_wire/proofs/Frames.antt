-- What any bytes decode to, and that the result is unique.
use Rattle.std.proofs.Common.{◌≡◌, ◌≢◌, ℕ, suc, ◌+◌, ◌-◌, ◌<◌, ◌≤◌, Bool, true, false, cond, ltb, eqb, ◌||◌, List, [], ◌∷◌, ◌++◌, length, take, drop, Option, Some, None, Result, Ok, Err, refl, sym, ap, subst, ◌∙◌, append_assoc, arith, inl, inr}
use Rattle.std.specs.Prelude.{unwrap_or, MatchOption, IsSome, IsTrue}
use Rattle.std.specs.Int.{w32, from_be_bytes}
use Rattle.std.proofs.lemmas.Bool.{ltb-false, ltb-true, le-ltb, lt-ltb, eqb-true, eqb-false, eq-eqb, ne_eqb, or_cases, or_parts, or_from, or_left, or_right, cond_both}
use Rattle.std.proofs.lemmas.List.{take_at, drop_at, take-append-drop, length-append, length-take, length-drop, append-nil, append_cancel_left, take-append-le}
use Rattle.cops_wire.specs.declared.fault.WireFault.{WireFault}
use Rattle.cops_wire.specs.declared.fault.WireFault.TheVariants.{Memory, Short, BadLength, UnknownKind, BadField, TrailingBytes}
use Rattle.cops_wire.specs.declared.reading.ReadFault.TheVariants as faults
use Rattle.cops_wire.specs.Field.{Field, Content, u32, encoded_number, encoded_all}
use Rattle.cops_wire.specs.Answer.{IsBytes, length_at, IsShort, HasBadLength, BeginsWithFrame, BeginsWithKnown, BeginsWithTaking, NoneBegins, HasBadField, HasTrailingBytes, HasMessage, IsAnswer, IsFromFields}
use Rattle.cops_wire.specs.Legal.{AllLegal, IsMessage}
use Rattle.cops_wire.specs.Grammar.{Grammar, Parts, fields_of, body, encoding}
use Rattle.cops_wire.specs.Lengths.{IsGrammar}
use Rattle.cops_wire.specs.Reading.{field_at, fields_at, known_fields_at, contents_at, whole, body_at, frame_at, comes_to_memory, body_takes}
use Rattle.cops_wire.proofs.Fields.{IsBytes-take, IsBytes-drop, IsBytes-left, IsBytes-right, wide, field_takes, field_again}
use Rattle.cops_wire.proofs.Rows.{Read, never_unknown, row_fits, length-encoded_all, fields_take, fields_again, fields_stop, fields_stop_again, ComesTo, fields_come}

abbrev Answer : Type 0
Answer = Result (Parts × ℕ) WireFault

-- ---- the result of reading is the one that the six checks define

none_begins : (field : Field) (rest : List ℕ) → field_at field rest ≡ None → NoneBegins field rest
none_begins field rest none c legal more e =
    let again = field_again field c more legal in
    let same : field_at field rest ≡ Some (c, more) = ap (field_at field) e ∙ again in
    absurd cc

message_from : (g : Grammar) (p : Parts) (fs : List Field) → fields_of g p.kind ≡ Some fs → AllLegal fs p.contents → IsMessage g p
message_from g p fs known legal = subst (λ (o : Option (List Field)). MatchOption o ⊥ (λ fields. AllLegal fields p.contents)) (sym known) legal

match_known : (o : Option (List Field)) (cs : List Content) → MatchOption o ⊥ (λ fields. AllLegal fields cs) → (fs : List Field) × (o ≡ Some fs) × AllLegal fs cs
match_known None cs h = absurd h
match_known (Some fs) cs h = (fs, refl, h)

module _ (g : Grammar) (bytes : List ℕ) (kind : ℕ) (fields : List ℕ) (frame : BeginsWithFrame g bytes kind fields) (fits : IsBytes fields) where
  message_found : (fs : List Field) (cs : List Content) → fields_of g kind ≡ Some fs → fields_at fs fields ≡ Ok (cs, [])
      → HasMessage g bytes (record { kind = kind; contents = cs }) (4 + suc (length fields))
  message_found fs cs known read =
      let t = fields_take fs fields (cs, []) fits read in
      let p : Parts = record { kind = kind; contents = cs } in
      let all : encoded_all fs cs ≡ fields = sym (append-nil (encoded_all fs cs)) ∙ sym t.0.parts in
      let body_is : body g p ≡ kind ∷ fields = ap (λ (o : Option (List Field)). kind ∷ encoded_all (unwrap_or o []) cs) known ∙ ap (λ (t : List ℕ). kind ∷ t) all in
      let encoding_is : encoding g p ≡ encoded_number u32 (length (kind ∷ fields)) ++ (kind ∷ fields) = ap (λ (b : List ℕ). encoded_number u32 (length b) ++ b) body_is in
      record {
        message = message_from g p fs known t.1;
        rest = frame.rest;
        front = frame.front ∙ ap (λ (s : List ℕ). s ++ frame.rest) (sym encoding_is);
        length_is = omega (arith, ap length encoding_is, length-append (encoded_number u32 (length (kind ∷ fields))) (kind ∷ fields), (wide u32).len (length (kind ∷ fields)));
      }

  read_answers : (fs : List Field) (r : Read) → fields_of g kind ≡ Some fs → fields_at fs fields ≡ r → IsAnswer g bytes (whole (suc (length fields)) kind r)
  read_answers fs (Ok (cs, [])) known read = message_found fs cs known read
  read_answers fs (Ok (cs, b ∷ bs)) known read =
      let t = fields_take fs fields (cs, b ∷ bs) fits read in
      record { kind = kind; fields = fields; frame = frame; types = fs; known = known; contents = cs; legal = t.1; rest = b ∷ bs; split = t.0.parts; more = λ e. cc }
  read_answers fs (Err faults.Memory) known read = let s = fields_stop fs fields faults.Memory fits read in let e = s.fault_is in absurd cc
  read_answers fs (Err faults.UnknownKind) known read = let s = fields_stop fs fields faults.UnknownKind fits read in let e = s.fault_is in absurd cc
  read_answers fs (Err (faults.BadField left)) known read =
      let s = fields_stop fs fields (faults.BadField left) fits read in
      let left_is : left ≡ length s.rest = let e = s.fault_is in cc in
      record {
        kind = kind;
        fields = fields;
        frame = frame;
        before = s.before;
        field = s.field;
        after = s.after;
        known = known ∙ ap (λ (t : List Field). Some t) s.types;
        contents = s.contents;
        legal = s.legal;
        rest = s.rest;
        split = s.split;
        bad = none_begins s.field s.rest s.none;
        place = omega (arith, left_is, ap length s.split, length-append (encoded_all s.before s.contents) s.rest);
      }

  known_answers : (o : Option (List Field)) → fields_of g kind ≡ o → IsAnswer g bytes (whole (suc (length fields)) kind (known_fields_at o fields))
  known_answers None e = record { kind = kind; fields = fields; frame = frame; unknown = e }
  known_answers (Some fs) e = read_answers fs (fields_at fs fields) e refl

body_answers : (g : Grammar) (bytes text rest : List ℕ) → IsBytes text → bytes ≡ (encoded_number u32 (length text) ++ text) ++ rest → 0 < length text → length text ≤ g.longest → IsAnswer g bytes (body_at g text)
body_answers g bytes [] rest fits front some below = absurd (omega arith)
body_answers g bytes (kind ∷ fields) rest fits front some below =
    let frame : BeginsWithFrame g bytes kind fields = record { rest = rest; front = front; fits = below } in
    known_answers g bytes kind fields frame (IsBytes-right (kind ∷ []) fields fits) (fields_of g kind) refl

-- the bytes begin with a frame
frame_parts : (bytes : List ℕ) → IsBytes bytes → 4 ≤ length bytes → 4 + length_at bytes ≤ length bytes
    → let text = take (length_at bytes) (drop 4 bytes) in (length text ≡ length_at bytes) × (bytes ≡ (encoded_number u32 (length text) ++ text) ++ drop (length_at bytes) (drop 4 bytes))
frame_parts bytes fits four long =
    let len : ℕ = length_at bytes in
    let text : List ℕ = take len (drop 4 bytes) in
    let rest : List ℕ = drop len (drop 4 bytes) in
    let text_len : length text ≡ len = omega (arith, length-take len (drop 4 bytes), length-drop 4 bytes) in
    let head : encoded_number u32 len ≡ take 4 bytes = (wide u32).back (take 4 bytes) (omega (arith, length-take 4 bytes)) (IsBytes-take 4 bytes fits) in
    let head' : encoded_number u32 (length text) ≡ take 4 bytes = ap (encoded_number u32) text_len ∙ head in
    let tail : text ++ rest ≡ drop 4 bytes = take-append-drop len (drop 4 bytes) in
    let joined : (encoded_number u32 (length text) ++ text) ++ rest ≡ bytes =
    append_assoc (encoded_number u32 (length text)) text rest
    ∙ ap (λ (t : List ℕ). t ++ (text ++ rest)) head'
    ∙ ap (λ (t : List ℕ). take 4 bytes ++ t) tail
    ∙ take-append-drop 4 bytes in
    (text_len, sym joined)

not_zero : (n : ℕ) → eqb n 0 ≡ false → 0 < n
not_zero n e = let ne : n ≡ 0 → ⊥ = eqb-false n 0 e in omega arith

known_come : (o : Option (List Field)) (fields : List ℕ) → IsBytes fields → IsTrue (comes_to_memory (unwrap_or o []) fields) → (fs : List Field) × (o ≡ Some fs) × ComesTo fs fields
known_come None fields fits h = absurd cc
known_come (Some fs) fields fits h = (fs, refl, fields_come fs fields fits h)

taking_prefix : (g : Grammar) (bytes text rest : List ℕ) → IsBytes text → bytes ≡ (encoded_number u32 (length text) ++ text) ++ rest → length text ≤ g.longest → IsTrue (body_takes g text)
    → BeginsWithTaking g bytes
taking_prefix g bytes [] rest fits front below h = absurd cc
taking_prefix g bytes (kind ∷ fields) rest fits front below h =
    let k = known_come (fields_of g kind) fields (IsBytes-right (kind ∷ []) fields fits) h in
    let s = k.2 in
    record {
      kind = kind;
      fields = fields;
      frame = record { rest = rest; front = front; fits = below };
      before = s.before;
      field = s.field;
      after = s.after;
      known = k.1 ∙ ap (λ (t : List Field). Some t) s.types;
      takes = s.takes;
      contents = s.contents;
      legal = s.legal;
      rest = s.rest;
      split = s.split;
      part = s.part;
      part_legal = s.part_legal;
      more = s.more;
      begins = s.begins;
    }

-- a frame in which reading comes to a field whose reading allocates
pub taking_frame : (g : Grammar) (bytes : List ℕ) → IsBytes bytes → 4 ≤ length bytes → length_at bytes ≤ g.longest → 4 + length_at bytes ≤ length bytes
    → IsTrue (body_takes g (take (length_at bytes) (drop 4 bytes))) → BeginsWithTaking g bytes
taking_frame g bytes fits four below long h =
    let parts = frame_parts bytes fits four long in
    taking_prefix g bytes (take (length_at bytes) (drop 4 bytes)) (drop (length_at bytes) (drop 4 bytes)) (IsBytes-take (length_at bytes) (drop 4 bytes) (IsBytes-drop 4 bytes fits)) parts.1 (omega (arith, parts.0)) h

-- a kind with such a field is a kind of the grammar
pub taking_known : (g : Grammar) (bytes : List ℕ) → BeginsWithTaking g bytes → BeginsWithKnown g bytes
taking_known g bytes t =
    let some : (o : Option (List Field)) (fs : List Field) → o ≡ Some fs → IsSome o = λ o fs e. subst (λ (p : Option (List Field)). IsSome p) (sym e) cc in
    record { kind = t.kind; fields = t.fields; frame = t.frame; known = some (fields_of g t.kind) (t.before ++ t.field ∷ t.after) t.known }

pub frame_answers : (g : Grammar) (bytes : List ℕ) → IsBytes bytes → IsAnswer g bytes (frame_at g bytes)
unfolding frame_at
frame_answers g bytes fits =
    let len : ℕ = length_at bytes in
    cond_both (ltb (length bytes) 4) _ _ (IsAnswer g bytes) (λ t. inl (ltb-true _ _ t)) (λ e.
    let four : 4 ≤ length bytes = ltb-false _ _ e in
    cond_both (eqb len 0 || ltb g.longest len) _ _ (IsAnswer g bytes) (λ t. (four, elim (or_cases _ _ t) [ inl z ↦ inl (eqb-true _ _ z) | inr z ↦ inr (ltb-true _ _ z) ])) (λ e'.
    let both = or_parts (eqb len 0) (ltb g.longest len) e' in
    let some : 0 < len = not_zero len both.0 in
    let below : len ≤ g.longest = ltb-false _ _ both.1 in
    cond_both (ltb (length bytes) (4 + len)) _ _ (IsAnswer g bytes) (λ t. inr (some, below, ltb-true _ _ t)) (λ e''.
    let long : 4 + len ≤ length bytes = ltb-false _ _ e'' in
    let parts = frame_parts bytes fits four long in
    body_answers g bytes (take len (drop 4 bytes)) (drop len (drop 4 bytes)) (IsBytes-take len (drop 4 bytes) (IsBytes-drop 4 bytes fits)) parts.1 (omega (arith, parts.0)) (omega (arith, parts.0)))))

-- ---- the result is unique

whole_frame : (g : Grammar) → IsGrammar g → (text rest : List ℕ) → 0 < length text → length text ≤ g.longest → frame_at g ((encoded_number u32 (length text) ++ text) ++ rest) ≡ body_at g text
unfolding frame_at
whole_frame g ok text rest some below =
    let head : List ℕ = encoded_number u32 (length text) in
    let bytes : List ℕ = (head ++ text) ++ rest in
    let regrouped : bytes ≡ head ++ (text ++ rest) = append_assoc head text rest in
    let size : length head ≡ 4 = (wide u32).len (length text) in
    let total : length bytes ≡ 4 + (length text + length rest) = omega (arith, ap length regrouped, length-append head (text ++ rest), length-append text rest) in
    let front : take 4 bytes ≡ head = ap (take 4) regrouped ∙ take_at head (text ++ rest) 4 size in
    let back : drop 4 bytes ≡ text ++ rest = ap (drop 4) regrouped ∙ drop_at head (text ++ rest) 4 size in
    let len : length_at bytes ≡ length text = ap (from_be_bytes w32) front ∙ (wide u32).again (length text) (omega (arith, ok.0)) in
    let four : ltb (length bytes) 4 ≡ false = le-ltb _ _ (omega (arith, total)) in
    let good : (eqb (length_at bytes) 0 || ltb g.longest (length_at bytes)) ≡ false = or_from _ _ (ne_eqb (length_at bytes) 0 (λ (e : length_at bytes ≡ 0). omega (arith, e, len))) (le-ltb g.longest (length_at bytes) (omega (arith, len))) in
    let long : ltb (length bytes) (4 + length_at bytes) ≡ false = le-ltb _ _ (omega (arith, len, total)) in
    let inside : take (length_at bytes) (drop 4 bytes) ≡ text = ap (λ (n : ℕ). take n (drop 4 bytes)) len ∙ ap (take (length text)) back ∙ take_at text rest (length text) refl in
    ap (λ (b : Bool). cond b (Err Short) (cond (eqb (length_at bytes) 0 || ltb g.longest (length_at bytes)) (Err BadLength) (cond (ltb (length bytes) (4 + length_at bytes)) (Err Short) (body_at g (take (length_at bytes) (drop 4 bytes)))))) four
    ∙ ap (λ (b : Bool). cond b (Err BadLength) (cond (ltb (length bytes) (4 + length_at bytes)) (Err Short) (body_at g (take (length_at bytes) (drop 4 bytes))))) good
    ∙ ap (λ (b : Bool). cond b (Err Short) (body_at g (take (length_at bytes) (drop 4 bytes)))) long
    ∙ ap (body_at g) inside

framed : (g : Grammar) → IsGrammar g → (bytes : List ℕ) (kind : ℕ) (fields : List ℕ) → BeginsWithFrame g bytes kind fields → frame_at g bytes ≡ whole (suc (length fields)) kind (contents_at g kind fields)
framed g ok bytes kind fields frame = ap (frame_at g) frame.front ∙ whole_frame g ok (kind ∷ fields) frame.rest (omega arith) frame.fits

pub body_fits : (g : Grammar) → IsGrammar g → (p : Parts) → IsMessage g p → length (body g p) ≤ g.longest
body_fits g ok p m =
    let k = match_known (fields_of g p.kind) p.contents m in
    let fields_are : encoded_all (unwrap_or (fields_of g p.kind) []) p.contents ≡ encoded_all k.0 p.contents = ap (λ (o : Option (List Field)). encoded_all (unwrap_or o []) p.contents) k.1 in
    let row = row_fits g.longest p.kind g.kinds k.0 ok.1 k.1 in
    omega (arith, ap length fields_are, length-encoded_all k.0 p.contents k.2, row)

known : (g : Grammar) (kind : ℕ) (fields : List ℕ) (o : Option (List Field)) → fields_of g kind ≡ o → contents_at g kind fields ≡ known_fields_at o fields
known g kind fields o e = ap (λ (p : Option (List Field)). known_fields_at p fields) e

pub encoding_again : (g : Grammar) → IsGrammar g → (p : Parts) (rest : List ℕ) → IsMessage g p → frame_at g (encoding g p ++ rest) ≡ Ok (p, length (encoding g p))
encoding_again g ok p rest m =
    let fields : List ℕ = encoded_all (unwrap_or (fields_of g p.kind) []) p.contents in
    let k = match_known (fields_of g p.kind) p.contents m in
    let fields_are : fields ≡ encoded_all k.0 p.contents = ap (λ (o : Option (List Field)). encoded_all (unwrap_or o []) p.contents) k.1 in
    let read : contents_at g p.kind fields ≡ Ok (p.contents, []) =
    known g p.kind fields (Some k.0) k.1
    ∙ ap (fields_at k.0) (fields_are ∙ sym (append-nil (encoded_all k.0 p.contents)))
    ∙ fields_again k.0 p.contents [] k.2 in
    whole_frame g ok (p.kind ∷ fields) rest (omega arith) (body_fits g ok p m)
    ∙ ap (whole (suc (length fields)) p.kind) read
    ∙ ap (λ (n : ℕ). Ok (p, n)) (let size : 4 + suc (length fields) ≡ length (encoding g p) = omega (arith, length-append (encoded_number u32 (length (body g p))) (body g p), (wide u32).len (length (body g p))) in size)

field_none : (field : Field) (rest : List ℕ) (o : Option (Content × List ℕ)) → IsBytes rest → NoneBegins field rest → field_at field rest ≡ o → o ≡ None
field_none field rest None fits none e = refl
field_none field rest (Some x) fits none e =
    let t = field_takes field rest x fits e in
    absurd (none x.0 t.1 x.1 t.0.parts)

trailing : (len kind : ℕ) (cs : List Content) (rest : List ℕ) → rest ≢ [] → whole len kind (Ok (cs, rest)) ≡ Err TrailingBytes
trailing len kind cs [] some = absurd (some refl)
trailing len kind cs (b ∷ bs) some = refl

fields_fit : (g : Grammar) (bytes : List ℕ) (kind : ℕ) (fields : List ℕ) → IsBytes bytes → BeginsWithFrame g bytes kind fields → IsBytes fields
fields_fit g bytes kind fields fits frame =
    let all : IsBytes ((encoded_number u32 (length (kind ∷ fields)) ++ (kind ∷ fields)) ++ frame.rest) = subst IsBytes frame.front fits in
    let text : IsBytes (kind ∷ fields) = IsBytes-right (encoded_number u32 (length (kind ∷ fields))) (kind ∷ fields) (IsBytes-left (encoded_number u32 (length (kind ∷ fields)) ++ (kind ∷ fields)) frame.rest all) in
    IsBytes-right (kind ∷ []) fields text

-- reading short bytes gives Short
pub short_again : (g : Grammar) (bytes : List ℕ) → IsShort g bytes → frame_at g bytes ≡ Err Short
unfolding frame_at
short_again g bytes (inl lt) = ap (λ (b : Bool). cond b (Err Short) (cond (eqb (length_at bytes) 0 || ltb g.longest (length_at bytes)) (Err BadLength) (cond (ltb (length bytes) (4 + length_at bytes)) (Err Short) (body_at g (take (length_at bytes) (drop 4 bytes)))))) (lt-ltb _ _ lt)
short_again g bytes (inr h) =
    let good : (eqb (length_at bytes) 0 || ltb g.longest (length_at bytes)) ≡ false = or_from _ _ (ne_eqb (length_at bytes) 0 (λ (e : length_at bytes ≡ 0). omega (arith, e, h.0))) (le-ltb _ _ h.1) in
    let long : ltb (length bytes) (4 + length_at bytes) ≡ true = lt-ltb _ _ h.2 in
    let inner : cond (eqb (length_at bytes) 0 || ltb g.longest (length_at bytes)) (Err BadLength) (cond (ltb (length bytes) (4 + length_at bytes)) (Err Short) (body_at g (take (length_at bytes) (drop 4 bytes)))) ≡ Err Short =
    ap (λ (b : Bool). cond b (Err BadLength) (cond (ltb (length bytes) (4 + length_at bytes)) (Err Short) (body_at g (take (length_at bytes) (drop 4 bytes))))) good
    ∙ ap (λ (b : Bool). cond b (Err Short) (body_at g (take (length_at bytes) (drop 4 bytes)))) long in
    cond_both (ltb (length bytes) 4) _ _ (λ (r : Answer). r ≡ Err Short) (λ t. refl) (λ e. inner)

bad_length_again : (g : Grammar) (bytes : List ℕ) → HasBadLength g bytes → frame_at g bytes ≡ Err BadLength
unfolding frame_at
bad_length_again g bytes h =
    let four : ltb (length bytes) 4 ≡ false = le-ltb _ _ h.0 in
    let bad : (eqb (length_at bytes) 0 || ltb g.longest (length_at bytes)) ≡ true = elim h.1 [ inl z ↦ or_left _ _ (eq-eqb _ _ z) | inr z ↦ or_right _ _ (lt-ltb _ _ z) ] in
    ap (λ (b : Bool). cond b (Err Short) (cond (eqb (length_at bytes) 0 || ltb g.longest (length_at bytes)) (Err BadLength) (cond (ltb (length bytes) (4 + length_at bytes)) (Err Short) (body_at g (take (length_at bytes) (drop 4 bytes)))))) four
    ∙ ap (λ (b : Bool). cond b (Err BadLength) (cond (ltb (length bytes) (4 + length_at bytes)) (Err Short) (body_at g (take (length_at bytes) (drop 4 bytes))))) bad

bad_field_again : (g : Grammar) → IsGrammar g → (bytes : List ℕ) (offset : ℕ) → IsBytes bytes → HasBadField g bytes offset → frame_at g bytes ≡ Err (BadField offset)
bad_field_again g ok bytes offset fits h =
    let fit : IsBytes h.fields = fields_fit g bytes h.kind h.fields fits h.frame in
    let rest_fit : IsBytes h.rest = IsBytes-right (encoded_all h.before h.contents) h.rest (subst IsBytes h.split fit) in
    let none : field_at h.field h.rest ≡ None = field_none h.field h.rest (field_at h.field h.rest) rest_fit h.bad refl in
    let read : contents_at g h.kind h.fields ≡ Err (faults.BadField (length h.rest)) =
    known g h.kind h.fields (Some (h.before ++ h.field ∷ h.after)) h.known
    ∙ ap (fields_at (h.before ++ h.field ∷ h.after)) h.split
    ∙ fields_stop_again h.before h.field h.after h.contents h.rest h.legal none in
    let place : 4 + suc (length h.fields) - length h.rest ≡ offset = omega (arith, h.place, ap length h.split, length-append (encoded_all h.before h.contents) h.rest) in
    framed g ok bytes h.kind h.fields h.frame
    ∙ ap (whole (suc (length h.fields)) h.kind) read
    ∙ ap (λ (n : ℕ). Err (BadField n)) place

trailing_again : (g : Grammar) → IsGrammar g → (bytes : List ℕ) → HasTrailingBytes g bytes → frame_at g bytes ≡ Err TrailingBytes
trailing_again g ok bytes h =
    let read : contents_at g h.kind h.fields ≡ Ok (h.contents, h.rest) =
    known g h.kind h.fields (Some h.types) h.known ∙ ap (fields_at h.types) h.split ∙ fields_again h.types h.contents h.rest h.legal in
    framed g ok bytes h.kind h.fields h.frame
    ∙ ap (whole (suc (length h.fields)) h.kind) read
    ∙ trailing (suc (length h.fields)) h.kind h.contents h.rest h.more

pub only_answer : (g : Grammar) → IsGrammar g → (bytes : List ℕ) → IsBytes bytes → (a : Answer) → IsAnswer g bytes a → frame_at g bytes ≡ a
only_answer g ok bytes fits (Ok x) h = ap (frame_at g) h.front ∙ encoding_again g ok x.0 h.rest h.message ∙ ap (λ (n : ℕ). Ok (x.0, n)) (sym h.length_is)
only_answer g ok bytes fits (Err Memory) h = absurd h
only_answer g ok bytes fits (Err Short) h = short_again g bytes h
only_answer g ok bytes fits (Err BadLength) h = bad_length_again g bytes h
only_answer g ok bytes fits (Err UnknownKind) h =
    framed g ok bytes h.kind h.fields h.frame ∙ ap (whole (suc (length h.fields)) h.kind) (known g h.kind h.fields None h.unknown)
only_answer g ok bytes fits (Err (BadField offset)) h = bad_field_again g ok bytes offset fits h
only_answer g ok bytes fits (Err TrailingBytes) h = trailing_again g ok bytes h

-- no encoding is a prefix of another
pub one_encoding : (g : Grammar) → IsGrammar g → (p q : Parts) (x y : List ℕ) → IsMessage g p → IsMessage g q → encoding g p ++ x ≡ encoding g q ++ y → (p ≡ q) × (x ≡ y)
one_encoding g ok p q x y m n e =
    let a : Answer = Ok (p, length (encoding g p)) in
    let b : Answer = Ok (q, length (encoding g q)) in
    let both : a ≡ b = sym (encoding_again g ok p x m) ∙ ap (frame_at g) e ∙ encoding_again g ok q y n in
    let same : p ≡ q = let pairs : (p, length (encoding g p)) ≡ (q, length (encoding g q)) = cc in ap (λ (z : Parts × ℕ). z.0) pairs in
    (same, append_cancel_left (encoding g p) x y (e ∙ ap (λ (z : Parts). encoding g z ++ y) (sym same)))

-- ---- more bytes change no result except Short

frame_grows : (g : Grammar) (bytes more : List ℕ) (kind : ℕ) (fields : List ℕ) → BeginsWithFrame g bytes kind fields → BeginsWithFrame g (bytes ++ more) kind fields
frame_grows g bytes more kind fields frame =
    let head : List ℕ = encoded_number u32 (length (kind ∷ fields)) ++ (kind ∷ fields) in
    record {
      rest = frame.rest ++ more;
      front = ap (λ (t : List ℕ). t ++ more) frame.front ∙ append_assoc head frame.rest more;
      fits = frame.fits;
    }

length_at_grows : (bytes more : List ℕ) → 4 ≤ length bytes → length_at (bytes ++ more) ≡ length_at bytes
length_at_grows bytes more four = ap (from_be_bytes w32) (take-append-le 4 bytes more four)

pub answer_stays : (g : Grammar) (bytes more : List ℕ) (a : Answer) → a ≢ Err Short → IsAnswer g bytes a → IsAnswer g (bytes ++ more) a
answer_stays g bytes more (Ok x) long h = record { message = h.message; rest = h.rest ++ more; front = ap (λ (t : List ℕ). t ++ more) h.front ∙ append_assoc (encoding g x.0) h.rest more; length_is = h.length_is }
answer_stays g bytes more (Err Memory) long h = h
answer_stays g bytes more (Err Short) long h = absurd (long refl)
answer_stays g bytes more (Err BadLength) long h =
    let same = length_at_grows bytes more h.0 in
    (omega (arith, h.0, length-append bytes more), elim h.1 [ inl z ↦ inl (same ∙ z) | inr z ↦ inr (subst (λ (n : ℕ). g.longest < n) (sym same) z) ])
answer_stays g bytes more (Err UnknownKind) long h = record { kind = h.kind; fields = h.fields; frame = frame_grows g bytes more h.kind h.fields h.frame; unknown = h.unknown }
answer_stays g bytes more (Err (BadField offset)) long h = record {
  kind = h.kind;
  fields = h.fields;
  frame = frame_grows g bytes more h.kind h.fields h.frame;
  before = h.before;
  field = h.field;
  after = h.after;
  known = h.known;
  contents = h.contents;
  legal = h.legal;
  rest = h.rest;
  split = h.split;
  bad = h.bad;
  place = h.place;
}
answer_stays g bytes more (Err TrailingBytes) long h = record {
  kind = h.kind;
  fields = h.fields;
  frame = frame_grows g bytes more h.kind h.fields h.frame;
  types = h.types;
  known = h.known;
  contents = h.contents;
  legal = h.legal;
  rest = h.rest;
  split = h.split;
  more = h.more;
}

whole_not_short : (len kind : ℕ) (r : Read) → whole len kind r ≡ Err Short → ⊥
whole_not_short len kind (Ok (cs, [])) e = absurd cc
whole_not_short len kind (Ok (cs, b ∷ bs)) e = absurd cc
whole_not_short len kind (Err faults.Memory) e = absurd cc
whole_not_short len kind (Err faults.UnknownKind) e = absurd cc
whole_not_short len kind (Err (faults.BadField left)) e = absurd cc

-- a whole frame is not short
pub frame_not_short : (g : Grammar) → IsGrammar g → (bytes : List ℕ) (kind : ℕ) (fields : List ℕ) → BeginsWithFrame g bytes kind fields → IsShort g bytes → ⊥
frame_not_short g ok bytes kind fields frame short =
    whole_not_short (suc (length fields)) kind (contents_at g kind fields) (sym (framed g ok bytes kind fields frame) ∙ short_again g bytes short)

-- a message is not short
pub encoding_not_short : (g : Grammar) → IsGrammar g → (p : Parts) (rest : List ℕ) → IsMessage g p → IsShort g (encoding g p ++ rest) → ⊥
encoding_not_short g ok p rest legal short =
    let read = encoding_again g ok p rest legal in
    let none = short_again g (encoding g p ++ rest) short in
    absurd cc

-- a bad length is not short
pub bad_length_not_short : (g : Grammar) (bytes : List ℕ) → HasBadLength g bytes → IsShort g bytes → ⊥
bad_length_not_short g bytes bad short =
    let read = bad_length_again g bytes bad in
    let none = short_again g bytes short in
    absurd cc

-- ---- the result for a whole frame of a known kind comes from its fields

whole_from_fields : (len kind : ℕ) (r : Read) → (r ≡ Err faults.UnknownKind → ⊥) → (whole len kind r ≡ Err Memory → ⊥) → IsFromFields (whole len kind r)
whole_from_fields len kind (Ok (cs, [])) known enough = tt
whole_from_fields len kind (Ok (cs, b ∷ bs)) known enough = tt
whole_from_fields len kind (Err faults.Memory) known enough = absurd (enough refl)
whole_from_fields len kind (Err faults.UnknownKind) known enough = absurd (known refl)
whole_from_fields len kind (Err (faults.BadField left)) known enough = tt

is_known : (o : Option (List Field)) → IsSome o → (fs : List Field) × (o ≡ Some fs)
is_known None h = absurd cc
is_known (Some fs) h = (fs, refl)

no_memory : (g : Grammar) (bytes : List ℕ) (a : Answer) → IsAnswer g bytes a → a ≡ Err Memory → ⊥
no_memory g bytes a h e = subst (IsAnswer g bytes) e h

pub known_answer : (g : Grammar) → IsGrammar g → (bytes : List ℕ) → IsBytes bytes → BeginsWithKnown g bytes → (a : Answer) → IsAnswer g bytes a → IsFromFields a
known_answer g ok bytes fits k a h =
    let fs = is_known (fields_of g k.kind) k.known in
    let read : frame_at g bytes ≡ whole (suc (length k.fields)) k.kind (fields_at fs.0 k.fields) =
    framed g ok bytes k.kind k.fields k.frame ∙ ap (whole (suc (length k.fields)) k.kind) (known g k.kind k.fields (Some fs.0) fs.1) in
    let same : whole (suc (length k.fields)) k.kind (fields_at fs.0 k.fields) ≡ a = sym read ∙ only_answer g ok bytes fits a h in
    subst IsFromFields same (whole_from_fields (suc (length k.fields)) k.kind (fields_at fs.0 k.fields) (never_unknown fs.0 k.fields) (λ e. no_memory g bytes a h (sym same ∙ e)))
