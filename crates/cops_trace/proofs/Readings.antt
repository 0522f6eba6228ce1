-- Bytes are the text of only one trace, or have only one first fault.
use Rattle.std.proofs.Common.{◌≡◌, ◌≢◌, ℕ, suc, ◌+◌, ◌*◌, ◌^◌, ◌<◌, ◌≤◌, false, cond, eqb, List, [], ◌∷◌, ◌++◌, length, Option, Some, None, Result, Ok, Err, refl, sym, ap, subst, ◌∙◌, append_assoc, arith, inl, inr, eq-eqb}
use Rattle.std.specs.Prelude.{IfSome}
use Rattle.std.proofs.lemmas.Bool.{ne_eqb}
use Rattle.std.proofs.lemmas.List.{length-append, append-nil}
use Rattle.std.specs.List.{AllByRecursion}
use Rattle.cops_types.specs.declared.op.Op.{Op}
use Rattle.cops_types.specs.declared.op.Op.TheVariants.{Put, Del, Got, Gone, Missed}
use Rattle.cops_types.specs.Histories.{Operation, write, read, missed}
use Rattle.cops_types.specs.Operations.{operation_of}
use Rattle.cops_types.specs.declared.limits.TheConstants.{MAX_CLIENT_OPS, MAX_OPS}
use Rattle.cops_types.specs.Format.{number_of}
use Rattle.cops_types.specs.declared.format.Format.{Format}
use Rattle.cops_types.specs.declared.format.Format.TheVariants.{One, Two}
use Rattle.cops_wire.specs.Grammar.{grammar}
use Rattle.cops_wire.specs.Legal.{IsMessage}
use Rattle.cops_wire.specs.declared.message.Message.{Message}
use Rattle.cops_wire.specs.declared.message.Message.TheVariants.{TraceEnd, TraceHead}
use Rattle.cops_wire.specs.Answer.{IsBytes}
use Rattle.cops_wire.proofs.Fields.{IsBytes-right}
use Rattle.cops_wire.proofs.Codec.{one_message}
use Rattle.cops_trace.specs.declared.fault.TraceFault.{TraceFault}
use Rattle.cops_trace.specs.declared.fault.TraceFault.TheVariants.{Memory, Cut, BytesAfterEnd}
use Rattle.cops_trace.specs.declared.found.Item.{Item}
use Rattle.cops_trace.specs.declared.found.Item.TheVariants.{Head, Op as Entry, End}
use Rattle.cops_trace.specs.declared.found.Found.{Found}
use Rattle.cops_trace.specs.declared.found.Found.TheVariants.{Gives, Waits, Fails}
use Rattle.cops_wire.specs.Message.{parts, encoded}
use Rattle.cops_wire.specs.Records.{record_message}
use Rattle.cops_trace.specs.Text.{ARecord, ATrace, IsTrace, IsOp, turn, record_text, records_text, beginning, text, end_text}
use Rattle.cops_trace.specs.Next.{Stands, format_next}
use Rattle.cops_trace.specs.Writing.{head_frame}
use Rattle.cops_trace.specs.Answer.{progress_of, progress_at, text_before, Begins, Says, Agrees}
use Rattle.cops_trace.specs.Answer as answer
use Rattle.cops_trace.specs.Parsing.{with_item, is_end}
use Rattle.cops_trace.proofs.Lists.{all_back, turn-same}
use Rattle.cops_trace.proofs.Allocation.{with_records, IsTrace-prefix}
use Rattle.cops_trace.proofs.Items.{item_message, Allows, IsLegalItem, one_item, stands_again, one_stands, op_legal, encoded_in, encoded_len}

-- ---- items in a row

abbrev items_text : Option ATrace → List Item → List ℕ
items_text b [] = []
items_text b (i ∷ is) = encoded (item_message (progress_at b) i) ++ items_text (with_item i b) is

-- each item may come after those before it, and none is the end
abbrev AllStand : Option ATrace → List Item → Type 0
AllStand b [] = Unit {0}
AllStand b (i ∷ is) = Allows (progress_at b) i × IsLegalItem (progress_at b) i × (is_end i ≡ false) × AllStand (with_item i b) is

abbrev after_items : Option ATrace → List Item → Option ATrace
after_items b [] = b
after_items b (i ∷ is) = after_items (with_item i b) is

-- the bytes begin with no head and no record
abbrev pub IsLast : Option ATrace → List ℕ → Type 0
IsLast b rest = (i : Item) (used : ℕ) → is_end i ≡ false → Stands (progress_at b) rest (Gives i used) → ⊥

stands_not_last : (b : Option ATrace) (i : Item) (is : List Item) (a rest : List ℕ) → AllStand b (i ∷ is) → a ≡ items_text b (i ∷ is) ++ rest → IsLast b a → ⊥
stands_not_last b i is a rest all e last =
    let m = item_message (progress_at b) i in
    let more = items_text (with_item i b) is ++ rest in
    let here = stands_again (progress_at b) i more all.0 all.1 in
    last i (length (encoded m)) all.2 (subst (λ (x : List ℕ). Stands (progress_at b) x (Gives i (length (encoded m)))) (sym (e ∙ append_assoc (encoded m) (items_text (with_item i b) is) rest)) here)

pub same_message : (format : Format) (m n : Message) (x y : List ℕ) → IsMessage (grammar format) (parts m) → IsMessage (grammar format) (parts n) → encoded m ++ x ≡ encoded n ++ y → (m ≡ n) × (x ≡ y)
same_message format m n x y legal_m legal_n e =
    one_message format m n x y legal_m legal_n (ap (λ (l : List ℕ). l ++ x) (encoded_in format m legal_m) ∙ e ∙ ap (λ (l : List ℕ). l ++ y) (sym (encoded_in format n legal_n)))

-- two lists of items for the same bytes are equal
same_items : (b : Option ATrace) (is js : List Item) (x y : List ℕ) → AllStand b is → AllStand b js → IsLast (after_items b is) x → IsLast (after_items b js) y
    → items_text b is ++ x ≡ items_text b js ++ y → (is ≡ js) × (x ≡ y)
same_items b [] [] x y h k s t e = (refl, e)
same_items b [] (j ∷ js) x y h k s t e = absurd (stands_not_last b j js x y k e s)
same_items b (i ∷ is) [] x y h k s t e = absurd (stands_not_last b i is y x h (sym e) t)
same_items b (i ∷ is) (j ∷ js) x y h k s t e =
    let m = item_message (progress_at b) i in
    let n = item_message (progress_at b) j in
    let split : encoded m ++ (items_text (with_item i b) is ++ x) ≡ encoded n ++ (items_text (with_item j b) js ++ y)
    = sym (append_assoc (encoded m) (items_text (with_item i b) is) x) ∙ e ∙ append_assoc (encoded n) (items_text (with_item j b) js) y in
    let one = same_message (format_next (progress_at b)) m n _ _ h.1 k.1 split in
    let item = one_item (progress_at b) i j h.0 k.0 one.0 in
    let all_j : AllStand (with_item i b) js = subst (λ (o : Item). AllStand (with_item o b) js) (sym item) k.3 in
    let last_j : IsLast (after_items (with_item i b) js) y = last_at b i j js y item t in
    let rest : items_text (with_item i b) is ++ x ≡ items_text (with_item i b) js ++ y = one.1 ∙ ap (λ (o : Item). items_text (with_item o b) js ++ y) (sym item) in
    let ih = same_items (with_item i b) is js x y h.3 all_j s last_j rest in
    (ap (λ (o : Item). o ∷ is) item ∙ ap (λ (l : List Item). j ∷ l) ih.0, ih.1)
  where
    last_at : (b : Option ATrace) (i j : Item) (js : List Item) (y : List ℕ) → i ≡ j → IsLast (after_items (with_item j b) js) y → IsLast (after_items (with_item i b) js) y
    last_at b i j js y item t = subst (λ (o : Item). IsLast (after_items (with_item o b) js) y) (sym item) t

-- ---- the items of a prefix

-- an operation with an encoding is that of some `Op`
op_of : Operation → Op
op_of (write key (Some value) version) = Put key value version
op_of (read key (Some value) version) = Got key value version
op_of (write key None version) = Del key version
op_of (read key None version) = Gone key version
op_of (missed key) = Missed key

op_is : (format : Format) (op : Operation) → IsOp format op → op ≡ operation_of (op_of op)
unfolding op_of
op_is format (write key (Some value) version) h = refl
op_is format (read key (Some value) version) h = refl
op_is format (write key None version) h = refl
op_is format (read key None version) h = refl
op_is format (missed key) h = refl

abbrev entries : List ARecord → List Item
entries [] = []
entries (r ∷ rs) = Entry r.client (op_of r.op) ∷ entries rs

abbrev items_of : Option ATrace → List Item
items_of None = []
items_of (Some t) = Head t.format t.clients ∷ entries t.records

entries_stand : (f : Format) (c : ℕ) (earlier rs : List ARecord) → IsTrace (with_records f c (earlier ++ rs)) → AllStand (Some (with_records f c earlier)) (entries rs)
entries_stand f c earlier [] h = tt
entries_stand f c earlier (r ∷ rs) h =
    let grouped : IsTrace (with_records f c ((earlier ++ r ∷ []) ++ rs)) = subst (λ (l : List ARecord). IsTrace (with_records f c l)) (sym (append_assoc earlier (r ∷ []) rs)) h in
    let here = IsTrace-prefix f c (earlier ++ r ∷ []) rs grouped in
    let named = (all_back (λ (s : ARecord). (s.client < c) × IsOp f s.op) earlier (r ∷ []) here.named).0 in
    let same = turn-same earlier r in
    let each = here.each r.client in
    let long = length-append earlier (r ∷ []) in
    let all = here.all in
    let room : turn r.client earlier < MAX_CLIENT_OPS = omega (arith, same, each) in
    let all_room : length earlier < MAX_OPS = omega (arith, long, all) in
    subst (λ (o : Operation). ((r.client < c) × (turn r.client earlier < MAX_CLIENT_OPS) × (length earlier < MAX_OPS)) × IsMessage (grammar f) (parts (record_message r.client (turn r.client earlier) o)) × (false ≡ false) × AllStand (Some (with_records f c (earlier ++ record { client = r.client; op = o } ∷ []))) (entries rs)) (op_is f r.op named.1)
    ((named.0, room, all_room), op_legal f r.client (turn r.client earlier) r.op (omega (arith, h.clients, named.0)) (omega (arith, room)) named.1, refl, entries_stand f c (earlier ++ r ∷ []) rs grouped)

abbrev AreNamed : Format → ℕ → List ARecord → Type 0
AreNamed f c rs = AllByRecursion (λ (s : ARecord). (s.client < c) × IsOp f s.op) rs

entries_text : (f : Format) (c : ℕ) (earlier rs : List ARecord) → AreNamed f c rs → items_text (Some (with_records f c earlier)) (entries rs) ≡ records_text earlier rs
entries_text f c earlier [] named = refl
entries_text f c earlier (r ∷ rs) named =
    subst (λ (o : Operation). encoded (record_message r.client (turn r.client earlier) o) ++ items_text (Some (with_records f c (earlier ++ record { client = r.client; op = o } ∷ []))) (entries rs) ≡ records_text earlier (r ∷ rs)) (op_is f r.op named.0.1)
    (ap (λ (x : List ℕ). record_text earlier r ++ x) (entries_text f c (earlier ++ r ∷ []) rs named.1))

entries_after : (f : Format) (c : ℕ) (earlier rs : List ARecord) → AreNamed f c rs → after_items (Some (with_records f c earlier)) (entries rs) ≡ Some (with_records f c (earlier ++ rs))
entries_after f c earlier [] named = ap (λ (l : List ARecord). Some (with_records f c l)) (sym (append-nil earlier))
entries_after f c earlier (r ∷ rs) named =
    subst (λ (o : Operation). after_items (Some (with_records f c (earlier ++ record { client = r.client; op = o } ∷ []))) (entries rs) ≡ Some (with_records f c (earlier ++ r ∷ rs))) (op_is f r.op named.0.1)
    (entries_after f c (earlier ++ r ∷ []) rs named.1 ∙ ap (λ (l : List ARecord). Some (with_records f c l)) (append_assoc earlier (r ∷ []) rs))

head_legal : (format : Format) (clients : ℕ) → clients < 2 ^ 16 → IsLegalItem None (Head format clients)
head_legal One clients few = (omega arith, (few, tt))
head_legal Two clients few = (omega arith, (few, tt))

-- the head is no longer than a frame may be
pub head_few : (format : Format) (clients : ℕ) → clients < 2 ^ 16 → length (encoded (TraceHead (number_of format) clients)) ≤ 131076
head_few format clients few = (encoded_len One (TraceHead (number_of format) clients) (head_legal format clients few)).1

pub end_legal : (t : ATrace) → IsTrace t → IsLegalItem (Some (progress_of t)) End
end_legal t h = (omega (arith, h.all), tt)

-- the items of a prefix may come one after the other, make up its text, and lead to it
record Unfolds (b : Option ATrace) : Type 0 where
  all : AllStand None (items_of b)
  text_is : text_before b ≡ items_text None (items_of b)
  after_is : after_items None (items_of b) ≡ b

unfolds : (b : Option ATrace) → IfSome b IsTrace → Unfolds b
unfolding beginning
unfolds None h = record { all = tt; text_is = refl; after_is = refl }
unfolds (Some t) h = record {
  all = (tt, head_legal t.format t.clients h.clients, refl, entries_stand t.format t.clients [] t.records h);
  text_is = ap (λ (x : List ℕ). head_frame t.format t.clients ++ x) (sym (entries_text t.format t.clients [] t.records h.named));
  after_is = entries_after t.format t.clients [] t.records h.named;
}

-- ---- the length of a text

items_len : (b : Option ATrace) (is : List Item) → AllStand b is → length (items_text b is) ≤ 131076 * length is
items_len b [] h = omega arith
items_len b (i ∷ is) h =
    let m = encoded (item_message (progress_at b) i) in
    omega (arith, length-append m (items_text (with_item i b) is), (encoded_len (format_next (progress_at b)) (item_message (progress_at b) i) h.1).1, items_len (with_item i b) is h.3)

length-entries : (rs : List ARecord) → length (entries rs) ≡ length rs
length-entries [] = refl
length-entries (r ∷ rs) = ap suc (length-entries rs)

items_count : (b : Option ATrace) → IfSome b IsTrace → length (items_of b) ≤ 16000001
items_count None h = omega arith
items_count (Some t) h = omega (arith, length-entries t.records, h.all)

pub prefix_len : (b : Option ATrace) → IfSome b IsTrace → length (text_before b) ≤ 2097216131076
prefix_len b h =
    let u = unfolds b h in
    omega (arith, ap length u.text_is, items_len None (items_of b) u.all, items_count b h)

pub text_len : (t : ATrace) → IsTrace t → length (text t) ≤ 2097216262152
text_len t h = omega (arith, length-append (beginning t) (end_text t), prefix_len (Some t) h, (encoded_len t.format (TraceEnd (length t.records)) (end_legal t h)).1)

-- two prefixes of the same bytes, after which no head and no record comes, are equal
pub prefixes_one : (bytes : List ℕ) (b c : Option ATrace) (x y : List ℕ) → Begins bytes b x → Begins bytes c y → IsLast b x → IsLast c y → (b ≡ c) × (x ≡ y)
prefixes_one bytes b c x y h k s t =
    let ub = unfolds b h.is_trace in
    let uc = unfolds c k.is_trace in
    let split : items_text None (items_of b) ++ x ≡ items_text None (items_of c) ++ y =
    ap (λ (f : List ℕ). f ++ x) (sym ub.text_is) ∙ sym h.parts ∙ k.parts ∙ ap (λ (f : List ℕ). f ++ y) uc.text_is in
    let last_b : IsLast (after_items None (items_of b)) x = at (after_items None (items_of b)) b x ub.after_is s in
    let last_c : IsLast (after_items None (items_of c)) y = at (after_items None (items_of c)) c y uc.after_is t in
    let same = same_items None (items_of b) (items_of c) x y ub.all uc.all last_b last_c split in
    (sym ub.after_is ∙ ap (after_items None) same.0 ∙ uc.after_is, same.1)
  where
    at : (d e : Option ATrace) (z : List ℕ) → d ≡ e → IsLast e z → IsLast d z
    at d e z p l = subst (λ (o : Option ATrace). IsLast o z) (sym p) l

-- ---- the result that bytes have

-- the result for what comes after a prefix
abbrev outcome : Option ATrace → List ℕ → Found → Result ATrace TraceFault
outcome b rest (Fails e) = Err e
outcome b rest Waits = Err (Cut (length (text_before b)))
outcome None rest (Gives i used) = Err Memory
outcome (Some t) rest (Gives i used) = cond (eqb (length rest) used) (Ok t) (Err (BytesAfterEnd (length (beginning t) + used)))

record Settles (bytes : List ℕ) (a : Result ATrace TraceFault) : Type 0 where
  begun : Option ATrace
  rest : List ℕ
  begins : Begins bytes begun rest
  found : Found
  stands : Stands (progress_at begun) rest found
  last : IsLast begun rest
  answer_is : a ≡ outcome begun rest found

-- what comes next is neither a head nor a record
last_where : (b : Option ATrace) (rest : List ℕ) (found : Found) → IsBytes rest → Stands (progress_at b) rest found → ((i : Item) (used : ℕ) → is_end i ≡ false → found ≢ Gives i used) → IsLast b rest
last_where b rest found fits s none i used not_end t = none i used not_end (one_stands (progress_at b) rest found (Gives i used) fits s t)

rest_fits : (bytes : List ℕ) (b : Option ATrace) (rest : List ℕ) → IsBytes bytes → Begins bytes b rest → IsBytes rest
rest_fits bytes b rest fits h = IsBytes-right (text_before b) rest (subst IsBytes h.parts fits)

not_other : (i : Item) (used n : ℕ) → is_end i ≡ false → Gives End n ≢ Gives i used
not_other (Head format clients) used n h e = cc
not_other (Entry client op) used n h e = cc
not_other End used n h e = cc

end_stands : (t : ATrace) (rest : List ℕ) → IsTrace t → Stands (Some (progress_of t)) (end_text t ++ rest) (Gives End (length (end_text t)))
end_stands t rest h = stands_again (Some (progress_of t)) End rest tt (end_legal t h)

nonempty : (rest : List ℕ) → rest ≢ [] → length rest ≢ 0
nonempty [] more e = more refl
nonempty (x ∷ rest) more e = absurd (omega arith)

settles : (bytes : List ℕ) (a : Result ATrace TraceFault) → IsBytes bytes → Says bytes a → Settles bytes a
settles bytes (Ok t) fits h =
    let begins : Begins bytes (Some t) (end_text t) = record { is_trace = h.0; parts = h.1 } in
    let whole : end_text t ++ [] ≡ end_text t = append-nil (end_text t) in
    let stands : Stands (Some (progress_of t)) (end_text t) (Gives End (length (end_text t))) = subst (λ (x : List ℕ). Stands (Some (progress_of t)) x (Gives End (length (end_text t)))) whole (end_stands t [] h.0) in
    record {
      begun = Some t;
      rest = end_text t;
      begins = begins;
      found = Gives End (length (end_text t));
      stands = stands;
      last = last_where (Some t) (end_text t) (Gives End (length (end_text t))) (rest_fits bytes (Some t) (end_text t) fits begins) stands (λ i used k. not_other i used (length (end_text t)) k);
      answer_is = rw (eq-eqb (length (end_text t)) (length (end_text t)) refl) refl;
    }
settles bytes (Err e) fits (inl h) = record {
  begun = h.begun;
  rest = h.rest;
  begins = h.begins;
  found = Fails e;
  stands = h.stands;
  last = last_where h.begun h.rest (Fails e) (rest_fits bytes h.begun h.rest fits h.begins) h.stands (λ i used k q. cc);
  answer_is = refl;
}
settles bytes (Err e) fits (inr (inl h)) = record {
  begun = h.begun;
  rest = h.rest;
  begins = h.begins;
  found = Waits;
  stands = h.stands;
  last = last_where h.begun h.rest Waits (rest_fits bytes h.begun h.rest fits h.begins) h.stands (λ i used k q. cc);
  answer_is = ap (λ (x : TraceFault). Err x) h.fault_is;
}
settles bytes (Err e) fits (inr (inr h)) =
    let t = h.trace in
    let n = length (end_text t) in
    let begins : Begins bytes (Some t) (end_text t ++ h.rest) = record { is_trace = h.is_trace; parts = h.parts ∙ append_assoc (beginning t) (end_text t) h.rest } in
    let stands = end_stands t h.rest h.is_trace in
    let some = nonempty h.rest h.more in
    let longer : length (end_text t ++ h.rest) ≢ n = λ q. some (omega (arith, length-append (end_text t) h.rest)) in
    record {
      begun = Some t;
      rest = end_text t ++ h.rest;
      begins = begins;
      found = Gives End n;
      stands = stands;
      last = last_where (Some t) (end_text t ++ h.rest) (Gives End n) (rest_fits bytes (Some t) (end_text t ++ h.rest) fits begins) stands (λ i used k. not_other i used n k);
      answer_is = ap (λ (x : TraceFault). Err x) h.fault_is ∙ ap (λ (k : ℕ). Err (BytesAfterEnd k)) (length-append (beginning t) (end_text t)) ∙ rw (ne_eqb _ _ longer) refl;
    }

one_settled : (bytes : List ℕ) (a b : Result ATrace TraceFault) → IsBytes bytes → Settles bytes a → Settles bytes b → a ≡ b
one_settled bytes a b fits h k =
    let one = prefixes_one bytes h.begun k.begun h.rest k.rest h.begins k.begins h.last k.last in
    let first : Stands (progress_at k.begun) h.rest h.found = subst (λ (o : Option ATrace). Stands (progress_at o) h.rest h.found) one.0 h.stands in
    let moved : Stands (progress_at k.begun) k.rest h.found = subst (λ (x : List ℕ). Stands (progress_at k.begun) x h.found) one.1 first in
    let found = one_stands (progress_at k.begun) k.rest h.found k.found (rest_fits bytes k.begun k.rest fits k.begins) moved k.stands in
    h.answer_is ∙ ap (λ (o : Option ATrace). outcome o h.rest h.found) one.0 ∙ ap (λ (x : List ℕ). outcome k.begun x h.found) one.1 ∙ ap (outcome k.begun k.rest) found ∙ sym k.answer_is

-- two results for the same bytes are equal
pub one_answer : (bytes : List ℕ) (a b : Result ATrace TraceFault) → IsBytes bytes → Says bytes a → Says bytes b → a ≡ b
one_answer bytes a b fits h k = one_settled bytes a b fits (settles bytes a fits h) (settles bytes b fits k)

-- the result of a reader is the only one
pub only_answer : (bytes : List ℕ) (r : Result ATrace TraceFault) → IsBytes bytes → Agrees bytes r → (a : Result ATrace TraceFault) → Says bytes a → answer.Gives a r
only_answer bytes (Ok t) fits h a k = one_answer bytes a (Ok t) fits k h
only_answer bytes (Err e) fits (inl h) a k = inl h
only_answer bytes (Err e) fits (inr (inl h)) a k = inr (inl h)
only_answer bytes (Err e) fits (inr (inr h)) a k = inr (inr (one_answer bytes a (Err e) fits k h))
