-- The items of a text: the message of each, and what comes next after an item.
use Rattle.std.proofs.Common.{◌≡◌, ◌≢◌, ℕ, ◌+◌, ◌^◌, ◌<◌, ◌≤◌, Bool, true, false, cond, ltb, eqb, List, [], ◌++◌, length, drop, Option, Some, None, Result, Ok, Err, refl, sym, ap, subst, ◌∙◌, arith, inl, inr, eq-eqb}
use Rattle.std.specs.Prelude.{◌&&◌, IfSome}
use Rattle.std.proofs.lemmas.Bool.{ltb-true, lt-ltb, eqb-true}
use Rattle.std.proofs.lemmas.List.{length-append}
use Rattle.cops_types.specs.declared.limits.TheConstants.{MAX_CLIENT_OPS, MAX_OPS}
use Rattle.cops_types.specs.Format.{format_of_number, longest_body, most_value, number_of}
use Rattle.cops_types.specs.declared.format.Format.{Format}
use Rattle.cops_types.specs.declared.format.Format.TheVariants.{One, Two}
use Rattle.cops_types.proofs.Formats.{number_again, number_is}
use Rattle.cops_wire.specs.declared.fault.WireFault.{WireFault}
use Rattle.cops_wire.specs.declared.fault.WireFault.TheVariants as wire
use Rattle.cops_wire.specs.declared.message.Message.{Message}
use Rattle.cops_wire.specs.declared.message.Message.TheVariants.{TraceHead, TraceEnd, ByeOk}
use Rattle.cops_wire.specs.declared.record.TraceRecord.{TraceRecord}
use Rattle.cops_wire.specs.Records.{record_message, record_of_message}
use Rattle.cops_wire.proofs.Records.{message_is, record_again}
use Rattle.cops_wire.specs.Answer.{IsAnswer, IsBytes, IsShort}
use Rattle.cops_wire.specs.Grammar.{grammar, Parts, encoding}
use Rattle.cops_wire.specs.Legal.{IsMessage}
use Rattle.cops_wire.specs.Message.{parts, encoded}
use Rattle.cops_wire.proofs.Messages.{first-in-second, parts-same}
use Rattle.cops_wire.proofs.Codec.{same_answer, encoding_answered, answer_splits, encoding_bounds}
use Rattle.cops_wire.proofs.Frames.{answer_stays}
use Rattle.cops_types.specs.Histories.{Operation, write, read, missed}
use Rattle.cops_types.specs.Operations.{operation_of}
use Rattle.cops_trace.specs.declared.fault.TraceFault.{TraceFault}
use Rattle.cops_trace.specs.declared.fault.TraceFault.TheVariants as fault
use Rattle.cops_trace.specs.declared.found.Item.{Item}
use Rattle.cops_trace.specs.declared.found.Item.TheVariants.{Head, Op as Entry, End}
use Rattle.cops_trace.specs.declared.found.Found.{Found}
use Rattle.cops_trace.specs.declared.found.Found.TheVariants.{Gives, Waits, Fails}
use Rattle.cops_trace.specs.Text.{ATrace, IsTrace, IsOp, turn}
use Rattle.cops_trace.specs.Next.{Progress, FrameIs, Stands, found_in, unread, first_message, head_found, later_message, found_among, format_next, record_found, end_found}
use Rattle.cops_trace.specs.Answer.{text_before, progress_at}
use Rattle.cops_trace.specs.Parsing.{with_item, is_end}
use Rattle.cops_trace.proofs.Allocation.{beginning-none, beginning-grown, IsTrace-none, IsTrace-grown}

-- ---- tests with a known outcome

then_is : {X : Type 0} (b : Bool) (x y z : X) → (y ≡ z → ⊥) → cond b x y ≡ z → (b ≡ true) × (x ≡ z)
then_is true x y z apart e = (refl, e)
then_is false x y z apart e = absurd (apart e)

and_is : (a b : Bool) → (a && b) ≡ true → (a ≡ true) × (b ≡ true)
and_is true true e = (refl, refl)
and_is true false e = absurd cc
and_is false b e = absurd cc

-- ---- the message of an item

abbrev pub item_message : Option Progress → Item → Message
item_message None (Head format clients) = TraceHead (number_of format) clients
item_message (Some p) (Entry client op) = record_message client (p.turn client) (operation_of op)
item_message (Some p) End = TraceEnd p.total
item_message _ _ = ByeOk

-- the item may come next
abbrev pub Allows : Option Progress → Item → Type 0
Allows None (Head format clients) = Unit {0}
Allows (Some p) (Entry client op) = (client < p.clients) × (p.turn client < MAX_CLIENT_OPS) × (p.total < MAX_OPS)
Allows (Some p) End = Unit {0}
Allows _ _ = ⊥

unread_gives : (at : ℕ) (e : WireFault) (i : Item) (used : ℕ) → unread at e ≡ Gives i used → ⊥
unread_gives at wire.Memory i used e = cc
unread_gives at wire.Short i used e = cc
unread_gives at wire.BadLength i used e = cc
unread_gives at wire.UnknownKind i used e = cc
unread_gives at (wire.BadField offset) i used e = cc
unread_gives at wire.TrailingBytes i used e = cc

-- a property of an item and its length holds for equal ones
moved : (P : Item → ℕ → Type 0) (i j : Item) (n used : ℕ) → Gives i n ≡ Gives j used → P i n → P j used
moved P i j n used e h =
    let item : i ≡ j = cc in
    let len : n ≡ used = cc in
    subst (λ (x : Item). P x used) item (subst (P i) len h)

-- the frame is that of the item, which may come next
abbrev pub IsItem : Option Progress → Result (Message × ℕ) WireFault → Item → ℕ → Type 0
IsItem p d i used = Allows p i × (d ≡ Ok (item_message p i, used))

head_item : (number clients n : ℕ) (named : Option Format) (i : Item) (used : ℕ) → format_of_number number ≡ named → head_found named clients n ≡ Gives i used → IsItem None (Ok (TraceHead number clients, n)) i used
head_item number clients n (Some format) i used named e =
    moved (IsItem None (Ok (TraceHead number clients, n))) (Head format clients) i n used e (tt, ap (λ (k : ℕ). Ok (TraceHead k clients, n)) (number_is number format named))
head_item number clients n None i used named e = absurd cc

first_given : (m : Message) (n : ℕ) (i : Item) (used : ℕ) → first_message m n ≡ Gives i used → IsItem None (Ok (m, n)) i used
first_given (TraceHead number clients) n i used e = head_item number clients n (format_of_number number) i used refl e
first_given _ n i used e = absurd cc

record_given : (p : Progress) (s : TraceRecord) (n : ℕ) (i : Item) (used : ℕ) → record_found p s n ≡ Gives i used → IsItem (Some p) (Ok (record_message s.client s.index (operation_of s.op), n)) i used
record_given p s n i used e =
    let inner = cond (ltb (p.turn s.client) MAX_CLIENT_OPS && ltb p.total MAX_OPS) (Gives (Entry s.client s.op) n) (Fails (fault.TooLong p.at)) in
    let a = then_is (ltb s.client p.clients) (cond (eqb s.index (p.turn s.client)) inner (Fails (fault.IndexOutOfTurn p.at))) (Fails (fault.ClientOutOfRange p.at)) (Gives i used) (λ h. absurd cc) e in
    let b = then_is (eqb s.index (p.turn s.client)) inner (Fails (fault.IndexOutOfTurn p.at)) (Gives i used) (λ h. absurd cc) a.1 in
    let c = then_is (ltb (p.turn s.client) MAX_CLIENT_OPS && ltb p.total MAX_OPS) (Gives (Entry s.client s.op) n) (Fails (fault.TooLong p.at)) (Gives i used) (λ h. absurd cc) b.1 in
    let d = and_is (ltb (p.turn s.client) MAX_CLIENT_OPS) (ltb p.total MAX_OPS) c.0 in
    moved (IsItem (Some p) (Ok (record_message s.client s.index (operation_of s.op), n))) (Entry s.client s.op) i n used c.1
    ((ltb-true _ _ a.0, ltb-true _ _ d.0, ltb-true _ _ d.1), ap (λ (k : ℕ). Ok (record_message s.client k (operation_of s.op), n)) (eqb-true _ _ b.0))

among_given : (p : Progress) (m : Message) (r : Option TraceRecord) (n : ℕ) (i : Item) (used : ℕ) → record_of_message m ≡ r → found_among p r n ≡ Gives i used → IsItem (Some p) (Ok (m, n)) i used
among_given p m (Some s) n i used is e = subst (λ (x : Message). IsItem (Some p) (Ok (x, n)) i used) (sym (message_is m s is)) (record_given p s n i used e)
among_given p m None n i used is e = absurd cc

end_given : (p : Progress) (ops n : ℕ) (i : Item) (used : ℕ) → end_found p ops n ≡ Gives i used → IsItem (Some p) (Ok (TraceEnd ops, n)) i used
end_given p ops n i used e =
    let a = then_is (eqb ops p.total) (Gives End n) (Fails (fault.BadCount p.at)) (Gives i used) (λ h. absurd cc) e in
    moved (IsItem (Some p) (Ok (TraceEnd ops, n))) End i n used a.1 (tt, ap (λ (k : ℕ). Ok (TraceEnd k, n)) (eqb-true _ _ a.0))

later_given : (p : Progress) (m : Message) (n : ℕ) (i : Item) (used : ℕ) → later_message p m n ≡ Gives i used → IsItem (Some p) (Ok (m, n)) i used
later_given p (TraceEnd ops) n i used e = end_given p ops n i used e
later_given p m n i used e = among_given p m (record_of_message m) n i used refl e

pub given : (p : Option Progress) (d : Result (Message × ℕ) WireFault) (i : Item) (used : ℕ) → found_in p d ≡ Gives i used → IsItem p d i used
given None (Ok frame) i used e = first_given frame.0 frame.1 i used e
given None (Err x) i used e = absurd (unread_gives 0 x i used e)
given (Some p) (Ok frame) i used e = later_given p frame.0 frame.1 i used e
given (Some p) (Err x) i used e = absurd (unread_gives p.at x i used e)

-- the meaning of a message that is a record
pub record_means : (p : Progress) (m : Message) (r : TraceRecord) (n : ℕ) → record_of_message m ≡ Some r → later_message p m n ≡ record_found p r n
record_means p (TraceEnd ops) r n is = absurd cc
record_means p m r n is = ap (λ (o : Option TraceRecord). found_among p o n) is

-- an item that may come next is what its message's frame means
pub again : (p : Option Progress) (i : Item) (n : ℕ) → Allows p i → found_in p (Ok (item_message p i, n)) ≡ Gives i n
again None (Head format clients) n h = ap (λ (o : Option Format). head_found o clients n) (number_again format)
again (Some p) (Entry client op) n h =
    record_means p (record_message client (p.turn client) (operation_of op)) (record { client = client; index = p.turn client; op = op }) n (record_again client (p.turn client) op)
    ∙ rw (lt-ltb _ _ h.0, eq-eqb (p.turn client) (p.turn client) refl, lt-ltb _ _ h.1, lt-ltb _ _ h.2) refl
again (Some p) End n h = rw (eq-eqb p.total p.total refl) refl
again _ _ n h = absurd h

-- an item has only one message, and the message only one item
pub one_item : (p : Option Progress) (i j : Item) → Allows p i → Allows p j → item_message p i ≡ item_message p j → i ≡ j
one_item p i j h k e =
    let both : Gives i 0 ≡ Gives j 0 = sym (again p i 0 h) ∙ ap (λ (m : Message). found_in p (Ok (m, 0))) e ∙ again p j 0 k in
    cc

-- ---- from what comes next to the bytes, and back

-- a message's encoding in a format is its only encoding
pub encoded_in : (format : Format) (m : Message) → IsMessage (grammar format) (parts m) → encoding (grammar format) (parts m) ≡ encoded m
unfolding encoded
encoded_in One m legal = sym (first-in-second m legal).1
encoded_in Two m legal = refl

-- the item's message is legal in the format of the next frame
abbrev pub IsLegalItem : Option Progress → Item → Type 0
IsLegalItem p i = IsMessage (grammar (format_next p)) (parts (item_message p i))

-- the item may come next, and the bytes begin with its message's encoding
pub record Stood (p : Option Progress) (rest : List ℕ) (i : Item) (used : ℕ) : Type 0 where
  pub allowed : Allows p i
  pub legal : IsLegalItem p i
  pub used_is : used ≡ length (encoded (item_message p i))
  pub parts_are : rest ≡ encoded (item_message p i) ++ drop used rest

pub stood : (p : Option Progress) (rest : List ℕ) (i : Item) (used : ℕ) → Stands p rest (Gives i used) → Stood p rest i used
stood p rest i used s =
    let g = given p s.frame i used s.found_is in
    let is = subst (FrameIs (format_next p) rest) g.1 s.frame_is in
    let a = answer_splits (format_next p) rest (parts (item_message p i)) used is in
    let same = encoded_in (format_next p) (item_message p i) a.0 in
    record { allowed = g.0; legal = a.0; used_is = a.1 ∙ ap length same; parts_are = a.2 ∙ ap (λ (x : List ℕ). x ++ drop used rest) same }

pub stands_again : (p : Option Progress) (i : Item) (rest : List ℕ) → Allows p i → IsLegalItem p i → Stands p (encoded (item_message p i) ++ rest) (Gives i (length (encoded (item_message p i))))
stands_again p i rest allowed legal =
    let m = item_message p i in
    record {
      frame = Ok (m, length (encoded m));
      frame_is = subst (λ (x : List ℕ). IsAnswer (grammar (format_next p)) (x ++ rest) (Ok (parts m, length x))) (encoded_in (format_next p) m legal) (encoding_answered (format_next p) (parts m) rest legal);
      found_is = again p i (length (encoded m)) allowed;
    }

ok_parts : (p q : Parts) (m n : ℕ) → ◌≡◌ {A = Result (Parts × ℕ) WireFault} (Ok (p, m)) (Ok (q, n)) → (p ≡ q) × (m ≡ n)
ok_parts p q m n e = let pair : ◌≡◌ {A = Parts × ℕ} (p, m) (q, n) = cc in (ap (λ (x : Parts × ℕ). x.0) pair, ap (λ (x : Parts × ℕ). x.1) pair)

ok_or_err : (p : Parts × ℕ) (e : WireFault) → ◌≡◌ {A = Result (Parts × ℕ) WireFault} (Ok p) (Err e) → ⊥
ok_or_err p e h = cc

err_is : (d e : WireFault) → ◌≡◌ {A = Result (Parts × ℕ) WireFault} (Err d) (Err e) → d ≡ e
err_is d e h = cc

same_frame : (format : Format) (rest : List ℕ) (d e : Result (Message × ℕ) WireFault) → IsBytes rest → FrameIs format rest d → FrameIs format rest e → d ≡ e
same_frame format rest (Ok d) (Ok e) fits h k =
    let both = ok_parts (parts d.0) (parts e.0) d.1 e.1 (same_answer format rest fits (Ok (parts d.0, d.1)) (Ok (parts e.0, e.1)) h k) in
    ap (λ (m : Message). Ok (m, d.1)) (parts-same d.0 e.0 both.0) ∙ ap (λ (n : ℕ). Ok (e.0, n)) both.1
same_frame format rest (Ok d) (Err e) fits h k = absurd (ok_or_err (parts d.0, d.1) e (same_answer format rest fits (Ok (parts d.0, d.1)) (Err e) h k))
same_frame format rest (Err d) (Ok e) fits h k = absurd (ok_or_err (parts e.0, e.1) d (sym (same_answer format rest fits (Err d) (Ok (parts e.0, e.1)) h k)))
same_frame format rest (Err d) (Err e) fits h k = ap (λ (x : WireFault). Err x) (err_is d e (same_answer format rest fits (Err d) (Err e) h k))

-- what comes next is unique
pub one_stands : (p : Option Progress) (rest : List ℕ) (a b : Found) → IsBytes rest → Stands p rest a → Stands p rest b → a ≡ b
one_stands p rest a b fits s t = sym s.found_is ∙ ap (found_in p) (same_frame (format_next p) rest s.frame t.frame fits s.frame_is t.frame_is) ∙ t.found_is

short_waits : (p : Option Progress) → found_in p (Err wire.Short) ≡ Waits
short_waits None = refl
short_waits (Some p) = refl

frame_stays : (format : Format) (rest more : List ℕ) (d : Result (Message × ℕ) WireFault) → d ≢ Err wire.Short → FrameIs format rest d → FrameIs format (rest ++ more) d
frame_stays format rest more (Ok d) long h = answer_stays (grammar format) rest more (Ok (parts d.0, d.1)) (λ e. cc) h
frame_stays format rest more (Err e) long h = answer_stays (grammar format) rest more (Err e) (λ q. let s : e ≡ wire.Short = cc in long (ap (λ (x : WireFault). Err x) s)) h

-- what comes next stays whatever follows, unless it is incomplete
pub stands_still : (p : Option Progress) (rest more : List ℕ) (found : Found) → found ≢ Waits → Stands p rest found → Stands p (rest ++ more) found
stands_still p rest more found long s = record {
  frame = s.frame;
  frame_is = frame_stays (format_next p) rest more s.frame (λ e. long (sym s.found_is ∙ ap (found_in p) e ∙ short_waits p)) s.frame_is;
  found_is = s.found_is;
}

-- ---- incomplete frames

neither : {X : Type 0} (b : Bool) (x y z : X) → x ≢ z → y ≢ z → cond b x y ≢ z
neither true x y z p q = p
neither false x y z p q = q

record_there : (p : Progress) (s : TraceRecord) (n : ℕ) → record_found p s n ≢ Waits
record_there p s n =
    let inner = cond (ltb (p.turn s.client) MAX_CLIENT_OPS && ltb p.total MAX_OPS) (Gives (Entry s.client s.op) n) (Fails (fault.TooLong p.at)) in
    let first = neither (ltb (p.turn s.client) MAX_CLIENT_OPS && ltb p.total MAX_OPS) (Gives (Entry s.client s.op) n) (Fails (fault.TooLong p.at)) Waits (λ q. cc) (λ q. cc) in
    let second = neither (eqb s.index (p.turn s.client)) inner (Fails (fault.IndexOutOfTurn p.at)) Waits first (λ q. cc) in
    neither (ltb s.client p.clients) (cond (eqb s.index (p.turn s.client)) inner (Fails (fault.IndexOutOfTurn p.at))) (Fails (fault.ClientOutOfRange p.at)) Waits second (λ q. cc)

among_there : (p : Progress) (r : Option TraceRecord) (n : ℕ) → found_among p r n ≢ Waits
among_there p (Some s) n e = record_there p s n e
among_there p None n e = cc

message_given : (p : Progress) (m : Message) (n : ℕ) → later_message p m n ≢ Waits
message_given p (TraceEnd ops) n e = neither (eqb ops p.total) (Gives End n) (Fails (fault.BadCount p.at)) Waits (λ q. cc) (λ q. cc) e
message_given p m n e = among_there p (record_of_message m) n e

head_there : (format : Option Format) (clients n : ℕ) → head_found format clients n ≢ Waits
head_there (Some format) clients n e = cc
head_there None clients n e = cc

head_given : (m : Message) (n : ℕ) → first_message m n ≢ Waits
head_given (TraceHead number clients) n e = head_there (format_of_number number) clients n e
head_given _ n e = cc

unread_waits : (at : ℕ) (e : WireFault) → unread at e ≡ Waits → e ≡ wire.Short
unread_waits at wire.Memory h = absurd cc
unread_waits at wire.Short h = refl
unread_waits at wire.BadLength h = absurd cc
unread_waits at wire.UnknownKind h = absurd cc
unread_waits at (wire.BadField offset) h = absurd cc
unread_waits at wire.TrailingBytes h = absurd cc

waits_short : (p : Option Progress) (d : Result (Message × ℕ) WireFault) → found_in p d ≡ Waits → d ≡ Err wire.Short
waits_short None (Ok frame) e = absurd (head_given frame.0 frame.1 e)
waits_short None (Err x) e = ap (λ (y : WireFault). Err y) (unread_waits 0 x e)
waits_short (Some p) (Ok frame) e = absurd (message_given p frame.0 frame.1 e)
waits_short (Some p) (Err x) e = ap (λ (y : WireFault). Err y) (unread_waits p.at x e)

-- the most bytes of a frame of any format
pub frame_most : (format : Format) → 4 + longest_body format ≤ 131076
frame_most One = omega arith
frame_most Two = omega arith

short_len : (format : Format) (rest : List ℕ) → IsShort (grammar format) rest → length rest ≤ 131076
short_len format rest (inl h) = omega arith
short_len format rest (inr h) = omega (arith, h.1, h.2, frame_most format)

-- an incomplete frame has at most as many bytes as the longest frame
pub waits_len : (p : Option Progress) (rest : List ℕ) → Stands p rest Waits → length rest ≤ 131076
waits_len p rest s = short_len (format_next p) rest (subst (FrameIs (format_next p) rest) (waits_short p s.frame s.found_is) s.frame_is)

-- no bytes are an incomplete frame
pub nothing_waits : Stands None [] Waits
nothing_waits = record { frame = Err wire.Short; frame_is = inl (omega arith); found_is = refl }

-- an item has at least one byte, and at most those of the longest frame
pub stands_used : (p : Option Progress) (rest : List ℕ) (i : Item) (used : ℕ) → Stands p rest (Gives i used) → (0 < used) × (used ≤ length rest) × (used ≤ 4 + longest_body (format_next p))
stands_used p rest i used s =
    let st = stood p rest i used s in
    let bounds = encoding_bounds (format_next p) (parts (item_message p i)) st.legal in
    let same = ap length (encoded_in (format_next p) (item_message p i) st.legal) in
    let all : length rest ≡ length (encoded (item_message p i)) + length (drop used rest) = ap length st.parts_are ∙ length-append (encoded (item_message p i)) (drop used rest) in
    (omega (arith, st.used_is, same, bounds.0), omega (arith, st.used_is, all), omega (arith, st.used_is, same, bounds.1))

pub encoded_len : (format : Format) (m : Message) → IsMessage (grammar format) (parts m) → (4 < length (encoded m)) × (length (encoded m) ≤ 131076)
encoded_len format m legal =
    let bounds = encoding_bounds format (parts m) legal in
    let same = ap length (encoded_in format m legal) in
    (omega (arith, same, bounds.0), omega (arith, same, bounds.1, frame_most format))

-- ---- the faults of frames

-- a fault of a whole frame: not `Memory`, `ReadFailed`, `Cut` or `BytesAfterEnd`
abbrev pub is_of_frame : TraceFault → Bool
is_of_frame fault.Memory = false
is_of_frame fault.ReadFailed = false
is_of_frame (fault.Cut offset) = false
is_of_frame (fault.BytesAfterEnd offset) = false
is_of_frame _ = true

abbrev FailsAsFrame : Found → Type 0
FailsAsFrame found = (e : TraceFault) → found ≡ Fails e → is_of_frame e ≡ true

either_fails : (b : Bool) (x y : Found) → FailsAsFrame x → FailsAsFrame y → FailsAsFrame (cond b x y)
either_fails true x y p q = p
either_fails false x y p q = q

fails_so : (e : TraceFault) → is_of_frame e ≡ true → FailsAsFrame (Fails e)
fails_so e h d q = let same : e ≡ d = cc in subst (λ (x : TraceFault). is_of_frame x ≡ true) same h

gives_so : (i : Item) (n : ℕ) → FailsAsFrame (Gives i n)
gives_so i n d q = absurd cc

record_fails : (p : Progress) (s : TraceRecord) (n : ℕ) → FailsAsFrame (record_found p s n)
record_fails p s n =
    let inner = cond (ltb (p.turn s.client) MAX_CLIENT_OPS && ltb p.total MAX_OPS) (Gives (Entry s.client s.op) n) (Fails (fault.TooLong p.at)) in
    let first = either_fails (ltb (p.turn s.client) MAX_CLIENT_OPS && ltb p.total MAX_OPS) (Gives (Entry s.client s.op) n) (Fails (fault.TooLong p.at)) (gives_so (Entry s.client s.op) n) (fails_so (fault.TooLong p.at) refl) in
    let second = either_fails (eqb s.index (p.turn s.client)) inner (Fails (fault.IndexOutOfTurn p.at)) first (fails_so (fault.IndexOutOfTurn p.at) refl) in
    either_fails (ltb s.client p.clients) (cond (eqb s.index (p.turn s.client)) inner (Fails (fault.IndexOutOfTurn p.at))) (Fails (fault.ClientOutOfRange p.at)) second (fails_so (fault.ClientOutOfRange p.at) refl)

among_fails : (p : Progress) (r : Option TraceRecord) (n : ℕ) → FailsAsFrame (found_among p r n)
among_fails p (Some s) n = record_fails p s n
among_fails p None n = fails_so (fault.NotARecord p.at) refl

later_fails : (p : Progress) (m : Message) (n : ℕ) → FailsAsFrame (later_message p m n)
later_fails p (TraceEnd ops) n = either_fails (eqb ops p.total) (Gives End n) (Fails (fault.BadCount p.at)) (gives_so End n) (fails_so (fault.BadCount p.at) refl)
later_fails p m n = among_fails p (record_of_message m) n

head_fails : (format : Option Format) (clients n : ℕ) → FailsAsFrame (head_found format clients n)
head_fails (Some format) clients n = gives_so (Head format clients) n
head_fails None clients n = fails_so (fault.BadFormat 0) refl

first_fails : (m : Message) (n : ℕ) → FailsAsFrame (first_message m n)
first_fails (TraceHead number clients) n = head_fails (format_of_number number) clients n
first_fails _ n = fails_so (fault.NoHead 0) refl

unread_fails : (at : ℕ) (e : WireFault) → FailsAsFrame (unread at e)
unread_fails at wire.Memory = fails_so (fault.Frame wire.Memory at) refl
unread_fails at wire.Short = λ d q. absurd cc
unread_fails at wire.BadLength = fails_so (fault.Frame wire.BadLength at) refl
unread_fails at wire.UnknownKind = fails_so (fault.Frame wire.UnknownKind at) refl
unread_fails at (wire.BadField offset) = fails_so (fault.Frame (wire.BadField offset) (at + offset)) refl
unread_fails at wire.TrailingBytes = fails_so (fault.Frame wire.TrailingBytes at) refl

-- a fault found next is that of a whole frame
pub frame_fails : (p : Option Progress) (d : Result (Message × ℕ) WireFault) (e : TraceFault) → found_in p d ≡ Fails e → is_of_frame e ≡ true
frame_fails None (Ok frame) = first_fails frame.0 frame.1
frame_fails None (Err x) = unread_fails 0 x
frame_fails (Some p) (Ok frame) = later_fails p frame.0 frame.1
frame_fails (Some p) (Err x) = unread_fails p.at x

-- ---- a prefix of a text that grows by an item

pub op_fits : (format : Format) (c i : ℕ) (op : Operation) → IsMessage (grammar format) (parts (record_message c i op)) → IsOp format op
op_fits format c i (write key (Some value) version) h = ((omega (arith, h.1.1.0.1), h.1.1.0.2), h.1.1.1.0.2, h.1.1.1.1.0)
op_fits format c i (read key (Some value) version) h = ((omega (arith, h.1.1.0.1), h.1.1.0.2), h.1.1.1.0.2, h.1.1.1.1.0)
op_fits format c i (missed key) h = (omega (arith, h.1.1.0.1), h.1.1.0.2)
op_fits One c i (write key None version) h = absurd h
op_fits One c i (read key None version) h = absurd h
op_fits Two c i (write key None version) h = ((omega (arith, h.1.1.0.1), h.1.1.0.2), tt, h.1.1.1.0)
op_fits Two c i (read key None version) h = ((omega (arith, h.1.1.0.1), h.1.1.0.2), tt, h.1.1.1.0)

-- a value's length has two bytes
value_most : (format : Format) → most_value format < 65536
value_most One = omega arith
value_most Two = omega arith

pub op_legal : (format : Format) (c i : ℕ) (op : Operation) → c < 2 ^ 16 → i < 2 ^ 32 → IsOp format op → IsMessage (grammar format) (parts (record_message c i op))
op_legal format c i (write key (Some value) version) cl il h = (cl, (il, ((omega (arith, h.0.1), omega (arith, h.0.0), h.0.1), ((omega (arith, h.1, value_most format), omega arith, h.1), (h.2, tt)))))
op_legal format c i (read key (Some value) version) cl il h = (cl, (il, ((omega (arith, h.0.1), omega (arith, h.0.0), h.0.1), ((omega (arith, h.1, value_most format), omega arith, h.1), (h.2, tt)))))
op_legal format c i (missed key) cl il h = (cl, (il, ((omega (arith, h.1), omega (arith, h.0), h.1), tt)))
op_legal One c i (write key None version) cl il h = absurd h.1
op_legal One c i (read key None version) cl il h = absurd h.1
op_legal Two c i (write key None version) cl il h = (cl, (il, ((omega (arith, h.0.1), omega (arith, h.0.0), h.0.1), (h.2, tt))))
op_legal Two c i (read key None version) cl il h = (cl, (il, ((omega (arith, h.0.1), omega (arith, h.0.0), h.0.1), (h.2, tt))))

pub prefix_with : (b : Option ATrace) (i : Item) → Allows (progress_at b) i → is_end i ≡ false → text_before (with_item i b) ≡ text_before b ++ encoded (item_message (progress_at b) i)
prefix_with None (Head format clients) h k = beginning-none format clients
prefix_with (Some t) (Entry client op) h k = beginning-grown t (record { client = client; op = operation_of op })
prefix_with (Some t) End h k = absurd cc
prefix_with _ _ h k = absurd h

pub trace_with : (b : Option ATrace) (i : Item) → IfSome b IsTrace → Allows (progress_at b) i → IsLegalItem (progress_at b) i → is_end i ≡ false → IfSome (with_item i b) IsTrace
trace_with None (Head format clients) t h legal k = IsTrace-none format clients legal.1.0
trace_with (Some t) (Entry client op) is h legal k = IsTrace-grown t (record { client = client; op = operation_of op }) is h.0 (op_fits t.format client (turn client t.records) (operation_of op) legal) h.1 h.2
trace_with (Some t) End is h legal k = absurd cc
trace_with _ _ t h legal k = absurd h
