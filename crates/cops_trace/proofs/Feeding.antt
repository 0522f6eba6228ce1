-- A text that comes in pieces: what holds for the bytes so far.
use Rattle.std.proofs.Common.{◌≡◌, ◌≢◌, ℕ, zero, suc, ◌+◌, ◌<◌, Bool, true, false, List, [], ◌∷◌, ◌++◌, length, drop, Option, Some, None, Result, Ok, Err, refl, sym, ap, subst, ◌∙◌, append_assoc, arith, inl, inr}
use Rattle.std.specs.Prelude.{◌⊎◌, IfSome, unwrap_or}
use Rattle.std.specs.Io.KnownBytes.{Consumes, IsAtEnd}
use Rattle.std.proofs.lemmas.List.{length-append, length-drop, append-nil}
use Rattle.cops_types.specs.declared.format.Format.TheVariants.{One}
use Rattle.cops_wire.specs.Answer.{IsBytes}
use Rattle.cops_wire.specs.Message.{parts, encoded}
use Rattle.cops_trace.specs.declared.fault.TraceFault.{TraceFault}
use Rattle.cops_trace.specs.declared.fault.TraceFault.TheVariants.{Memory, ReadFailed, Cut, BytesAfterEnd}
use Rattle.cops_trace.specs.declared.sink.SinkTaken.{SinkTaken}
use Rattle.cops_trace.specs.declared.found.Item.{Item}
use Rattle.cops_trace.specs.declared.found.Item.TheVariants.{Head, Op as Entry, End}
use Rattle.cops_trace.specs.declared.found.Found.{Found}
use Rattle.cops_trace.specs.declared.found.Found.TheVariants.{Gives, Waits, Fails}
use Rattle.cops_trace.specs.Text.{ATrace, IsTrace, beginning, text, end_text}
use Rattle.cops_trace.specs.Next.{Progress, Stands}
use Rattle.cops_trace.specs.Answer.{progress_at, text_before, Begins, HasFault, Says, IsCutAfter, BeginsAs, Agrees, TakesFrom}
use Rattle.cops_trace.specs.Answer as answer
use Rattle.cops_trace.specs.Parsing.{ParseState, progress_with, progress_in, with_item, is_end, after, FailsAt, StepGives, FedTo, Fed, IsSettledAt, IsSettled, HasFailed, Stops}
use Rattle.cops_trace.proofs.Lists.{nothing_before}
use Rattle.cops_trace.proofs.Items.{item_message, Stood, stood, stands_still, prefix_with, trace_with, stands_used, waits_len, nothing_waits, is_of_frame, frame_fails}
use Rattle.cops_trace.proofs.Readings.{prefix_len, text_len, one_answer, only_answer}

-- ---- bytes in a row

IsBytes-append : (xs ys : List ℕ) → IsBytes xs → IsBytes ys → IsBytes (xs ++ ys)
IsBytes-append [] ys h k i = k i
IsBytes-append (x ∷ xs) ys h k zero = h 0
IsBytes-append (x ∷ xs) ys h k (suc i) = IsBytes-append xs ys (λ j. h (suc j)) k i

-- ---- a state and its offset

progress_is : (s : ParseState) → s.at ≡ length (text_before s.begun) → progress_in s ≡ progress_at s.begun
progress_is s e = go s.begun s.at e
  where
    go : (b : Option ATrace) (at : ℕ) → at ≡ length (text_before b) → progress_in (record { begun = b; at = at; ended = false; rest = [] }) ≡ progress_at b
    go None at e = refl
    go (Some t) at e = ap (λ (n : ℕ). Some (progress_with n t)) e

-- the state before the end
record Open (fed : List ℕ) (s : ParseState) : Type 0 where
  begins : Begins fed s.begun s.rest
  place : s.at ≡ length (text_before s.begun)

open_of : (fed : List ℕ) (s : ParseState) → Fed fed s → s.ended ≡ false → Open fed s
open_of fed s h e = let o = subst (FedTo fed s) e h.state in record { begins = o.0; place = o.1 }

stands_at : (fed : List ℕ) (s : ParseState) (found : Found) → Open fed s → Stands (progress_in s) s.rest found → Stands (progress_at s.begun) s.rest found
stands_at fed s found o st = subst (λ (p : Option Progress). Stands p s.rest found) (progress_is s o.place) st

pub fed_none : Fed [] (record { begun = None; at = 0; ended = false; rest = [] })
fed_none = record { fits = λ i. omega arith; state = (record { is_trace = tt; parts = refl }, refl) }

pub fed_more : (fed piece : List ℕ) (s : ParseState) → IsBytes piece → Fed fed s → Fed (fed ++ piece) (record s { rest = s.rest ++ piece })
fed_more fed piece s fits h = record { fits = IsBytes-append fed piece h.fits fits; state = go s.ended h.state }
  where
    go : (e : Bool) → FedTo fed s e → FedTo (fed ++ piece) (record s { rest = s.rest ++ piece }) e
    go false o = (record { is_trace = o.0.is_trace; parts = ap (λ (x : List ℕ). x ++ piece) o.0.parts ∙ append_assoc (text_before s.begun) s.rest piece }, o.1)
    go true o = (o.0, o.1, o.2, ap (λ (x : List ℕ). x ++ piece) o.3 ∙ append_assoc (text o.0) s.rest piece, o.4)

-- ---- taking an item

item_taken : (fed : List ℕ) (s : ParseState) (i : Item) (used : ℕ) (e : Bool) → is_end i ≡ e → Open fed s → Stood (progress_at s.begun) s.rest i used
    → FedTo fed (record { begun = with_item i s.begun; at = s.at + used; ended = e; rest = drop used s.rest }) e
item_taken fed s i used false k o st =
    let grows = prefix_with s.begun i st.allowed k in
    let m = encoded (item_message (progress_at s.begun) i) in (
      record {
        is_trace = trace_with s.begun i o.begins.is_trace st.allowed st.legal k;
        parts = o.begins.parts ∙ ap (λ (x : List ℕ). text_before s.begun ++ x) st.parts_are ∙ sym (append_assoc (text_before s.begun) m (drop used s.rest)) ∙ ap (λ (x : List ℕ). x ++ drop used s.rest) (sym grows);
      },
      omega (arith, o.place, st.used_is, ap length grows, length-append (text_before s.begun) m),
    )
item_taken fed s i used true k o st = go s.begun i used k o.begins.is_trace st o.begins.parts o.place
  where
    go : (b : Option ATrace) (i : Item) (used : ℕ) → is_end i ≡ true → IfSome b IsTrace → Stood (progress_at b) s.rest i used → fed ≡ text_before b ++ s.rest → s.at ≡ length (text_before b)
        → FedTo fed (record { begun = with_item i b; at = s.at + used; ended = true; rest = drop used s.rest }) true
    go (Some t) End used k is st parts place = (
      t,
      refl,
      is,
      parts ∙ ap (λ (x : List ℕ). beginning t ++ x) st.parts_are ∙ sym (append_assoc (beginning t) (end_text t) (drop used s.rest)),
      omega (arith, place, st.used_is, length-append (beginning t) (end_text t)),
    )
    go None End used k is st parts place = absurd st.allowed
    go b (Head format clients) used k is st parts place = absurd cc
    go b (Entry client op) used k is st parts place = absurd cc

pub fed_item : (fed : List ℕ) (s : ParseState) (i : Item) (used : ℕ) → Fed fed s → s.ended ≡ false → Stands (progress_in s) s.rest (Gives i used) → Fed fed (after i used s)
fed_item fed s i used h e st =
    let o = open_of fed s h e in
    record {
      fits = h.fits;
      state = item_taken fed s i used (is_end i) refl o (stood (progress_at s.begun) s.rest i used (stands_at fed s (Gives i used) o st));
    }

-- ---- faults

pub fed_fault : (fed : List ℕ) (s : ParseState) (e : TraceFault) (more : List ℕ) → Fed fed s → s.ended ≡ false → Stands (progress_in s) s.rest (Fails e) → HasFault (fed ++ more) e
fed_fault fed s e more h going st =
    let o = open_of fed s h going in
    inl (record {
      begun = s.begun;
      rest = s.rest ++ more;
      begins = record { is_trace = o.begins.is_trace; parts = ap (λ (x : List ℕ). x ++ more) o.begins.parts ∙ append_assoc (text_before s.begun) s.rest more };
      stands = stands_still (progress_at s.begun) s.rest more (Fails e) (λ q. cc) (stands_at fed s (Fails e) o st);
    })

fed_after_end : (fed : List ℕ) (s : ParseState) (more : List ℕ) → Fed fed s → s.ended ≡ true → s.rest ≢ [] → HasFault (fed ++ more) (BytesAfterEnd s.at)
fed_after_end fed s more h ended some =
    let o = subst (FedTo fed s) ended h.state in
    inr (inr (record {
      trace = o.0;
      rest = s.rest ++ more;
      is_trace = o.2;
      parts = ap (λ (x : List ℕ). x ++ more) o.3 ∙ append_assoc (text o.0) s.rest more;
      more = nothing_before s.rest more some;
      fault_is = ap (λ (n : ℕ). BytesAfterEnd n) o.4;
    }))

pub more_fails : (fed : List ℕ) (s : ParseState) → Fed fed s → s.ended ≡ true → s.rest ≢ [] → HasFailed fed (BytesAfterEnd s.at)
more_fails fed s h ended some = record { no_cut = λ offset q. cc; device = λ q. cc; stays = λ more. fed_after_end fed s more h ended some }

-- before the end, the trace so far has the head and the records before a cut
pub fed_so_far : (fed : List ℕ) (s : ParseState) → Fed fed s → s.ended ≡ false → IsSettled s → IsCutAfter fed (unwrap_or s.begun (record { format = One; clients = 0; records = [] })) s.at
fed_so_far fed s h going settled =
    let o = open_of fed s h going in
    let st : Stands (progress_in s) s.rest Waits = subst (λ (b : Bool). IsSettledAt b s) going settled in
    record { begun = s.begun; rest = s.rest; begins = o.begins; stands = stands_at fed s Waits o st; place = o.place; trace_is = refl }

pub fed_whole : (fed : List ℕ) (s : ParseState) (t : ATrace) → Fed fed s → s.ended ≡ true → s.begun ≡ Some t → IsSettled s → Says fed (Ok t)
fed_whole fed s t h ended begun settled =
    let o = subst (FedTo fed s) ended h.state in
    let none : s.rest ≡ [] = subst (λ (b : Bool). IsSettledAt b s) ended settled in
    let both : Some o.0 ≡ Some t = sym o.1 ∙ begun in
    let same : o.0 ≡ t = cc in
    let whole : fed ≡ text o.0 = o.3 ∙ ap (λ (x : List ℕ). text o.0 ++ x) none ∙ append-nil (text o.0) in
    (subst IsTrace same o.2, whole ∙ ap text same)

-- without a trace no end came
pub not_ended : (fed : List ℕ) (s : ParseState) → Fed fed s → s.begun ≡ None → s.ended ≡ false
not_ended fed s h none = go s.ended h.state
  where
    go : (b : Bool) → FedTo fed s b → b ≡ false
    go false o = refl
    go true o = let bad : Some o.0 ≡ None = sym o.1 ∙ none in absurd cc

-- ---- one step, and all steps

pub step_fails : (fed : List ℕ) (s : ParseState) (e : TraceFault) → Fed fed s → (e ≡ Memory) ⊎ FailsAt s.ended s e → Stops fed e
step_fails fed s e h (inl m) = inl m
step_fails fed s e h (inr f) = inr (go s.ended refl f)
  where
    go : (b : Bool) → s.ended ≡ b → FailsAt b s e → HasFailed fed e
    go false going st =
        let real = frame_fails (progress_in s) st.frame e st.found_is in
        record {
          no_cut = λ offset q. let bad : is_of_frame (Cut offset) ≡ true = subst (λ (x : TraceFault). is_of_frame x ≡ true) q real in cc;
          device = λ q. let bad : is_of_frame ReadFailed ≡ true = subst (λ (x : TraceFault). is_of_frame x ≡ true) q real in cc;
          stays = λ more. fed_fault fed s e more h going st;
        }
    go true ended f = subst (HasFailed fed) (sym f.1) (more_fails fed s h ended f.0)

pub step_waits : (fed : List ℕ) (s new : ParseState) → Fed fed s → StepGives s (Ok false) new → Fed fed new × IsSettled new
step_waits fed s new h st = subst (λ (x : ParseState). Fed fed x × IsSettled x) (sym st.1) (h, st.0)

pub step_takes : (fed : List ℕ) (s new : ParseState) → Fed fed s → StepGives s (Ok true) new → Fed fed new
step_takes fed s new h st = subst (Fed fed) (sym st.1.3) (fed_item fed s st.1.0 st.1.1 h st.0 st.1.2)

-- an item has at least one byte
pub step_less : (s new : ParseState) → StepGives s (Ok true) new → length new.rest < length s.rest
step_less s new st =
    let used = stands_used (progress_in s) s.rest st.1.0 st.1.1 st.1.2 in
    let less : length (drop st.1.1 s.rest) < length s.rest = omega (arith, length-drop st.1.1 s.rest, used.0, used.1) in
    subst (λ (x : ParseState). length x.rest < length s.rest) (sym st.1.3) less

-- ---- the greatest number of bytes

-- if the rest has no whole item, there are fewer bytes than the most reads
pub settled_len : (fed : List ℕ) (s : ParseState) → Fed fed s → IsSettled s → length fed < 2199023255552
settled_len fed s h settled = go s.ended h.state settled
  where
    go : (e : Bool) → FedTo fed s e → IsSettledAt e s → length fed < 2199023255552
    go false o st = omega (arith, ap length o.0.parts, length-append (text_before s.begun) s.rest, prefix_len s.begun o.0.is_trace, waits_len (progress_in s) s.rest st)
    go true o none = omega (arith, ap length o.3, length-append (text o.0) s.rest, ap length none, text_len o.0 o.2)

pub none_settled : IsSettled (record { begun = None; at = 0; ended = false; rest = [] })
none_settled = nothing_waits

-- ---- the device is not at fault

pub stops_device : (fed : List ℕ) (e : TraceFault) → Stops fed e → e ≢ ReadFailed
stops_device fed e (inl m) r = let both : Memory ≡ ReadFailed = sym m ∙ r in cc
stops_device fed e (inr h) r = h.device r

pub stops_no_cut : (fed : List ℕ) (e : TraceFault) (offset : ℕ) → Stops fed e → e ≢ Cut offset
stops_no_cut fed e offset (inl m) r = let both : Memory ≡ Cut offset = sym m ∙ r in cc
stops_no_cut fed e offset (inr h) r = h.no_cut offset r

-- ---- the bytes of a device

-- what holds for all that was read before the end holds for all bytes of the device
pub all_read : (P : List ℕ → Type 0) (a b c : Option (List ℕ)) (fed : List ℕ) → Consumes a b fed → Consumes b c [] → IsAtEnd c → P fed → IfSome a P
all_read P None b c fed p q r h = tt
all_read P (Some u) None c fed p q r h = absurd p
all_read P (Some u) (Some v) None fed p q r h = absurd q
all_read P (Some u) (Some v) (Some w) fed p q r h =
    let whole : fed ≡ u = sym (p ∙ ap (λ (t : List ℕ). fed ++ t) (q ∙ r) ∙ append-nil fed) in
    subst P whole h

-- a fault of what was read is a fault of all bytes of the device
pub fault_read : (a b : Option (List ℕ)) (fed : List ℕ) (e : TraceFault) → Consumes a b fed → Stops fed e → (e ≡ Memory) ⊎ (e ≡ ReadFailed) ⊎ IfSome a (λ bytes. HasFault bytes e)
fault_read a b fed e p (inl m) = inl m
fault_read None b fed e p (inr h) = inr (inr tt)
fault_read (Some u) None fed e p (inr h) = absurd p
fault_read (Some u) (Some v) fed e p (inr h) = inr (inr (subst (λ (x : List ℕ). HasFault x e) (sym p) (h.stays v)))

-- ---- the result

-- weakening a property of the device's bytes
pub of_bytes : (P Q : List ℕ → Type 0) (a : Option (List ℕ)) → IfSome a P → ((bytes : List ℕ) → P bytes → Q bytes) → IfSome a Q
of_bytes P Q None h q = tt
of_bytes P Q (Some u) h q = q u h

-- a fault that is no cut
pub into_fault : (a : Option (List ℕ)) (e : TraceFault) → (e ≡ Memory) ⊎ (e ≡ ReadFailed) ⊎ IfSome a (λ bytes. HasFault bytes e) → ((offset : ℕ) → e ≢ Cut offset)
    → IfSome a (λ bytes. (e ≡ Memory) ⊎ (e ≡ ReadFailed) ⊎ (HasFault bytes e × ((offset : ℕ) → e ≢ Cut offset)))
into_fault None e h k = tt
into_fault (Some u) e (inl m) k = inl m
into_fault (Some u) e (inr (inl f)) k = inr (inl f)
into_fault (Some u) e (inr (inr w)) k = inr (inr (w, k))

-- a cut is a fault of a text that has to be whole
cut_fault : (bytes : List ℕ) (t : ATrace) (offset : ℕ) → IsCutAfter bytes t offset → HasFault bytes (Cut offset)
cut_fault bytes t offset h = inr (inl (record { begun = h.begun; rest = h.rest; begins = h.begins; stands = h.stands; fault_is = ap (λ (n : ℕ). Cut n) h.place }))

-- the bytes from which a trace was taken without a cut are its text
pub whole_says : (bytes : List ℕ) (taken : SinkTaken ATrace) → TakesFrom (λ trace t. trace ≡ t) bytes taken → taken.cut ≡ None → IsBytes bytes × Says bytes (Ok taken.sink)
whole_says bytes taken h none = (h.bytes_fit, subst (λ (t : ATrace). Says bytes (Ok t)) (sym h.took_it) (subst (BeginsAs bytes h.trace) none h.begins))

pub cut_says : (bytes : List ℕ) (taken : SinkTaken ATrace) (offset : ℕ) → TakesFrom (λ trace t. trace ≡ t) bytes taken → taken.cut ≡ Some offset → IsBytes bytes × HasFault bytes (Cut offset)
cut_says bytes taken offset h cut = (h.bytes_fit, cut_fault bytes h.trace offset (subst (BeginsAs bytes h.trace) cut h.begins))

pub begins_as : (bytes : List ℕ) (taken : SinkTaken ATrace) → TakesFrom (λ trace t. trace ≡ t) bytes taken → BeginsAs bytes taken.sink taken.cut
begins_as bytes taken h = subst (λ (t : ATrace). BeginsAs bytes t taken.cut) (sym h.took_it) h.begins

-- each fault of reading into a sink is a fault of a text that has to be whole
pub fault_agrees : (bytes : List ℕ) (e : TraceFault) → (e ≡ Memory) ⊎ (e ≡ ReadFailed) ⊎ (HasFault bytes e × ((offset : ℕ) → e ≢ Cut offset)) → Agrees bytes (Err e)
fault_agrees bytes e (inl m) = inl m
fault_agrees bytes e (inr (inl f)) = inr (inl f)
fault_agrees bytes e (inr (inr w)) = inr (inr w.0)

pub agrees_only : (bytes : List ℕ) (r : Result ATrace TraceFault) → Agrees bytes r → IsBytes bytes → (x : Result ATrace TraceFault) → Says bytes x → answer.Gives x r
agrees_only bytes r h fits = only_answer bytes r fits h

pub says_one : (bytes : List ℕ) (t : ATrace) → IsBytes bytes × Says bytes (Ok t) → (x : Result ATrace TraceFault) → Says bytes x → x ≡ Ok t
says_one bytes t h x says = one_answer bytes x (Ok t) h.0 says h.1
