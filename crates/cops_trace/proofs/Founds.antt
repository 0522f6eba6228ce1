-- What the code finds is what the definitions say.
use Rattle.std.proofs.Common.{◌≡◌, ◌≢◌, ℕ, List, Option, Some, None, Result, Ok, Err, refl, sym, ap, subst, ◌∙◌}
use Rattle.std.specs.Prelude.{IfOk, OnErr, option_map}
use Rattle.cops_types.specs.declared.fault.Memory.{Memory}
use Rattle.cops_types.specs.declared.format.Format.{Format}
use Rattle.cops_wire.specs.declared.fault.WireFault.{WireFault}
use Rattle.cops_wire.specs.declared.fault.WireFault.TheVariants as wire
use Rattle.cops_wire.specs.Grammar.{grammar, Parts}
use Rattle.cops_wire.specs.Answer.{Answers, BeginsWithTaking, IsAnswer}
use Rattle.cops_wire.specs.declared.decoding.Decoded.{Decoded}
use Rattle.cops_types.specs.OpViews.{op_viewed}
use Rattle.cops_wire.specs.Message.{parts}
use Rattle.cops_wire.specs.Records.{record_of_message, borrowed_message}
use Rattle.cops_wire.proofs.Records.{borrowed_again}
use Rattle.cops_wire.specs.declared.record.TraceRecord.{TraceRecord}
use Rattle.cops_wire.specs.declared.record_view.RecordView.{RecordView}
use Rattle.cops_wire.specs.declared.message.Message.{Message}
use Rattle.cops_wire.specs.declared.message.Message.TheVariants.{TraceEnd}
use Rattle.cops_trace.specs.declared.found.Item.{Item}
use Rattle.cops_trace.specs.declared.found.Item.TheVariants.{Head, Op as Entry, End}
use Rattle.cops_trace.specs.declared.found.Found.{Found}
use Rattle.cops_trace.specs.declared.found.Found.TheVariants.{Gives}
use Rattle.cops_trace.specs.Text.{ATrace, turn}
use Rattle.cops_trace.specs.Counts.{ACounts, AreCountsOf, progress_from}
use Rattle.cops_trace.specs.Next.{FrameIs, Progress, Stands, format_next, found_among, found_in, later_message, record_found, unread}
use Rattle.cops_trace.specs.Parsing.{progress_with, IsBegunAs, ItemHasRoom}
use Rattle.cops_trace.specs.Reading.{ItemHasTurn}
use Rattle.cops_types.specs.Operations.{operation_of}
use Rattle.cops_trace.proofs.Allocation.{op_in_format}
use Rattle.cops_trace.proofs.Items.{given, op_fits, record_means, stood}

fault_answer : (f : WireFault) (P : Result (Parts × ℕ) WireFault → Type 0) → f ≢ wire.Memory → Answers (Err f) P → P (Err f)
fault_answer wire.Memory P ne h = absurd (ne refl)
fault_answer wire.Short P ne h = h
fault_answer wire.BadLength P ne h = h
fault_answer wire.UnknownKind P ne h = h
fault_answer (wire.BadField offset) P ne h = h
fault_answer wire.TrailingBytes P ne h = h

-- the fault of a frame
pub unread_stands : (p : Option Progress) (at : ℕ) (rest : List ℕ) (f : WireFault) (r : Result Found Memory) → found_in p (Err f) ≡ unread at f → Answers (Err f) (IsAnswer (grammar (format_next p)) rest)
    → IfOk r (λ found. (f ≢ wire.Memory) × (found ≡ unread at f)) → IfOk r (Stands p rest)
unread_stands p at rest f (Ok found) is answer h = record { frame = Err f; frame_is = fault_answer f (IsAnswer (grammar (format_next p)) rest) h.0 answer; found_is = is ∙ sym h.1 }
unread_stands p at rest f (Err e) is answer h = tt

-- reading a frame runs out of memory only if it allocates
pub takes_memory : (format : Format) (rest : List ℕ) (f : WireFault) (r : Result Found Memory) → OnErr r (f ≡ wire.Memory) → (◌≡◌ {A = Result Decoded WireFault} (Err f) (Err wire.Memory) → BeginsWithTaking (grammar format) rest)
    → OnErr r (BeginsWithTaking (grammar format) rest)
takes_memory format rest f (Ok found) h takes = tt
takes_memory format rest f (Err e) h takes = takes (ap (λ (x : WireFault). Err x) h)

-- ---- the counts instead of the trace

-- a frame means the same after a trace and after the trace's counts
same_record : (at : ℕ) (t : ATrace) (c : ACounts) (r : TraceRecord) (used : ℕ) → AreCountsOf t c → record_found (progress_from at c) r used ≡ record_found (progress_with at t) r used
same_record at t c r used h = rw (h.clients, h.next r.client, h.total) refl

same_among : (at : ℕ) (t : ATrace) (c : ACounts) (r : Option TraceRecord) (used : ℕ) → AreCountsOf t c → found_among (progress_from at c) r used ≡ found_among (progress_with at t) r used
same_among at t c (Some r) used h = same_record at t c r used h
same_among at t c None used h = refl

same_message : (at : ℕ) (t : ATrace) (c : ACounts) (m : Message) (used : ℕ) → AreCountsOf t c → later_message (progress_from at c) m used ≡ later_message (progress_with at t) m used
same_message at t c (TraceEnd ops) used h = rw (h.total) refl
same_message at t c m used h = same_among at t c (record_of_message m) used h

same_found : (at : ℕ) (t : ATrace) (c : ACounts) (d : Result (Message × ℕ) WireFault) → AreCountsOf t c → found_in (Some (progress_from at c)) d ≡ found_in (Some (progress_with at t)) d
same_found at t c (Ok frame) h = same_message at t c frame.0 frame.1 h
same_found at t c (Err e) h = unread_same at t c e
  where
    unread_same : (at : ℕ) (t : ATrace) (c : ACounts) (e : WireFault) → found_in (Some (progress_from at c)) (Err e) ≡ found_in (Some (progress_with at t)) (Err e)
    unread_same at t c e = refl

-- what comes next after the counts comes next after the trace
pub stands_after : (at : ℕ) (b : Option ATrace) (c : Option ACounts) (rest : List ℕ) (found : Found) → IsBegunAs b c
    → Stands (option_map (progress_from at) c) rest found → Stands (option_map (progress_with at) b) rest found
stands_after at None None rest found h s = s
stands_after at (Some t) (Some c) rest found h s = record { frame = s.frame; frame_is = subst (λ (f : Format). FrameIs f rest s.frame) h.format s.frame_is; found_is = sym (same_found at t c s.frame h) ∙ s.found_is }
stands_after at None (Some c) rest found h s = absurd h
stands_after at (Some t) None rest found h s = absurd h

-- there is room for the item that comes next
pub item_room : (at : ℕ) (b : Option ATrace) (rest : List ℕ) (i : Item) (used : ℕ) → Stands (option_map (progress_with at) b) rest (Gives i used) → ItemHasRoom i b
item_room at b rest (Head format clients) used s = tt
item_room at None rest (Entry client op) used s = (given None s.frame (Entry client op) used s.found_is).0
item_room at (Some t) rest (Entry client op) used s =
    let p = Some (progress_with at t) in
    ((given p s.frame (Entry client op) used s.found_is).0, op_in_format t.format (operation_of op) (op_fits t.format client (turn client t.records) (operation_of op) (stood p rest (Entry client op) used s).legal))
item_room at b rest End used s = tt

pub item_turn : (at : ℕ) (b : Option ACounts) (rest : List ℕ) (i : Item) (used : ℕ) → Stands (option_map (progress_from at) b) rest (Gives i used) → ItemHasTurn i b
item_turn at b rest (Head format clients) used s = tt
item_turn at None rest (Entry client op) used s = (given None s.frame (Entry client op) used s.found_is).0
item_turn at (Some c) rest (Entry client op) used s = (given (Some (progress_from at c)) s.frame (Entry client op) used s.found_is).0
item_turn at b rest End used s = tt

-- a borrowed record at the front of the rest comes next
pub seen_stands : (p : Progress) (rest : List ℕ) (r : RecordView) → IsAnswer (grammar p.format) rest (Ok (parts (borrowed_message r), r.used))
    → record_found p (record { client = r.client; index = r.index; op = op_viewed r.op }) r.used ≡ Gives (Entry r.client (op_viewed r.op)) r.used → Stands (Some p) rest (Gives (Entry r.client (op_viewed r.op)) r.used)
seen_stands p rest r is found = record {
  frame = Ok (borrowed_message r, r.used);
  frame_is = is;
  found_is = record_means p (borrowed_message r) (record { client = r.client; index = r.index; op = op_viewed r.op }) r.used (borrowed_again r.client r.index r.op) ∙ found;
}
