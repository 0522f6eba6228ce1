-- Records that are written one after another.
use Rattle.std.proofs.Common.{◌≡◌, ◌≤◌, ◌≢◌, ℕ, min, ◌+◌, ◌^◌, ◌<◌, List, [], ◌∷◌, ◌++◌, length, map, refl, sym, ap, subst, ◌∙◌, arith}
use Rattle.std.specs.Prelude.{Option, Some}
use Rattle.std.specs.Io.KnownBytes.{Appends}
use Rattle.std.proofs.lemmas.List.{length-append, length-map, map-append}
use Rattle.cops_types.proofs.Devices.{appends_more}
use Rattle.cops_types.specs.Counted.{failures, inner}
use Rattle.cops_types.specs.Failures.{Failed}
use Rattle.cops_types.specs.declared.counted.Counted.{Counted}
use Rattle.cops_types.specs.declared.limits.TheConstants.{MAX_CLIENTS, MAX_CLIENT_OPS}
use Rattle.cops_types.specs.Histories.{Operation}
use Rattle.cops_types.specs.Operations.{operation_of}
use Rattle.cops_types.specs.declared.format.Format.{Format}
use Rattle.cops_wire.specs.Message.{encoded}
use Rattle.cops_wire.specs.Records.{record_message}
use Rattle.cops_wire.specs.declared.message.Message.TheVariants.{TraceEnd}
use Rattle.cops_trace.specs.Counts.{ACounts, AreCountsOf, HasTurn, counted, nothing}
use Rattle.cops_trace.specs.Kept.{grown}
use Rattle.cops_trace.specs.Live.{HasBegun, IsCutShort}
use Rattle.cops_trace.specs.Live as live
use Rattle.cops_trace.specs.Text.{ARecord, ATrace, IsOp, beginning, record_text, text, turn}
use Rattle.cops_trace.specs.Writing.{IsUnwritten, end_frame, head_frame, more_written, record_frame}
use Rattle.cops_trace.specs.declared.fault.WriteFault.{WriteFault}
use Rattle.cops_trace.specs.declared.fault.WriteFault.TheVariants as write
use Rattle.cops_trace.specs.declared.writer.TraceWriter.{TraceWriter}
use Rattle.cops_trace.proofs.Begun.{add_cut, cut_begun, cut_kept, cut_none, new_cut, rest_cut}
use Rattle.cops_trace.proofs.Allocation.{IsTrace-grown, IsTrace-none, beginning-grown, beginning-none}
use Rattle.cops_trace.proofs.Readings.{prefix_len, text_len}
use Rattle.cops_trace.proofs.Underway.{counts_grown, counts_none}
use Rattle.cops_import.specs.Faults.{IsTooMany}
use Rattle.cops_import.specs.Lines.{names_of, record_of, records_of}
use Rattle.cops_import.specs.Names.{number_of, with_name}
use Rattle.cops_import.specs.Underway.{HasLeft, HasOps, HasWritten, format_of, known_to}
use Rattle.cops_import.specs.Writing.{fault_of}
use Rattle.cops_import.specs.declared.fault.ImportFault.{ImportFault}
use Rattle.cops_import.specs.declared.fault.ImportFault.TheVariants.{Memory}
use Rattle.cops_import.specs.declared.fault.JsonLineFault.TheVariants.{TooManyOperations}
use Rattle.cops_import.specs.declared.importer.Importer.{Importer}
use Rattle.cops_import.specs.declared.reported.LineOp.{LineOp}
use Rattle.cops_import.proofs.Numbering.{names_more, number_own, records_kept}

-- ---- the trace with one more operation

abbrev entry : List LineOp → LineOp → ARecord
entry given reported = record { client = number_of (names_of given) reported.name; op = operation_of reported.op }

pub trace_more : (format : Format) (clients : ℕ) (given : List LineOp) (reported : LineOp) → known_to format clients (given ++ reported ∷ []) ≡ grown (known_to format clients given) (entry given reported)
trace_more format clients given reported =
    let names = names_of given in
    let all = with_name names reported.name in
    let more : map (record_of (names_of (given ++ reported ∷ []))) (given ++ reported ∷ []) ≡ map (record_of all) (given ++ reported ∷ []) =
    ap (λ (ns : List (List ℕ)). map (record_of ns) (given ++ reported ∷ [])) (names_more given reported) in
    let kept : map (record_of all) given ≡ map (record_of names) given = records_kept [] given reported.name in
    let last : record_of all reported ≡ entry given reported = ap (λ (k : ℕ). record { client = k; op = operation_of reported.op }) (number_own names reported.name) in
    ap (λ (rs : List ARecord). record { format = format; clients = clients; records = rs })
    (more ∙ map-append (record_of all) given (reported ∷ []) ∙ ap (λ (rs : List ARecord). rs ++ record_of all reported ∷ []) kept ∙ ap (λ (r : ARecord). map (record_of names) given ++ r ∷ []) last)

-- ---- what is written

module _ {W : Type 0} (contents : W → Option (List ℕ)) (from : Counted W) where
  begun_of : (t : ATrace) (w : TraceWriter W) → HasWritten contents from t w → HasBegun (contents (inner from)) (contents (inner w.writer)) (beginning t) w.counts w.written
  begun_of t w h = record { trace = t; is_trace = h.is_trace; counts = h.counts; bytes_are = refl; in_all = h.in_all; appends = h.appends }

  -- one more record was written
  pub written_more : (t : ATrace) (old new : TraceWriter W) (client : ℕ) (op : Operation) → HasWritten contents from t old → HasTurn old.counts client → IsOp t.format op
      → Appends (contents (inner old.writer)) (contents (inner new.writer)) (record_frame old.counts client op) → new.counts ≡ counted old.counts client
      → new.written ≡ more_written old.written (length (record_frame old.counts client op)) → failures new.writer ≡ failures old.writer
      → HasWritten contents from (grown t (record { client = client; op = op })) new
  written_more t old new client op h room is more counts written heard =
      let r : ARecord = record { client = client; op = op } in
      let trace = IsTrace-grown t r h.is_trace (omega (arith, h.counts.clients, room.0)) is (omega (arith, h.counts.next client, room.1)) (omega (arith, h.counts.total, room.2)) in
      let frame : record_frame old.counts client op ≡ record_text t.records r = ap (λ (i : ℕ). encoded (record_message client i op)) (h.counts.next client) in
      let same : beginning (grown t r) ≡ beginning t ++ record_frame old.counts client op = beginning-grown t r ∙ ap (λ (l : List ℕ). beginning t ++ l) (sym frame) in
      record {
        is_trace = trace;
        counts = subst (AreCountsOf (grown t r)) (sym counts) (counts_grown t old.counts r h.counts room.0);
        in_all = omega (arith, written, h.in_all, ap length same, length-append (beginning t) (record_frame old.counts client op), prefix_len (Some (grown t r)) trace);
        appends = appends_more (contents (inner from)) (contents (inner old.writer)) (contents (inner new.writer)) (beginning t) (record_frame old.counts client op) (beginning (grown t r)) h.appends more (sym same);
        heard = heard ∙ h.heard;
      }

  pub cut_so_far : (t : ATrace) (w : TraceWriter W) → HasWritten contents from t w → (n : ℕ) × IsCutShort (contents (inner from)) (contents (inner w.writer)) n
  cut_so_far t w h = cut_begun (contents (inner from)) (contents (inner w.writer)) (beginning t) w.counts w.written (begun_of t w h)

  -- nothing was written
  pub left_nothing : HasLeft contents from Memory from
  left_nothing = record { cut = (0, cut_none (contents (inner from))); heard = tt }

  -- memory ran out
  pub left_here : (t : ATrace) (w : TraceWriter W) (e : ImportFault) → HasWritten contents from t w → e ≡ Memory → HasLeft contents from e w.writer
  left_here t w e h is = rw is (record { cut = cut_so_far t w h; heard = tt })

  left_of : (e : WriteFault) (w : Counted W) → live.IsCutBy e (contents (inner from)) (contents (inner w)) → (e ≢ write.Memory → Failed (failures from) (failures w))
      → HasLeft contents from (fault_of e) w
  left_of write.Memory w cut failed = record { cut = cut; heard = tt }
  left_of (write.WriteFailed written) w cut failed = record { cut = cut; heard = failed (λ q. let no : ⊥ = cc in no) }

  -- the record was not written
  pub left_refused : (t : ATrace) (old new : TraceWriter W) (client : ℕ) (op : Operation) (e : WriteFault) → HasWritten contents from t old → HasTurn old.counts client → IsOp t.format op
      → IsUnwritten (record_frame old.counts client op) old.written (contents (inner old.writer)) (contents (inner new.writer)) e
      → (e ≢ write.Memory → Failed (failures old.writer) (failures new.writer)) → HasLeft contents from (fault_of e) new.writer
  left_refused t old new client op e h room is unwritten failed =
      left_of e new.writer
      (add_cut (contents (inner from)) (contents (inner old.writer)) (contents (inner new.writer)) (beginning t) old.counts old.written client op e (begun_of t old h) room (subst (λ (f : Format). IsOp f op) (sym h.counts.format) is) unwritten)
      (λ q. subst (λ (n : ℕ). Failed n (failures new.writer)) h.heard (failed q))

  -- one more operation was taken
  pub ops_more : (given : List LineOp) (reported : LineOp) (old new : Importer W) (client : ℕ) → HasOps contents from given old → new.clients ≡ old.clients → format_of new ≡ format_of old
      → new.names ≡ with_name old.names reported.name → new.operations ≡ min (old.operations + 1) 18446744073709551615 → client ≡ number_of old.names reported.name
      → length new.names ≤ new.clients → HasTurn old.writer.counts client → HasWritten contents from (grown (known_to (format_of old) old.clients given) (record { client = client; op = operation_of reported.op })) new.writer
      → HasOps contents from (given ++ reported ∷ []) new
  ops_more given reported old new client h clients format names operations number few room wrote =
      let many : length (known_to (format_of old) old.clients given).records ≡ length given = length-map given (record_of (names_of given)) in
      let entered : client ≡ number_of (names_of given) reported.name = number ∙ ap (λ (ns : List (List ℕ)). number_of ns reported.name) h.names in
      let trace : grown (known_to (format_of old) old.clients given) (record { client = client; op = operation_of reported.op }) ≡ known_to (format_of new) new.clients (given ++ reported ∷ []) =
      ap (λ (k : ℕ). grown (known_to (format_of old) old.clients given) (record { client = k; op = operation_of reported.op })) entered ∙ sym (trace_more (format_of old) old.clients given reported)
      ∙ ap (λ (k : ℕ). known_to (format_of old) k (given ++ reported ∷ [])) (sym clients)
      ∙ ap (λ (f : Format). known_to f new.clients (given ++ reported ∷ [])) (sym format) in
      let all : new.names ≡ names_of (given ++ reported ∷ []) = names ∙ ap (λ (ns : List (List ℕ)). with_name ns reported.name) h.names ∙ sym (names_more given reported) in
      record {
        names = all;
        few = omega (arith, few, ap length all);
        operations = omega (arith, operations, h.operations, length-append given (reported ∷ []), room.2, h.wrote.counts.total, many);
        wrote = subst (λ (t : ATrace). HasWritten contents from t new.writer) trace wrote;
      }

  -- ---- the head and the end

  pub left_new : (w : Counted W) (format : Format) (clients : ℕ) (e : WriteFault) → clients < 2 ^ 16 → IsUnwritten (head_frame format clients) 0 (contents (inner from)) (contents (inner w)) e
      → (e ≢ write.Memory → Failed (failures from) (failures w)) → HasLeft contents from (fault_of e) w
  left_new w format clients e few unwritten failed = left_of e w (new_cut (contents (inner from)) (contents (inner w)) format clients e few unwritten) failed

  -- no operation was taken
  pub ops_none : (format : Format) (i : Importer W) → i.names ≡ [] → i.operations ≡ 0 → i.clients < 2 ^ 16
      → Appends (contents (inner from)) (contents (inner i.writer.writer)) (head_frame format i.clients) → i.writer.counts ≡ nothing format i.clients
      → i.writer.written ≡ more_written 0 (length (head_frame format i.clients)) → failures i.writer.writer ≡ failures from → HasOps contents from [] i
  ops_none format i names operations few head counts written heard =
      let t = known_to format i.clients [] in
      let trace = IsTrace-none format i.clients few in
      let same : beginning t ≡ head_frame format i.clients = beginning-none format i.clients in
      let is : format_of i ≡ format = ap (λ (c : ACounts). c.format) counts in
      let wrote : HasWritten contents from t i.writer =
      record {
        is_trace = trace;
        counts = subst (AreCountsOf t) (sym counts) (counts_none format i.clients);
        in_all = omega (arith, written, ap length same, prefix_len (Some t) trace);
        appends = subst (Appends (contents (inner from)) (contents (inner i.writer.writer))) (sym same) head;
        heard = heard;
      } in
      record { names = names; few = omega arith; operations = operations; wrote = subst (λ (f : Format). HasWritten contents from (known_to f i.clients []) i.writer) (sym is) wrote }

  end_is : (t : ATrace) (c : ACounts) → AreCountsOf t c → text t ≡ beginning t ++ end_frame c
  end_is t c counts = ap (λ (n : ℕ). beginning t ++ encoded (TraceEnd n)) (sym counts.total)

  pub end_written : (t : ATrace) (writer : TraceWriter W) (w : Counted W) → HasWritten contents from t writer
      → Appends (contents (inner writer.writer)) (contents (inner w)) (end_frame writer.counts) → Appends (contents (inner from)) (contents (inner w)) (text t)
  end_written t writer w h more =
      appends_more (contents (inner from)) (contents (inner writer.writer)) (contents (inner w)) (beginning t) (end_frame writer.counts) (text t) h.appends more (sym (end_is t writer.counts h.counts))

  -- adding `count` bytes to a cut text does not overflow 64 bits
  reported : (old new : Option (List ℕ)) (before count : ℕ) → IsCutShort old new (before + count) → before + count ≡ more_written before count
  reported old new before count cut = let long = text_len cut.trace cut.is_trace in omega (arith, cut.fewer, long)

  end_cut : (t : ATrace) (old : TraceWriter W) (w : Counted W) (e : WriteFault) → HasWritten contents from t old
      → IsUnwritten (end_frame old.counts) old.written (contents (inner old.writer)) (contents (inner w)) e → live.IsCutBy e (contents (inner from)) (contents (inner w))
  end_cut t old w write.Memory h k = cut_kept (contents (inner from)) (contents (inner old.writer)) (contents (inner w)) (beginning t) old.counts old.written (begun_of t old h) k
  end_cut t old w (write.WriteFailed all) h u =
      let cut = rest_cut (contents (inner from)) (contents (inner old.writer)) (contents (inner w)) t (beginning t) (end_frame old.counts) u.0 h.is_trace (end_is t old.counts h.counts) h.appends u.3 u.1 in
      subst (IsCutShort (contents (inner from)) (contents (inner w)))
      (reported (contents (inner from)) (contents (inner w)) (length (beginning t)) u.0 cut ∙ ap (λ (n : ℕ). more_written n u.0) (sym h.in_all) ∙ sym u.2) cut

  -- the end record was not written
  pub left_ended : (t : ATrace) (old : TraceWriter W) (w : Counted W) (e : WriteFault) → HasWritten contents from t old
      → IsUnwritten (end_frame old.counts) old.written (contents (inner old.writer)) (contents (inner w)) e → (e ≢ write.Memory → Failed (failures old.writer) (failures w)) → HasLeft contents from (fault_of e) w
  left_ended t old w e h unwritten failed = left_of e w (end_cut t old w e h unwritten) (λ q. subst (λ (n : ℕ). Failed n (failures w)) h.heard (failed q))

-- a client without a turn has no room for a record
pub too_many : (format : Format) (clients : ℕ) (given : List LineOp) (reported : LineOp) (counts : ACounts) (client : ℕ) → AreCountsOf (known_to format clients given) counts → client ≡ number_of (names_of given) reported.name → client < clients
    → (HasTurn counts client → ⊥) → length (names_of (given ++ reported ∷ [])) ≤ MAX_CLIENTS → IsTooMany given reported TooManyOperations
too_many format clients given reported counts client h number there full few =
    let many : length (known_to format clients given).records ≡ length given = length-map given (record_of (names_of given)) in
    let same : number_of (names_of (given ++ reported ∷ [])) reported.name ≡ client =
    ap (λ (ns : List (List ℕ)). number_of ns reported.name) (names_more given reported) ∙ number_own (names_of given) reported.name ∙ sym number in (
      few,
      λ room.
          let own : turn client (records_of given) < MAX_CLIENT_OPS = subst (λ (k : ℕ). turn k (records_of given) < MAX_CLIENT_OPS) same room.0 in
          full (omega (arith, h.clients, there), omega (arith, h.next client, own), omega (arith, h.total, many, room.1)),
    )
