use Rattle.std.proofs.Common.{◌≡◌, ℕ, ◌+◌, ◌<◌, ◌≤◌, [], ◌++◌, sym, subst, ◌∙◌, length, take, vec_len, vec_capacity, arith}
use Rattle.std.proofs.lemmas.List.{append-nil}
use Rattle.std.specs.Io.KnownBytes.{Appends}
use Rattle.cops_types.specs.Counted.{inner}
use Rattle.cops_trace.specs.Text.{text}
use Rattle.cops_trace.specs.declared.fault.WriteFault.TheVariants.{WriteFailed}
use Rattle.cops_trace.proofs.Prefixes.{ok_then, sent_all, sent_cut, sent_end, sent_few}
use Rattle.cops_trace.proofs.writing.write_trace.Goals as goal

pub send-requires : goal.send-requires
send-requires g c =
    let t = c.args.trace.now in
    let left = c.write_records.new.left in
    let room : vec_len left + length c.deref.result.now ≤ vec_capacity left =
    omega (arith, c.in_ok-written.ensures.room, c.in_ok-written.ensures.few, c.deref.ensures.len, c.in-Ok.ensures.end.1) in
    let items = c.extend_from_slice.ensures.items
    ∙ ok_then c.extend_from_slice.result (left.items ++ c.deref.result.now) left.items (c.extend_from_slice.ensures.succeeds room) in
    let sent = sent_end _ _ t left.items c.deref.result.now c.extend_from_slice.new.self.items c.in_ok-written.written c.in_ok-written.ensures.sent items
    (c.deref.ensures.value ∙ c.in-Ok.ensures.end.0) in
    omega (arith, sent_few _ _ t (text t) c.extend_from_slice.new.self.items [] c.in_ok-written.written c.len-records.ensures.trace (sym (append-nil (text t))) sent)

pub returns-clause-cut : goal.returns-clause-cut
returns-clause-cut g c = λ n e.
    let t = c.args.trace.now in
    let left = c.write_records.new.left in
    let room : vec_len left + length c.deref.result.now ≤ vec_capacity left =
    omega (arith, c.in_ok-written.ensures.room, c.in_ok-written.ensures.few, c.deref.ensures.len, c.in-Ok.ensures.end.1) in
    let items = c.extend_from_slice.ensures.items
    ∙ ok_then c.extend_from_slice.result (left.items ++ c.deref.result.now) left.items (c.extend_from_slice.ensures.succeeds room) in
    let sent = sent_end _ _ t left.items c.deref.result.now c.extend_from_slice.new.self.items c.in_ok-written.written c.in_ok-written.ensures.sent items
    (c.deref.ensures.value ∙ c.in-Ok.ensures.end.0) in
    let err = c.in-Err.ensures.err in
    let cut = sent_cut _ _ _ (text t) c.extend_from_slice.new.self.items [] (text t) c.in_ok-written.written err.0 sent (sym (append-nil (text t))) err.1 err.3 in
    let same : WriteFailed (c.in_ok-written.written + err.0) ≡ WriteFailed n = sym err.2 ∙ e in
    let number : c.in_ok-written.written + err.0 ≡ n = cc in
    subst (λ (m : ℕ). (m < length (text t)) × Appends (g.W.Write.contents (inner c.args.writer.now)) (g.W.Write.contents (inner c.send.new.writer)) (take m (text t))) number cut

pub returns-in-Ok-send-clause-ok : goal.returns-in-Ok-send-clause-ok
returns-in-Ok-send-clause-ok g c =
    let t = c.args.trace.now in
    let left = c.write_records.new.left in
    let room : vec_len left + length c.deref.result.now ≤ vec_capacity left =
    omega (arith, c.in_ok-written.ensures.room, c.in_ok-written.ensures.few, c.deref.ensures.len, c.in-Ok.ensures.end.1) in
    let items = c.extend_from_slice.ensures.items
    ∙ ok_then c.extend_from_slice.result (left.items ++ c.deref.result.now) left.items (c.extend_from_slice.ensures.succeeds room) in
    let sent = sent_end _ _ t left.items c.deref.result.now c.extend_from_slice.new.self.items c.in_ok-written.written c.in_ok-written.ensures.sent items
    (c.deref.ensures.value ∙ c.in-Ok.ensures.end.0) in
    sent_all _ _ _ (text t) c.extend_from_slice.new.self.items c.in_ok-written.written sent c.in-Ok-send.ensures.ok.1
