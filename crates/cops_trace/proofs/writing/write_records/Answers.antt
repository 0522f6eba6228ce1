use Rattle.std.proofs.Common.{ℕ, ◌+◌, List, sym, ap, subst, ◌∙◌, length, arith}
use Rattle.cops_types.specs.Counted.{inner}
use Rattle.cops_trace.specs.Text.{beginning, text}
use Rattle.cops_trace.specs.Writing.{HasSent, prefix}
use Rattle.cops_trace.proofs.Prefixes.{rest_of, sent_cut, sent_few, sent_more, sent_next, text_parts, unwrapped}
use Rattle.cops_trace.proofs.writing.write_records.Goals as goal

pub send-requires : goal.send-requires
send-requires g c =
    let t = c.args.trace.now in
    let new = c.append_records.new in
    let more = unwrapped _ _ (c.append_records.ensures.succeeds c.loop-counts.invariant.room) c.append_records.ensures.text in
    let sent = sent_more _ _ _ c.loop-counts.left.items (beginning (prefix new.counts.total t)) new.out.items c.loop-counts.written c.loop-counts.invariant.sent more in
    omega (arith, sent_few _ _ t _ new.out.items (rest_of t new.counts.total) c.loop-counts.written c.len.ensures.trace (text_parts t new.counts.total) sent)

pub returns-in-Err-clause-cut : goal.returns-in-Err-clause-cut
returns-in-Err-clause-cut g c =
    let t = c.args.trace.now in
    let new = c.append_records.new in
    let more = unwrapped _ _ (c.append_records.ensures.succeeds c.loop-counts.invariant.room) c.append_records.ensures.text in
    let sent = sent_more _ _ _ c.loop-counts.left.items (beginning (prefix new.counts.total t)) new.out.items c.loop-counts.written c.loop-counts.invariant.sent more in
    let err = c.in-Err.ensures.err in
    let cut = sent_cut _ _ _ _ new.out.items (rest_of t new.counts.total) (text t) c.loop-counts.written err.0 sent (text_parts t new.counts.total) err.1 err.3 in
    (c.loop-counts.written + err.0, err.2, cut.0, cut.1)

pub loop-counts-preserved-in-Ok : goal.loop-counts-preserved-in-Ok
loop-counts-preserved-in-Ok g c =
    let t = c.args.trace.now in
    let new = c.append_records.new in
    let is_ok = c.append_records.ensures.succeeds c.loop-counts.invariant.room in
    let more = unwrapped _ _ is_ok c.append_records.ensures.text in
    let sent = sent_more _ _ _ c.loop-counts.left.items (beginning (prefix new.counts.total t)) new.out.items c.loop-counts.written c.loop-counts.invariant.sent more in
    let ok = c.in-Ok.ensures.ok in
    let none = c.in-Ok.ensures.none in
    record {
      counts = unwrapped _ _ is_ok c.append_records.ensures.at;
      sent = subst (λ (l : List ℕ). HasSent (g.W.Write.contents (inner c.args.writer.now)) (g.W.Write.contents (inner c.send.new.writer)) (beginning (prefix new.counts.total t)) l c.in-Ok.more) (sym none)
          (sent_next _ _ _ _ new.out.items c.loop-counts.written c.in-Ok.more sent ok.1 ok.0);
      heard = c.in-Ok.ensures.heard ∙ c.loop-counts.invariant.heard;
      room = omega (arith, c.loop-counts.invariant.room, c.append_records.ensures.capacity, c.in-Ok.ensures.capacity);
      few = omega (arith, ap length none, c.send.new.left.ok.0);
    }
