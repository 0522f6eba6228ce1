use Rattle.std.proofs.Common.{◌∷◌, ◌++◌, ℕ, List, [], length, drop, arith, ap, sym, subst, Ok}
use Rattle.std.proofs.lemmas.List.{length-append, length-drop}
use Rattle.cops_types.specs.declared.op_view.OpView.{OpView}
use Rattle.cops_wire.specs.Answer.{IsAnswer}
use Rattle.cops_wire.specs.Grammar.{grammar}
use Rattle.cops_wire.specs.Message.{parts}
use Rattle.cops_wire.specs.Records.{borrowed_message}
use Rattle.cops_wire.proofs.Codec.{used_within}
use Rattle.cops_trace.specs.declared.ahead.RecordPlace.{RecordPlace}
use Rattle.cops_trace.specs.Ahead.{AreSeen}
use Rattle.cops_trace.proofs.Aheads.{from_place, seen_next, seen_too}
use Rattle.cops_trace.proofs.ahead.see_ahead.Goals as goal
use Rattle.cops_trace.proofs.ahead.see_ahead.Goals.{else-loop-test, then-loop-test+in_default, then-loop-test+in-Some+in_default-push, then-loop-test+in-Some+in-Ok+in_default-push-2}

pub loop-preserved : goal.loop-preserved
loop-preserved c =
    let bytes = c.args.bytes.now in
    let r = c.in-Some.record in
    let answer = subst (λ (l : List ℕ). IsAnswer (grammar c.args.format) l (Ok (parts (borrowed_message r), r.used))) (from_place bytes c.loop.at) c.in-Some.ensures in
    let bounds = used_within c.args.format (drop c.loop.at bytes) (parts (borrowed_message r)) r.used answer in
    let place : RecordPlace = record { at = c.loop.at; used = r.used; client = r.client; index = r.index } in
    let now = seen_next c.args.format bytes c.loop.places.items c.loop.ops.items place r.op c.loop.invariant.same c.loop.invariant.seen answer in
    record {
      within = omega (arith, c.loop.invariant.within, bounds.1, length-drop c.loop.at bytes);
      same = omega (
        arith,
        c.loop.invariant.same,
        ap length c.in-Ok-push.ensures.items,
        ap length c.in-Ok.ensures.items,
        length-append c.loop.places.items (place ∷ []),
        length-append c.loop.ops.items (r.op ∷ []),
      );
      seen = subst (λ (l : List RecordPlace). AreSeen c.args.format bytes l c.push.new.self.items) (sym c.in-Ok-push.ensures.items)
          (subst (λ (l : List OpView). AreSeen c.args.format bytes (c.loop.places.items ++ place ∷ []) l) (sym c.in-Ok.ensures.items) now);
    }

pub returns-clause-seen : goal.returns-clause-seen
returns-clause-seen c = elim c.loop-test.branch [
  | else-loop-test w ↦ rw (w.places-is, w.ops-is) c.loop.invariant.seen
  | then-loop-test+in_default w ↦ rw (w.places-is, w.ops-is) c.loop.invariant.seen
  | then-loop-test+in-Some+in_default-push w ↦ let same = w.in_default-push.ensures.items in rw (w.places-is, w.ops-is, same) c.loop.invariant.seen
  | then-loop-test+in-Some+in-Ok+in_default-push-2 w ↦
      let same = w.in_default-push-2.ensures.items in
      let more = w.in-Ok.ensures.items in
      rw (w.places-is, w.ops-is, same, more) (seen_too c.args.format c.args.bytes.now c.loop.places.items c.loop.ops.items w.in-Some.record.op c.loop.invariant.seen)
]
