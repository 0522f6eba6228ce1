use Rattle.std.proofs.Common.{List, ℕ, sym, subst}
use Rattle.cops_trace.specs.Reading.{IsStoppedBy, Reading}
use Rattle.cops_trace.proofs.Underway.{stopped_more}
use Rattle.cops_trace.proofs.reader.TraceReader.feed.Goals as goal

pub invariant_of-self-2 : goal.invariant_of-self-2
invariant_of-self-2 c =
    let inside = c.self.inside in
    let reading : List ℕ → Reading = λ rest. record { counts = inside.counts; at = inside.at; ended = inside.ended; rest = rest; fault = inside.fault } in
    let more = stopped_more (reading inside.buffer) c.args.piece.now inside.fault c.self.invariant.1 in
    (c.self.invariant.0, subst (λ (rest : List ℕ). IsStoppedBy (reading rest) inside.fault) (sym c.in_ok-feed.ensures.ok) more)
