use Rattle.std.proofs.Common.{ℕ, Some, subst, sym, ◌∙◌}
use Rattle.cops_trace.specs.Answer.{TakesFrom}
use Rattle.cops_trace.proofs.Underway.{closed_cut, closed_whole}
use Rattle.cops_trace.proofs.parser.Parser.closed.Goals as goal

pub returns-in-Some-2 : goal.returns-in-Some-2
returns-in-Some-2 g c = λ fed h.
    subst (λ (at : ℕ). TakesFrom g.S.Sink.took fed (record { sink = c.in-Some.sink; cut = Some at })) (sym c.at-at.ensures)
    (closed_cut g.S.Sink.took fed c.args.self.begun c.args.self.reader c.in-Some.sink c.in-Some.is (sym c.has_ended-ended.ensures ∙ c.if-ended.false) h)

pub returns-in-Some : goal.returns-in-Some
returns-in-Some g c = λ fed h. closed_whole g.S.Sink.took fed c.args.self.begun c.args.self.reader c.in-Some.sink c.in-Some.is (sym c.has_ended-ended.ensures ∙ c.if-ended.true) h
