use Rattle.std.proofs.Common.{◌≡◌, ◌-◌, ◌∙◌, Some, arith, refl, sym, subst, ap}
use Rattle.std.specs.Prelude.{IsSome}
use Rattle.cops_report.specs.declared.marks.Mark.{Mark}
use Rattle.cops_report.specs.Searches.{HasSteps}
use Rattle.cops_report.proofs.ChainLemmas.{walk_end, walk_more}
use Rattle.cops_report.proofs.chains.walk.Goals as goal

pub unwrap-mark-requires-in-loop-mark : goal.unwrap-mark-requires-in-loop-mark
unwrap-mark-requires-in-loop-mark c =
    let inv = c.loop-mark.invariant in
    let next = c.requires.back.next inv.0 c.loop-mark.mark (c.loop-mark.mark.steps - 1) inv.1 (omega (arith, c.loop-mark-test.true)) in
    subst IsSome (sym (c.get-in-loop-mark.ensures ∙ next.1)) refl

pub loop-mark-smaller : goal.loop-mark-smaller
loop-mark-smaller c =
    let inv = c.loop-mark.invariant in
    let next = c.requires.back.next inv.0 c.loop-mark.mark (c.loop-mark.mark.steps - 1) inv.1 (omega (arith, c.loop-mark-test.true)) in
    let same : Some c.unwrap-mark-in-loop-mark.result ≡ Some next.0 = sym c.unwrap-mark-in-loop-mark.ensures ∙ c.get-in-loop-mark.ensures ∙ next.1 in
    let is : c.unwrap-mark-in-loop-mark.result ≡ next.0 = cc in
    let steps : c.unwrap-mark-in-loop-mark.result.steps ≡ c.loop-mark.mark.steps - 1 = ap (λ (m : Mark). m.steps) is ∙ next.2 in
    omega (arith, c.loop-mark-test.true)

pub loop-mark-preserved : goal.loop-mark-preserved
loop-mark-preserved c =
    let inv = c.loop-mark.invariant in (
      c.loop-mark.mark.next,
      sym c.get-in-loop-mark.ensures ∙ c.unwrap-mark-in-loop-mark.ensures,
      walk_more c.args.marks.now c.args.from c.args.to c.loop-mark.names.items c.push.new.self.items inv.0 c.loop-mark.mark (c.loop-mark.mark.steps - 1) inv.1
          (omega (arith, c.loop-mark-test.true)) c.in_ok-push.ensures.items inv.2,
    )

pub returns : goal.returns
returns c =
    let inv = c.loop-mark.invariant in
    let none : HasSteps c.args.marks.now inv.0 0 = (c.loop-mark.mark, inv.1, omega (arith, c.loop-mark-test.false)) in
    walk_end c.args.marks.now c.args.from c.args.to c.loop-mark.names.items inv.0 (c.requires.back.root inv.0 none) inv.2
