use Rattle.std.proofs.Common.{◌≡◌, ◌<◌, ℕ, Some, length, get_or, slice_get, arith, ap, sym, ◌∙◌}
use Rattle.cops_audit.proofs.Passing.{all_passed, passed_none, passed_on}
use Rattle.cops_audit.proofs.Unique.{stands}
use Rattle.cops_audit.proofs.keys.set_firsts.Goals as goal
use Rattle.cops_audit.proofs.keys.set_firsts.Goals.{then-next-table, else-next-table}

pub loop-place-preserved : goal.loop-place-preserved
loop-place-preserved c = λ h versions are.
    let table = c.args.table.now in
    let nexts = c.args.nexts.now in
    let i = c.loop-place.place in
    let inside : i < length table = omega (arith, c.loop-place-test.true) in
    let passed = c.loop-place.invariant h versions are in
    let next = get_or nexts i 0 in
    let at : slice_get nexts i ≡ Some next = stands nexts i 0 (omega (arith, inside, are.whole)) in
    elim c.if-next-table.branch [
      | then-next-table w ↦ rw w.places-is
          (passed_on h table versions nexts are c.loop-place.places.items i passed inside next w.index.result.now at w.if-next-table.true
          (stands c.loop-place.places.items i w.index.result.now (omega (arith, inside, passed.whole)) ∙ ap (λ (n : ℕ). Some n) (sym w.index.ensures)))
      | else-next-table w ↦ rw w.places-is (passed_none h table versions nexts are c.loop-place.places.items i passed inside next at (omega (arith, w.if-next-table.false)))
    ]

pub returns-clause-firsts : goal.returns-clause-firsts
returns-clause-firsts c = λ h versions are. all_passed h c.args.table.now c.args.nexts.now c.loop-place.places.items c.loop-place.place (omega arith) (c.loop-place.invariant h versions are)
