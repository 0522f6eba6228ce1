use Rattle.std.proofs.Common.{◌≡◌, ◌-◌, true, arith}
use Rattle.cops_audit.specs.declared.window.Suspect.{Suspect}
use Rattle.cops_audit.proofs.Flooring.{one_floor_more}
use Rattle.cops_audit.proofs.floors.set_floors.Goals as goal
use Rattle.cops_audit.proofs.floors.set_floors.Goals.{then-not-goes_on, else-not-goes_on, then-from-floor, else-from-floor}

pub loop-k-preserved : goal.loop-k-preserved
loop-k-preserved c =
    let none : Suspect = record { op = record { client = 0; index = 0 }; first = 0; from = 0 } in
    one_floor_more c.args.suspects.now c.loop-k.floors.items c.loop-k.k c.loop-k.floor (c.loop-k.k - 1) c.if-from-floor.floor none (omega arith) (omega arith) c.loop-k.invariant
    (elim c.if-from-floor.branch [ then-from-floor w ↦ omega (arith, w.floor-is) | else-from-floor w ↦ omega (arith, w.floor-is, w.if-from-floor.false) ])
    (λ in_k clients.
    let on : c.goes_on.result ≡ true = c.goes_on.ensures in_k clients in
    let kept : c.if-not-goes_on.floor ≡ c.loop-k.floor = elim c.if-not-goes_on.branch [ then-not-goes_on w ↦ absurd cc | else-not-goes_on w ↦ w.floor-is ] in
    elim c.if-from-floor.branch [ then-from-floor w ↦ omega (arith, w.floor-is, w.if-from-floor.true, kept) | else-from-floor w ↦ omega (arith, w.floor-is, kept) ])
