use Rattle.std.proofs.Common.{◌≡◌}
use Rattle.cops_core.specs.World.{rows}
use Rattle.cops_core.proofs.data_centres.DataCentres.open.Given as goal

abbrev pub invariant-loop-dc : goal.invariant-loop-dc
invariant-loop-dc l = l.opened.items ≡ rows l.nodes l.dc
