use Rattle.std.proofs.Common.{◌≡◌}
use Rattle.cops_core.specs.World.{row}
use Rattle.cops_core.proofs.data_centres.DataCentre.open.Given as goal

abbrev pub invariant-loop-place : goal.invariant-loop-place
invariant-loop-place l = l.opened.items ≡ row l.dc l.place
