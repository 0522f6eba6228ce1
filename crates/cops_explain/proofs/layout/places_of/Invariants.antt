use Rattle.std.proofs.Common.{◌≤◌, length}
use Rattle.cops_explain.proofs.layout.places_of.Given as goal

abbrev pub invariant-loop-index : goal.invariant-loop-index
invariant-loop-index l = l.lane ≤ length l.clients
