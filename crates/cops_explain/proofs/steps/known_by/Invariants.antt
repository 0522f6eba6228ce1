use Rattle.std.proofs.Common.{◌≡◌, drop}
use Rattle.cops_explain.specs.Steps.{known_by}
use Rattle.cops_explain.proofs.steps.known_by.Given as goal

abbrev pub invariant-loop-name : goal.invariant-loop-name
invariant-loop-name l = known_by l.fn.first l.chain ≡ known_by l.at (drop l.name-index l.chain)
