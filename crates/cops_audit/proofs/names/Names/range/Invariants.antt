use Rattle.std.proofs.Common.{◌≡◌, drop}
use Rattle.cops_audit.specs.Names.{names_from, names_of}
use Rattle.cops_audit.proofs.names.Names.range.Given as goal

abbrev pub invariant-loop-client : goal.invariant-loop-client
invariant-loop-client l = drop l.start (names_of l.history.sessions) ≡ drop l.index (names_from l.client (drop l.client l.history.sessions))
