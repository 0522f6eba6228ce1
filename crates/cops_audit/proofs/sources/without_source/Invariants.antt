use Rattle.cops_types.specs.Faults.{HasNoSource}
use Rattle.cops_audit.specs.Names.{names_left}
use Rattle.cops_audit.proofs.Collect.{Collected}
use Rattle.cops_audit.proofs.sources.without_source.Given as goal

abbrev pub invariant-loop-name : goal.invariant-loop-name
invariant-loop-name l = Collected (λ n. n) (HasNoSource l.history.sessions) (names_left l.fn.names) l.yielded (names_left l.name-iterator) l.faults.items
