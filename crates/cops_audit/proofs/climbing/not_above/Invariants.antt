use Rattle.cops_types.specs.Faults.{IsNotAbove}
use Rattle.cops_audit.specs.Climbs.{AreMaxima}
use Rattle.cops_audit.specs.Names.{names_left}
use Rattle.cops_audit.proofs.Collect.{Collected}
use Rattle.cops_audit.proofs.climbing.not_above.Given as goal

abbrev pub invariant-loop-name : goal.invariant-loop-name
invariant-loop-name l = record {
  faults : Collected (λ f. f.op) (λ f. IsNotAbove l.history.sessions f.op f.earlier) (names_left l.fn.names) l.yielded (names_left l.name-iterator) l.faults.items;
  maxima : AreMaxima l.history.sessions l.client l.maxima.items;
}
