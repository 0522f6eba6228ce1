use Rattle.std.proofs.Common.{◌≡◌, ◌++◌, Contains}
use Rattle.cops_types.specs.declared.op.OpName.{OpName}
use Rattle.cops_types.specs.Faults.{HasNoSource}
use Rattle.cops_audit.specs.Names.{names_left}
use Rattle.cops_audit.specs.SoFar.{IsWaiting}
use Rattle.cops_audit.proofs.assessing.has_mismatched.Given as goal

abbrev pub invariant-loop-got : goal.invariant-loop-got
invariant-loop-got l = record {
  split : names_left l.fn.names ≡ l.yielded ++ names_left l.got-iterator;
  waiting : (got : OpName) → Contains l.yielded got → HasNoSource l.history.sessions got → IsWaiting l.history.sessions got;
}
