use Rattle.std.proofs.Common.{◌+◌, AllPairs, IfOk, subst, sym, slice_range}
use Rattle.cops_types.specs.Faults.{IsBefore}
use Rattle.cops_types.specs.VersionOrder.{IsDoubled}
use Rattle.cops_types.specs.declared.op.OpName.{OpName}
use Rattle.cops_audit.specs.Names.{ListsAmong}
use Rattle.cops_audit.specs.Names.{names_of}
use Rattle.cops_audit.specs.Sorted.{Sorted}
use Rattle.cops_audit.proofs.Ranges.{range_in_order}
use Rattle.cops_audit.proofs.puts.Puts.doubled.Goals as goal

pub doubled-requires-clause-in_order : goal.doubled-requires-clause-in_order
doubled-requires-clause-in_order c = subst (AllPairs IsBefore) (sym c.range-names.ensures) (range_in_order (names_of c.self.inside.history.now.sessions) c.args.start (c.args.start + c.args.len) c.self.invariant.0.names.in_order)

pub returns : goal.returns
returns c =
    subst (λ (s : Sorted). IfOk c.doubled.result (λ v. ListsAmong {A = OpName} (λ n. n) (IsDoubled s.sessions) (slice_range s.names c.args.start (c.args.start + c.args.len)) v.items)) c.self.view_is
    (subst (λ ns. IfOk c.doubled.result (λ v. ListsAmong {A = OpName} (λ n. n) (IsDoubled c.self.inside.history.now.sessions) ns v.items)) c.range-names.ensures c.doubled.ensures)
