use Rattle.std.proofs.Common.{◌+◌, AllPairs, subst, sym, slice_range}
use Rattle.cops_types.specs.Faults.{HasNoSource, IsBefore}
use Rattle.cops_types.specs.declared.op.OpName.{OpName}
use Rattle.cops_audit.specs.Names.{ListsAmong}
use Rattle.cops_audit.proofs.Collect.{among_faultless}
use Rattle.cops_audit.specs.Names.{names_of}
use Rattle.cops_audit.specs.Sorted.{Sorted}
use Rattle.cops_audit.proofs.Ranges.{range_in_order}
use Rattle.cops_audit.proofs.puts.Puts.without_source.Goals as goal

pub without_source-requires-clause-in_order : goal.without_source-requires-clause-in_order
without_source-requires-clause-in_order c = subst (AllPairs IsBefore) (sym c.range-names.ensures) (range_in_order (names_of c.self.inside.history.now.sessions) c.args.start (c.args.start + c.args.len) c.self.invariant.0.names.in_order)

pub returns-then-self : goal.returns-then-self
returns-then-self c =
    let none = c.self.invariant.1.all c.if-self.true in
    subst (λ (s : Sorted). ListsAmong {A = OpName} (λ n. n) (HasNoSource s.sessions) (slice_range s.names c.args.start (c.args.start + c.args.len)) c.new.result.items) c.self.view_is
    (among_faultless (λ n. n) (HasNoSource c.self.inside.history.now.sessions) _ none _ c.new.ensures.items)
