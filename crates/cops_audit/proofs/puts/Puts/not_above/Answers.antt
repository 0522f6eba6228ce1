use Rattle.std.proofs.Common.{◌+◌, AllPairs, subst, sym, slice_range}
use Rattle.cops_types.specs.Faults.{IsBefore, IsNotAbove}
use Rattle.cops_audit.specs.Names.{ListsNotAbove, names_of}
use Rattle.cops_audit.specs.declared.verdict.NotAbove.{NotAbove}
use Rattle.cops_audit.proofs.Collect.{among_faultless}
use Rattle.cops_audit.specs.Sorted.{Sorted}
use Rattle.cops_audit.proofs.Ranges.{range_in_order}
use Rattle.cops_audit.proofs.puts.Puts.not_above.Goals as goal

pub not_above-requires : goal.not_above-requires
not_above-requires c = subst (AllPairs IsBefore) (sym c.range-names.ensures) (range_in_order (names_of c.self.inside.history.now.sessions) c.args.start (c.args.start + c.args.len) c.self.invariant.0.names.in_order)

pub returns-then-are_puts_above : goal.returns-then-are_puts_above
returns-then-are_puts_above c =
    let above = c.are_puts_above.ensures.above c.if-are_puts_above.true in
    subst (λ (s : Sorted). ListsNotAbove s.sessions (slice_range s.names c.args.start (c.args.start + c.args.len)) c.new.result.items) c.self.view_is
    (among_faultless {A = NotAbove} (λ f. f.op) (λ f. IsNotAbove c.self.inside.history.now.sessions f.op f.earlier) _ (λ f. above f.op f.earlier) _ c.new.ensures.items)
