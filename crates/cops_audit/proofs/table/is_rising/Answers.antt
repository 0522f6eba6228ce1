use Rattle.std.proofs.Common.{◌≡◌, ◌+◌, ◌-◌, sym, ◌∙◌, arith, ap, get_or}
use Rattle.cops_types.specs.declared.versioned_put.VersionedPut.{VersionedPut}
use Rattle.cops_audit.proofs.Collect.{item_at}
use Rattle.cops_audit.proofs.Places.{rises_by_neighbours}
use Rattle.cops_audit.proofs.table.is_rising.Goals as goal

pub returns-then-as_u64-clause-equal : goal.returns-then-as_u64-clause-equal
returns-then-as_u64-clause-equal c = λ falls. (
  c.loop-k.k - 1,
  omega arith,
  λ d.
      let before : (get_or c.args.table.now (c.loop-k.k - 1) d).version ≡ c.as_u64.result = ap (λ (p : VersionedPut). p.version) (item_at c.args.table.now (c.loop-k.k - 1) c.index-table-k.result d (omega arith) c.index-table-k.is) ∙ sym c.as_u64.ensures.number in
      let k : c.loop-k.k - 1 + 1 ≡ c.loop-k.k = omega arith in
      let here : (get_or c.args.table.now (c.loop-k.k - 1 + 1) d).version ≡ c.as_u64-in-loop-k.result = ap (λ j. (get_or c.args.table.now j d).version) k ∙ ap (λ (p : VersionedPut). p.version) (item_at c.args.table.now c.loop-k.k c.index-table-k-in-loop-k.result d (omega arith) c.index-table-k-in-loop-k.is) ∙ sym c.as_u64-in-loop-k.ensures.number in
      omega (arith, before, here, c.if-as_u64.true),
)

pub returns-clause-rising : goal.returns-clause-rising
returns-clause-rising c = λ _. rises_by_neighbours c.args.table.now (λ j d inside. c.loop-k.invariant j d (omega (arith, inside)))
