use Rattle.std.proofs.Common.{◌≡◌, ◌≤◌, ◌+◌, ◌∷◌, ◌++◌, [], get_or, take, take_all, subst, ap, sym, arith, Contains}
use Rattle.cops_types.specs.VersionOrder.{IsDoubled}
use Rattle.cops_types.specs.declared.versioned_put.VersionedPut.{VersionedPut}
use Rattle.cops_audit.proofs.Collect.{get_or-default, item_at}
use Rattle.cops_audit.proofs.Filtering.{HasThose, those_skip, those_push}
use Rattle.cops_audit.proofs.Places.{put_at, doubled_by_neighbour, neighbour_of_doubled}
use Rattle.cops_audit.proofs.table.doubled_puts.Goals as goal
use Rattle.cops_audit.proofs.table.doubled_puts.Goals.{then-has_equal_neighbour+in_ok-push, else-has_equal_neighbour}

pub loop-place-preserved : goal.loop-place-preserved
loop-place-preserved c = λ h t.
    let table = c.args.table.now in
    let i = c.loop-place.place in
    let out = c.loop-place.puts.items in
    let inside = c.loop-place-test.true in
    let those = c.loop-place.invariant h t in
    elim c.if-has_equal_neighbour.branch [
      | then-has_equal_neighbour+in_ok-push w ↦ rw (w.puts-is, w.in_ok-push.ensures.items)
          (let x = w.index-table-place.result in
          let near = c.has_equal_neighbour.ensures.0 w.if-has_equal_neighbour.true in
          let is : get_or table i x ≡ x = item_at table i x x inside w.index-table-place.is in
          let doubled = doubled_by_neighbour h table t (get_or table i x).name (get_or table i x).version (put_at h table t i x inside) near.0 i near.1 inside near.2
          (λ e. ap (λ (p : VersionedPut). p.version) (get_or-default table i e x inside)) near.3 in
          subst (λ (y : VersionedPut). HasThose (λ p. IsDoubled h p.name) (λ p q. p.version ≤ q.version) (take (i + 1) table) (out ++ y ∷ [])) is
          (those_push (λ p. IsDoubled h p.name) (λ p q. p.version ≤ q.version) table t.in_order i inside out x those doubled))
      | else-has_equal_neighbour w ↦ rw w.puts-is
          (let d : VersionedPut = record { version = 0; name = record { client = 0; index = 0 } } in
          those_skip (λ p. IsDoubled h p.name) (λ p q. p.version ≤ q.version) table t.in_order i inside out d those
          (λ f. let near = neighbour_of_doubled h table t (get_or table i d).name (get_or table i d).version i inside
          (λ e. ap (λ (p : VersionedPut). p.version) (get_or-default table i e d inside)) (put_at h table t i d inside) f in
          let is = c.has_equal_neighbour.ensures.1 near in cc))
    ]

pub returns : goal.returns
returns c = λ h t.
    let those = c.loop-place.invariant h t in
    let whole = take_all c.loop-place.place c.args.table.now (omega (arith, c.loop-place-test.false)) in
    record {
      members = λ p. (
        (λ at. let o = (those.members p).0 at in ((t.members p).0 (subst (λ l. Contains l p) whole o.0), o.1)),
        (λ w. (those.members p).1 (subst (λ l. Contains l p) (sym whole) ((t.members p).1 w.0), w.1)),
      );
      in_order = those.in_order;
    }
