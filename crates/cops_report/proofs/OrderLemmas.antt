-- Sorted names are in their order.
use Rattle.std.proofs.Common.{rules, ◌≡◌, false, List, get_or, is_lt}
use Rattle.std.specs.Cmp.{on_total, then_total}
use Rattle.std.specs.List.Sorted.{IsSortedBy}
use Rattle.std.specs.Ordering.{ordering_then, nat_cmp}
use Rattle.std.proofs.lemmas.Cmp.{nat_cmp_total}
use Rattle.std.proofs.lemmas.List.Sorted.{ranks_by, sorted_far}
use Rattle.cops_types.specs.declared.op.OpName.{OpName}
use Rattle.cops_report.specs.Searches.{IsAtOrBefore, IsRising}

not_below : (a b : OpName) → is_lt (ordering_then (nat_cmp b.client a.client) (nat_cmp b.index a.index)) ≡ false → IsAtOrBefore a b
not_below a b h = search rules

pub rising_sorted : (xs : List OpName) → IsSortedBy (λ a b. is_lt (ordering_then (nat_cmp a.client b.client) (nat_cmp a.index b.index))) xs → IsRising xs
rising_sorted xs sorted j k d le lt =
    let total = then_total (on_total (λ (n : OpName). n.client) nat_cmp_total) (on_total (λ (n : OpName). n.index) nat_cmp_total) in
    not_below (get_or xs j d) (get_or xs k d) (sorted_far _ (ranks_by total (λ (n : OpName). n)) xs sorted j k d le lt)
