use Rattle.std.proofs.lemmas.List.Filters.{dedup_is}
use Rattle.std.proofs.lemmas.List.Kept.{IsStrictlySortedBy-dedup}
use Rattle.std.proofs.lemmas.Map.Keys.{Less-from_sorted}
use Rattle.std.specs.List.Sorted.{IsStrictlySortedBy}
use Rattle.cops_import.proofs.keys.tidy.Goals as goal

pub returns : goal.returns
returns g c = λ i j d before within.
    let is = dedup_is _ _ _ c.dedup.ensures.filtered in
    let sorted : IsStrictlySortedBy g.K.Ord.cmp c.dedup.new.self.items = rw is (IsStrictlySortedBy-dedup g.met.K.Ord.total g.met.K.Ord.matches_eq _ c.sort_unstable.ensures.sorted) in
    Less-from_sorted g.K.Ord.cmp c.dedup.new.self.items i j d sorted before within
