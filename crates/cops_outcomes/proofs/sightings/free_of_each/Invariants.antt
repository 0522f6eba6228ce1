use Rattle.std.proofs.Common.{◌≡◌, filter, map, nat_eq, not, take}
use Rattle.std.specs.List.{list_any}
use Rattle.cops_outcomes.proofs.sightings.free_of_each.Given as goal

abbrev pub invariant-loop-versions : goal.invariant-loop-versions
invariant-loop-versions l =
    map (λ versions. versions.items) l.free.items ≡ map (λ versions. filter (λ version. not (list_any (nat_eq version) l.puts.keys)) versions.keys) (take l.versions-index l.returned)
