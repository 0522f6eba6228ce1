-- Names that differ.
use Rattle.std.proofs.Common.{◌≡◌, ◌≢◌, ◌&&◌, ◌⊎◌, Bool, eqb, List, AllPairs, sym, ◌∙◌, ap, arith, map}
use Rattle.std.specs.Bool.{Decides}
use Rattle.std.specs.List.Sorted.{IsPermutation}
use Rattle.std.proofs.lemmas.Bool.Decides.{Decides-and, Decides-eqb, Decides-like, same_from_decides}
use Rattle.std.proofs.lemmas.List.{length-map, get_or-map}
use Rattle.std.proofs.lemmas.List.Sorted.{IsPermutation-map}
use Rattle.std.proofs.lemmas.Map.Keys.{IsDistinct-IsPermutation}
use Rattle.std.proofs.lemmas.Map.Made.{AllPairs-from_IsDistinct, IsDistinct-from_AllPairs}
use Rattle.std.proofs.lemmas.Grind.{common_steps}
use Rattle.cops_types.specs.declared.op.OpName.{OpName}
use Rattle.cops_types.specs.declared.versioned_put.VersionedPut.{VersionedPut}
use Rattle.cops_audit.proofs.Acyclic.{same_name}

pub name_cases : (a b : OpName) → (a ≡ b) ⊎ (a ≢ b)
name_cases a b = grind (arith, common_steps)

abbrev is_same : OpName → OpName → Bool
is_same a b = eqb a.client b.client && eqb a.index b.index

is_same-Decides : (a b : OpName) → Decides (is_same a b) (a ≡ b)
is_same-Decides a b = Decides-like (is_same a b) (λ p. same_name a b p.0 p.1) (λ e. (ap (λ (x : OpName). x.client) e, ap (λ (x : OpName). x.index) e))
    (Decides-and (eqb a.client b.client) (eqb a.index b.index) (Decides-eqb a.client b.client) (Decides-eqb a.index b.index))

is_same-comm : (a b : OpName) → is_same a b ≡ is_same b a
is_same-comm a b = same_from_decides {P = a ≡ b} (is_same a b) (is_same b a) (is_same-Decides a b) (Decides-like (is_same b a) (λ e. sym e) (λ e. sym e) (is_same-Decides b a))

-- puts with distinct names have them in another order too
pub names_differ : (xs ys : List VersionedPut) → IsPermutation xs ys → AllPairs (λ x y. x.name ≢ y.name) xs → AllPairs (λ x y. x.name ≢ y.name) ys
names_differ xs ys permutation differ = λ i j d less inside same.
    let name_of = λ (p : VersionedPut). p.name in
    let once : AllPairs (λ a b. a ≢ b) (map name_of xs) = λ a b n before within e.
    let p : VersionedPut = record { version = 0; name = n } in
    let in_xs = length-map xs name_of in
    differ a b p before (omega (arith, within, in_xs)) (sym (get_or-map name_of xs a p n (omega (arith, before, within, in_xs))) ∙ e ∙ get_or-map name_of xs b p n (omega (arith, within, in_xs))) in
    let moved = AllPairs-from_IsDistinct is_same-Decides (map name_of ys) (IsDistinct-IsPermutation is_same is_same-comm (map name_of xs) (map name_of ys)
    (IsPermutation-map name_of xs ys permutation) (IsDistinct-from_AllPairs is_same-Decides (map name_of xs) once)) in
    moved i j d.name less (omega (arith, inside, length-map ys name_of))
    (get_or-map name_of ys i d d.name (omega (arith, less, inside)) ∙ same ∙ sym (get_or-map name_of ys j d d.name inside))
