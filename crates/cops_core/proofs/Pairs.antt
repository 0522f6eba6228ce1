-- The pairs of clients' contexts, which are stored in a vector.
use Rattle.std.proofs.Common.{◌≡◌, ℕ, ◌<◌, Bool, true, false, List, [], map, length, get_or, set, sym, ap, ◌∙◌, arith, get_or-set_same}
use Rattle.std.specs.Prelude.{Result, Ok, Err, OnOk}
use Rattle.std.proofs.Math.Seq.{map-set_same}
use Rattle.std.proofs.lemmas.List.{map-set, get_or-map, length-map}
use Rattle.cops_types.specs.declared.dep.Dep.{Dep}
use Rattle.cops_context.specs.Kept.{AContext}

abbrev pub pairs : AContext → List Dep
pairs c = c.pairs

abbrev pub room : AContext → Bool
room c = c.room

-- replacing a context by one with the same pairs
pub same_pairs : (xs : List AContext) (i : ℕ) (old new : AContext) → old ≡ get_or xs i old → new.pairs ≡ old.pairs → map pairs (set xs i new) ≡ map pairs xs
same_pairs xs i old new at same = map-set_same pairs xs i new old (same ∙ ap pairs at)

-- replacing a context by one with other pairs
pub other_pairs : (xs : List AContext) (i : ℕ) (new : AContext) (is : List Dep) → new.pairs ≡ is → map pairs (set xs i new) ≡ set (map pairs xs) i is
other_pairs xs i new is e = map-set pairs xs i new ∙ ap (set (map pairs xs) i) e

pub pairs_at : (xs : List AContext) (i : ℕ) (old : AContext) → i < length xs → old ≡ get_or xs i old → get_or (map pairs xs) i [] ≡ old.pairs
pairs_at xs i old inside at = get_or-map pairs xs i old [] inside ∙ ap pairs (sym at)

pub own_room : (xs : List AContext) (i : ℕ) (new : AContext) → i < length xs → new.room ≡ true → get_or (map room (set xs i new)) i false ≡ true
own_room xs i new inside is =
    let there : i < length (map room xs) = omega (arith, length-map xs room) in
    ap (λ (l : List Bool). get_or l i false) (map-set room xs i new) ∙ get_or-set_same (map room xs) i (new.room) false there ∙ is

-- what follows where a call succeeds
pub on_ok : {T E : Type 0} (r : Result T E) (P Q : Type 0) → (P → Q) → OnOk r P → OnOk r Q
on_ok (Ok x) P Q f h = f h
on_ok (Err e) P Q f h = tt
