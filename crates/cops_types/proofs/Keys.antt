-- Keys that are added one after another, each once.
use Rattle.std.proofs.Common.{◌≡◌, ◌≢◌, ◌+◌, ◌≤◌, ℕ, Bool, true, false, ltb, List, [], ◌∷◌, ◌++◌, length, slice_get, Some, if◌then◌else◌, AllPairs, refl, sym, ◌∙◌, arith, inl, inr}
use Rattle.std.specs.List.{IsDistinct}
use Rattle.std.specs.Str.{bytes_eq}
use Rattle.std.proofs.lemmas.Bool.{cases_Bool, ltb-true, ltb-false}
use Rattle.std.proofs.lemmas.List.{length-append, get_or_append_left}
use Rattle.std.proofs.lemmas.Map.Made.{AllPairs-from_IsDistinct}
use Rattle.std.proofs.lemmas.Option.{slice_get_within, get_or_from_slice_get}
use Rattle.std.proofs.lemmas.Slice.Eq.{bytes_eq-Decides}
use Rattle.cops_types.specs.KeySets.{AreDistinct, KeepsPlaces}

-- adding a key, new or not, leaves the others at their indexes
pub places_kept : (keys : List (List ℕ)) (key : List ℕ) (there : Bool) → KeepsPlaces keys (if there then keys else keys ++ key ∷ [])
places_kept keys key true = record { longer = omega arith; same = λ i inside. refl }
places_kept keys key false = record { longer = omega (arith, length-append keys (key ∷ [])); same = λ i inside. get_or_append_left keys (key ∷ []) [] i inside }

-- adding a key adds at most one
pub one_more : (keys : List (List ℕ)) (key : List ℕ) (there : Bool) → length (if there then keys else keys ++ key ∷ []) ≤ length keys + 1
one_more keys key true = omega arith
one_more keys key false = omega (arith, length-append keys (key ∷ []))

no_later : (keys : List (List ℕ)) → AllPairs (λ x y. x ≢ y) keys → (i j : ℕ) (key : List ℕ) → slice_get keys i ≡ Some key → slice_get keys j ≡ Some key → ltb i j ≡ false
no_later keys pairs i j key at also =
    elim (cases_Bool (ltb i j)) [
      | inl p ↦ absurd (pairs i j [] (ltb-true i j p) (slice_get_within keys j key also) (get_or_from_slice_get keys i key [] at ∙ sym (get_or_from_slice_get keys j key [] also)))
      | inr p ↦ p
    ]

-- keys with different bytes are distinct
pub distinct_keys : (keys : List (List ℕ)) → IsDistinct bytes_eq keys → AreDistinct keys
distinct_keys keys d i j key at also =
    let pairs = AllPairs-from_IsDistinct bytes_eq-Decides keys d in
    omega (arith, ltb-false i j (no_later keys pairs i j key at also), ltb-false j i (no_later keys pairs j i key also at))
