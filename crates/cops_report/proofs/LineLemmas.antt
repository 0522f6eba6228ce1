-- Lines, one by one.
use Rattle.std.proofs.Common.{◌≡◌, ◌∙◌, ◌+◌, ◌<◌, ℕ, List, ◌++◌, length, take, get_or, sym, ap}
use Rattle.std.specs.List.{flat_map}
use Rattle.std.proofs.lemmas.List.{flat_map_more, take_more}

-- one more line
pub lines_more : {X : Type 0} (f : X → List ℕ) → (start old new bytes : List ℕ) (xs : List X) (i : ℕ) (d : X) → i < length xs → new ≡ old ++ bytes → bytes ≡ f (get_or xs i d)
    → old ≡ start ++ flat_map f (take i xs) → new ≡ start ++ flat_map f (take (i + 1) xs)
lines_more f start old new bytes xs i d lt grown line so_far =
    grown
    ∙ ap (λ (t : List ℕ). old ++ t) line
    ∙ ap (λ (t : List ℕ). t ++ f (get_or xs i d)) so_far
    ∙ flat_map_more f start (take i xs) (get_or xs i d)
    ∙ ap (λ ns. start ++ flat_map f ns) (sym (take_more xs i d lt))
