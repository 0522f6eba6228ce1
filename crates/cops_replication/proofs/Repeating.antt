-- Puts that are sent more than once.
use Rattle.std.proofs.Common.{◌≡◌, ◌+◌, ◌<◌, ℕ, List, [], ◌∷◌, ◌++◌, length, take, get_or, replicate, refl, sym, ap, ◌∙◌}
use Rattle.std.proofs.lemmas.List.{append-nil, take_more}
use Rattle.std.proofs.lemmas.List.Concat.{flat_map-append}
use Rattle.cops_replication.specs.Lanes.{repeated}

-- repeating 0 more times changes nothing
pub repeated_once : {A : Type 0} (xs : List A) → xs ≡ repeated 0 xs
repeated_once [] = refl
repeated_once (x ∷ xs) = ap (λ l. x ∷ l) (repeated_once xs)

-- repeating one more element
pub repeated_next : {A : Type 0} (more i : ℕ) (xs : List A) (x : A) → i < length xs → x ≡ get_or xs i x → repeated more (take i xs) ++ replicate (more + 1) x ≡ repeated more (take (i + 1) xs)
repeated_next more i xs x within at =
    let next : take (i + 1) xs ≡ take i xs ++ x ∷ [] = take_more xs i x within ∙ ap (λ y. take i xs ++ y ∷ []) (sym at) in
    sym (ap (repeated more) next ∙ flat_map-append (replicate (more + 1)) (take i xs) (x ∷ []) ∙ ap (λ l. repeated more (take i xs) ++ l) (append-nil (replicate (more + 1) x)))
