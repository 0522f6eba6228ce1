-- Appending one line.
use Rattle.std.proofs.Common.{◌≡◌, ℕ, zero, suc, ◌+◌, ◌<◌, List, [], ◌∷◌, ◌++◌, length, take, slice_index_or, sym, ap, ◌∙◌, arith, append_assoc, append-nil}
use Rattle.cops_run_command.specs.Lines.{numbered_from}

one_more : {A : Type 0} (line : ℕ → A → List ℕ) (k : ℕ) (xs : List A) (n : ℕ) (d : A) → n < length xs
    → numbered_from line k (take (suc n) xs) ≡ numbered_from line k (take n xs) ++ line (k + n) (slice_index_or xs n d)
one_more line k [] n d p = absurd (omega (arith, p))
one_more line k (x ∷ xs) zero d p = append-nil (line k x) ∙ ap (λ (j : ℕ). line j x) (omega arith)
one_more line k (x ∷ xs) (suc n) d p =
    let e : (k + 1) + n ≡ k + suc n = omega arith in
    ap (λ (ys : List ℕ). line k x ++ ys) (one_more line (k + 1) xs n d (omega (arith, p)) ∙ ap (λ (j : ℕ). numbered_from line (k + 1) (take n xs) ++ line j (slice_index_or xs n d)) e)
    ∙ sym (append_assoc (line k x) (numbered_from line (k + 1) (take n xs)) (line (k + suc n) (slice_index_or xs n d)))

pub next_line : {A : Type 0} (line : ℕ → A → List ℕ) (xs : List A) (n : ℕ) (d : A) → n < length xs
    → numbered_from line 0 (take (n + 1) xs) ≡ numbered_from line 0 (take n xs) ++ line n (slice_index_or xs n d)
next_line line xs n d p =
    let e : n + 1 ≡ suc n = omega arith in
    let none : 0 + n ≡ n = omega arith in
    ap (λ (k : ℕ). numbered_from line 0 (take k xs)) e ∙ one_more line 0 xs n d p ∙ ap (λ (k : ℕ). numbered_from line 0 (take n xs) ++ line k (slice_index_or xs n d)) none
