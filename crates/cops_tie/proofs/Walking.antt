-- The entries from one of them on, and the tickets after it.
use Rattle.std.proofs.Common.{◌≡◌, ◌≢◌, ℕ, zero, suc, ◌+◌, ◌<◌, ◌≤◌, List, [], ◌∷◌, ◌++◌, AllPairs, length, map, take, drop, slice_index_or, sym, ap, subst, ◌∙◌, arith}
use Rattle.std.proofs.lemmas.List.{take_more, get_or-drop, get_or-map, length-drop, length-map}
use Rattle.std.proofs.Math.Seq.{drop-cons}
use Rattle.cops_tie.specs.declared.order.Ticketed.{Ticketed}
use Rattle.cops_tie.specs.Tie.{Placed, ticket, IsBelow}
use Rattle.cops_tie.specs.Ticketed.{shown}

pub at_entry : (order : List Ticketed) (i : ℕ) (t : Ticketed) → i < length order → t ≡ slice_index_or order i t → drop i (map shown order) ≡ shown t ∷ drop (i + 1) (map shown order)
at_entry order i t less is =
    drop-cons (map shown order) i (shown t) (omega (arith, length-map {A = Ticketed} {B = Placed}, less)) ∙ ap (λ (p : Placed). p ∷ drop (suc i) (map shown order)) (get_or-map shown order i t (shown t) less ∙ ap shown (sym is))
    ∙ ap (λ n. shown t ∷ drop n (map shown order)) (let next : suc i ≡ i + 1 = omega arith in next)

pub take_entry : (order : List Ticketed) (i : ℕ) (t : Ticketed) → i < length order → t ≡ slice_index_or order i t → take (i + 1) (map shown order) ≡ take i (map shown order) ++ shown t ∷ []
take_entry order i t less is =
    take_more (map shown order) i (shown t) (omega (arith, length-map {A = Ticketed} {B = Placed}, less)) ∙ ap (λ (p : Placed). take i (map shown order) ++ p ∷ []) (get_or-map shown order i t (shown t) less ∙ ap shown (sym is))

head_at : (ps : List Placed) (i : ℕ) (p : Placed) (rest : List Placed) (d : Placed) → drop i ps ≡ p ∷ rest → p ≡ slice_index_or ps i d
head_at ps i p rest d e = sym (ap (λ (l : List Placed). slice_index_or l 0 d) e) ∙ get_or-drop i ps 0 d ∙ ap (λ n. slice_index_or ps n d) (let same : i + 0 ≡ i = omega arith in same)

rest_at : (ps : List Placed) (i : ℕ) (p : Placed) (rest : List Placed) (k : ℕ) (d : Placed) → drop i ps ≡ p ∷ rest → slice_index_or rest k d ≡ slice_index_or ps (i + 1 + k) d
rest_at ps i p rest k d e = sym (ap (λ (l : List Placed). slice_index_or l (suc k) d) e) ∙ get_or-drop i ps (suc k) d ∙ ap (λ n. slice_index_or ps n d) (let same : i + suc k ≡ i + 1 + k = omega arith in same)

pub none_after : (ps : List Placed) (i : ℕ) (p : Placed) (rest : List Placed) → drop i ps ≡ p ∷ rest → length ps ≤ i + 1 → IsBelow p rest
none_after ps i p rest e few = λ k d less. absurd (omega (arith, ap (length {A = Placed}) e, length-drop i ps, less, few))

pub again_not_below : (ps : List Placed) (i : ℕ) (p : Placed) (rest : List Placed) (d : Placed) → drop i ps ≡ p ∷ rest → i + 1 < length ps → ticket (slice_index_or ps (i + 1) d) ≡ ticket (slice_index_or ps i d) → IsBelow p rest → ⊥
again_not_below ps i p rest d e inside same below =
    let next : ticket (slice_index_or rest 0 d) ≡ ticket (slice_index_or ps (i + 1) d) = ap ticket (rest_at ps i p rest 0 d e ∙ ap (λ n. slice_index_or ps n d) (let n : i + 1 + 0 ≡ i + 1 = omega arith in n)) in
    omega (arith, below 0 d (omega (arith, ap (length {A = Placed}) e, length-drop i ps, inside)), same, ap ticket (head_at ps i p rest d e), next)

pub next_is_below : (ps : List Placed) (i : ℕ) (p : Placed) (rest : List Placed) → drop i ps ≡ p ∷ rest → i + 1 < length ps → AllPairs (λ a b. ticket a ≤ ticket b) ps
    → ((d : Placed) → ticket (slice_index_or ps (i + 1) d) ≢ ticket (slice_index_or ps i d)) → IsBelow p rest
next_is_below ps i p rest e inside falls differ = λ k d less.
    let long : i + 1 + k < length ps = omega (arith, ap (length {A = Placed}) e, length-drop i ps, inside, less) in
    let first : ticket (slice_index_or ps i d) ≤ ticket (slice_index_or ps (i + 1) d) = falls i (i + 1) d (omega arith) inside in
    let step : ticket (slice_index_or ps i d) < ticket (slice_index_or ps (i + 1) d) = less_from first (differ d) in
    omega (arith, ap ticket (head_at ps i p rest d e), ap ticket (rest_at ps i p rest k d e), step, later k d long)
  where
    less_from : {a b : ℕ} → a ≤ b → b ≢ a → a < b
    less_from le ne = omega (arith, le, ne)

    later : (k : ℕ) (d : Placed) → i + 1 + k < length ps → ticket (slice_index_or ps (i + 1) d) ≤ ticket (slice_index_or ps (i + 1 + k) d)
    later zero d long = subst (λ n. ticket (slice_index_or ps (i + 1) d) ≤ ticket (slice_index_or ps n d)) (let n : i + 1 ≡ i + 1 + 0 = omega arith in n) (omega arith)
    later (suc k) d long = falls (i + 1) (i + 1 + suc k) d (omega arith) long
