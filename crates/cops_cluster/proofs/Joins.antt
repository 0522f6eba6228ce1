-- Entries of books and of shares, sorted.
use Rattle.std.proofs.Common.{◌≡◌, ◌<◌, ◌≤◌, ◌+◌, ◌∙◌, ℕ, List, [], ◌∷◌, Option, None, Some, get_or, length, map, take, drop, ap, sym, subst, arith, not-suc-le-zero, get_or-drop, length-drop, take_all, ⊎_elim}
use Rattle.std.proofs.lemmas.Bool.{cases_lt}
use Rattle.std.proofs.lemmas.List.{get_or-map, length-map, take-map, take_more_same}
use Rattle.std.specs.List.{Contains}
use Rattle.std.specs.List.Sorted.{IsNonDecreasingBy, IsPermutation}
use Rattle.std.proofs.lemmas.List.Sorted.{IsPermutation-refl, IsPermutation-map, IsPermutation-sym, IsPermutation-trans}
use Rattle.std.specs.Prelude.{Result, Ok, Err, IfNone, IfOk, IfSome}
use Rattle.cops_cluster.specs.declared.share.Made.{Made}
use Rattle.cops_cluster.specs.declared.logged.LoggedEntry.{LoggedEntry}
use Rattle.cops_cluster.specs.Differences.{Compares, IsLeastDifference}
use Rattle.cops_cluster.specs.Differing.{shown, ticket_of}
use Rattle.cops_cluster.proofs.Differences.{IsLeast, absent_above, least_by_first, least_flipped, least_permuted}

abbrev ticket : Made → ℕ
ticket m = m.entry.ticket

least : (xs ys : List Made) (t : ℕ) → IsLeast ticket xs ys t → IsLeastDifference xs ys t
least xs ys t h = record { differs = h.0; below = h.1 }

-- the result of a comparison does not depend on the order of the entries
pub compares_sorted : (xs us ys vs : List Made) (answer : Option ℕ) → IsPermutation xs us → IsPermutation ys vs → Compares us vs answer → Compares xs ys answer
compares_sorted xs us ys vs None p q same = IsPermutation-trans xs us ys p (IsPermutation-trans us vs ys same (IsPermutation-sym ys vs q))
compares_sorted xs us ys vs (Some t) p q h = least xs ys t (least_permuted ticket xs us ys vs t p q (h.differs, h.below))

-- sorted by the copied tickets is sorted by the tickets of the entries
pub sorted_by_entries : (l : List LoggedEntry) → IsNonDecreasingBy (λ (n : LoggedEntry). n.ticket) l → IsNonDecreasingBy ticket_of l
sorted_by_entries l sorted = λ i j d le inside. omega (arith, sorted i j d le inside, (get_or l i d).same, (get_or l j d).same)

sorted_shown : (l : List LoggedEntry) → IsNonDecreasingBy ticket_of l → IsNonDecreasingBy ticket (map shown l)
sorted_shown [] sorted = λ i j d le inside. absurd (not-suc-le-zero inside)
sorted_shown (n ∷ ns) sorted = λ i j d le inside.
    let within : j < length (n ∷ ns) = omega (arith, length-map (n ∷ ns) shown) in
    omega (arith, ap ticket (get_or-map shown (n ∷ ns) i n d (omega arith)), ap ticket (get_or-map shown (n ∷ ns) j n d within), sorted i j n le within)

-- one more equal entry extends the common prefix
pub same_more : (news olds kept : List LoggedEntry) (i : ℕ) (d r : LoggedEntry) → i < length news → i < length kept → take i news ≡ take i olds → take i (map shown olds) ≡ take i (map shown kept)
    → get_or news i d ≡ d → shown d ≡ shown r → r ≡ get_or kept i r → take (i + 1) (map shown news) ≡ take (i + 1) (map shown kept)
same_more news olds kept i d r in_news in_kept before same at is there =
    let e : get_or (map shown news) i (shown d) ≡ shown r = get_or-map shown news i d (shown d) in_news ∙ (ap shown at ∙ is) in
    let f : get_or (map shown kept) i (shown d) ≡ shown r = get_or-map shown kept i r (shown d) in_kept ∙ ap shown (sym there) in
    take_more_same (map shown news) (map shown kept) i (shown d)
    (subst (λ (n : ℕ). i < n) (sym (length-map news shown)) in_news) (subst (λ (n : ℕ). i < n) (sym (length-map kept shown)) in_kept)
    (take-map shown i news ∙ (ap (λ (l : List LoggedEntry). map shown l) before ∙ (sym (take-map shown i olds) ∙ same))) (e ∙ sym f)

-- a common prefix that reaches the end of both lists makes the lists equal as multisets
pub same_all : (news olds kept : List LoggedEntry) (i : ℕ) → IsPermutation olds news → take i (map shown news) ≡ take i (map shown kept) → length news ≤ i → length kept ≤ i → IsPermutation (map shown kept) (map shown olds)
same_all news olds kept i order same new_ends kept_ends =
    let new_all : take i (map shown news) ≡ map shown news = take_all i (map shown news) (omega (arith, length-map news shown)) in
    let kept_all : take i (map shown kept) ≡ map shown kept = take_all i (map shown kept) (omega (arith, length-map kept shown)) in
    subst (λ (l : List Made). IsPermutation l (map shown olds)) (sym new_all ∙ (same ∙ kept_all)) (IsPermutation-sym (map shown olds) (map shown news) (IsPermutation-map shown olds news order))

module _ (kept olds news : List LoggedEntry) (i t : ℕ) (n : LoggedEntry) (kept_sorted : IsNonDecreasingBy ticket_of kept) (news_sorted : IsNonDecreasingBy ticket_of news)
    (order : IsPermutation olds news) (same : take i (map shown news) ≡ take i (map shown kept)) (its : t ≡ ticket_of n) where
  lifted : (l : List LoggedEntry) (d : Made) → i < length (map shown l) → (i < length l) × (ticket (get_or (map shown l) i d) ≡ ticket_of (get_or l i n))
  lifted l d inside =
      let within : i < length l = omega (arith, length-map l shown) in
      (within, ap ticket (get_or-map shown l i n d within))

  least_here : IsLeast ticket (map shown kept) (map shown news) (ticket_of n) → IsLeastDifference (map shown kept) (map shown olds) t
  least_here h =
      let P : ℕ → Type 0 = λ u. IsLeastDifference (map shown kept) (map shown olds) u in
      subst P (sym its) (least (map shown kept) (map shown olds) (ticket_of n)
      (least_permuted ticket (map shown kept) (map shown kept) (map shown olds) (map shown news) (ticket_of n) (IsPermutation-refl (map shown kept)) (IsPermutation-map shown olds news order) h))

  -- the first entry of `kept` after the common prefix, which does not occur in `news`, gives the least difference
  pub least_kept : i < length kept → n ≡ get_or kept i n → (i < length news → ticket_of n ≤ ticket_of (get_or news i n)) → (Contains (drop i (map shown news)) (shown n) → ⊥)
      → IsLeastDifference (map shown kept) (map shown olds) t
  least_kept inside there above absent =
      least_here (least_by_first ticket (map shown kept) (map shown news) i (shown n) (sorted_shown kept kept_sorted) (sorted_shown news news_sorted) (sym same)
      (omega (arith, length-map kept shown)) (get_or-map shown kept i n (shown n) inside ∙ ap shown (sym there))
      (λ d within. let r = lifted news d within in omega (arith, above r.0, r.1)) absent)

  -- the first entry of `news` after the common prefix, whose ticket is below those of the rest of `kept`, gives the least difference
  pub least_heard : i < length news → n ≡ get_or news i n → (i < length kept → ticket_of n < ticket_of (get_or kept i n)) → IsLeastDifference (map shown kept) (map shown olds) t
  least_heard inside there above =
      let absent = absent_above ticket (map shown kept) i (shown n) (sorted_shown kept kept_sorted) (λ d within. let r = lifted kept d within in omega (arith, above r.0, r.1)) in
      least_here (least_flipped ticket (map shown news) (map shown kept) (ticket_of n) (least_by_first ticket (map shown news) (map shown kept) i (shown n)
      (sorted_shown news news_sorted) (sorted_shown kept kept_sorted) same
      (omega (arith, length-map news shown)) (get_or-map shown news i n (shown n) inside ∙ ap shown (sym there))
      (λ d within. let r = lifted kept d within in omega (arith, above r.0, r.1)) absent))

-- an entry does not occur from place `i` on, where those up to place `j` are not it and those after have greater tickets
pub missing_from : (l : List LoggedEntry) (i j : ℕ) (n : LoggedEntry) → ((k : ℕ) → i ≤ k → k < j → shown (get_or l k n) ≡ shown n → ⊥) → ((k : ℕ) → j ≤ k → k < length l → ticket_of n < ticket_of (get_or l k n))
    → Contains (drop i (map shown l)) (shown n) → ⊥
missing_from l i j n passed later stands =
    let k : ℕ = i + stands.0 in
    let inside : k < length l = omega (arith, length-drop i (map shown l), length-map l shown, stands.1) in
    let e : shown (get_or l k n) ≡ shown n = sym (get_or-map shown l k n (shown n) inside) ∙ (sym (get_or-drop i (map shown l) stands.0 (shown n)) ∙ stands.2) in
    ⊎_elim (λ less. passed k (omega arith) less e) (λ le. omega (arith, later k le inside, ap ticket e)) (cases_lt k j)

-- the ticket that a comparison returns is the least at which the lists differ
pub found : (xs ys : List Made) {E : Type 0} (r : Result (Option ℕ) E) → IfOk r (Compares xs ys) → IfOk r (λ o. IfSome o (IsLeastDifference xs ys))
found xs ys (Err e) h = tt
found xs ys (Ok None) h = tt
found xs ys (Ok (Some t)) h = h

-- where a comparison finds nothing, the lists are equal as multisets
pub found_none : (A : Type 0) (xs ys : List Made) {E : Type 0} (r : Result (Option ℕ) E) → IfOk r (Compares xs ys) → IfOk r (λ o. IfNone o (A → IsPermutation xs ys))
found_none A xs ys (Err e) h = tt
found_none A xs ys (Ok None) h = λ _. h
found_none A xs ys (Ok (Some t)) h = tt
