-- Counts above 0, listed with their clients, are a past.
use Rattle.std.proofs.Common.{◌≡◌, ◌<◌, ◌≤◌, ◌+◌, ◌↔◌, ℕ, List, [], ◌∷◌, ◌++◌, length, get_or, sym, ap, subst, inl, inr, arith, Contains, AllPairs}
use Rattle.std.proofs.Math.Nat.{eq-or-lt_of_le}
use Rattle.std.proofs.lemmas.Bool.{cases_lt}
use Rattle.std.proofs.lemmas.List.Quantifiers.{all_pairs_push}
use Rattle.std.proofs.lemmas.List.Elements.{Contains-append_left, Contains-push, Contains-push_cases, Contains-get_or}
use Rattle.std.proofs.lemmas.List.{get_or_past}
use Rattle.cops_audit.specs.Searches.{ListsCounts}

-- the counts of the first clients
pub record CountsTo (counts : List ℕ) (pairs : List (ℕ × ℕ)) (clients : ℕ) : Type 0 where
  pub members : (client count : ℕ) → Contains pairs (client, count) ↔ ((client < clients) × (get_or counts client 0 ≡ count) × (0 < count))
  pub in_order : AllPairs (λ a b. a.0 < b.0) pairs

module _ (counts : List ℕ) where
  pub count_skipped : (pairs : List (ℕ × ℕ)) (i : ℕ) → CountsTo counts pairs i → get_or counts i 0 ≡ 0 → CountsTo counts pairs (i + 1)
  count_skipped pairs i was none = record {
    members = λ client count. (
      (λ at. let o = (was.members client count).0 at in (omega (arith, o.0), o.1, o.2)),
      (λ w. elim (eq-or-lt_of_le (let le : client ≤ i = omega (arith, w.0) in le)) [
        | inl same ↦ let e : get_or counts client 0 ≡ get_or counts i 0 = ap (λ (k : ℕ). get_or counts k 0) same in absurd (omega (arith, e, none, w.1, w.2))
        | inr less ↦ (was.members client count).1 (less, w.1, w.2)
      ]),
    );
    in_order = was.in_order;
  }

  pub count_pushed : (pairs : List (ℕ × ℕ)) (i n : ℕ) → CountsTo counts pairs i → n ≡ get_or counts i 0 → 0 < n → CountsTo counts (pairs ++ (i, n) ∷ []) (i + 1)
  count_pushed pairs i n was is some = record {
    members = λ client count. (
      (λ at. elim (Contains-push_cases pairs (i, n) (client, count) at) [
        | inl old ↦ let o = (was.members client count).0 old in (omega (arith, o.0), o.1, o.2)
        | inr new ↦
            let c : i ≡ client = ap (λ (p : ℕ × ℕ). p.0) new in
            let k : n ≡ count = ap (λ (p : ℕ × ℕ). p.1) new in
            let e : get_or counts client 0 ≡ get_or counts i 0 = ap (λ (j : ℕ). get_or counts j 0) (sym c) in
            (omega (arith, c), omega (arith, e, is, k), omega (arith, some, k))
      ]),
      (λ w. elim (eq-or-lt_of_le (let le : client ≤ i = omega (arith, w.0) in le)) [
        | inl same ↦
            let e : get_or counts client 0 ≡ get_or counts i 0 = ap (λ (k : ℕ). get_or counts k 0) same in
            let k : n ≡ count = omega (arith, e, is, w.1) in
            subst (λ (p : ℕ × ℕ). Contains (pairs ++ (i, n) ∷ []) p) (let p : (i, n) ≡ (client, count) = cc in p) (Contains-push pairs (i, n))
        | inr less ↦ Contains-append_left pairs ((i, n) ∷ []) (client, count) ((was.members client count).1 (less, w.1, w.2))
      ]),
    );
    in_order = all_pairs_push (λ a b. a.0 < b.0) pairs (i, n) was.in_order
        (λ k d inside. ((was.members (get_or pairs k d).0 (get_or pairs k d).1).0 (Contains-get_or pairs k d inside)).0);
  }

  pub all_counts : (pairs : List (ℕ × ℕ)) (i : ℕ) → length counts ≤ i → CountsTo counts pairs i → ListsCounts counts pairs
  all_counts pairs i enough was = record {
    members = λ client count. (
      (λ at. let o = (was.members client count).0 at in (o.1, o.2)),
      (λ w. elim (cases_lt client i) [
        | inl less ↦ (was.members client count).1 (less, w.0, w.1)
        | inr le ↦ absurd (omega (arith, get_or_past counts client 0 (omega (arith, enough, le)), w.0, w.1))
      ]),
    );
    in_order = was.in_order;
  }
