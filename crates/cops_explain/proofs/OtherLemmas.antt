-- The other puts with a version.
use Rattle.std.proofs.Common.{eq-eqb, not, Bool, true, false, AllPairs, eqb, cond, ltb, ◌≡◌, ◌≢◌, ◌∙◌, ◌+◌, ◌<◌, ◌≤◌, ◌↔◌, ℕ, List, [], ◌∷◌, ◌++◌, length, get_or, Some, refl, sym, ap, subst, arith, inl, inr}
use Rattle.std.specs.Prelude.{Contains, ◌&&◌}
use Rattle.std.specs.List.{dedup}
use Rattle.std.specs.List.Retain.{DiffersFromLast, IsFiltered}
use Rattle.std.specs.List.Sorted.{IsNonDecreasingBy, IsPermutation, IsSorted, IsStrictlySortedBy}
use Rattle.std.specs.Ordering.{nat_cmp, ordering_then}
use Rattle.std.specs.declared.cmp.Ordering.{Ordering}
use Rattle.std.specs.declared.cmp.Ordering.TheVariants.{Less, Equal, Greater}
use Rattle.std.proofs.lemmas.Bool.{cases_lt, eqb-true, ltb-true}
use Rattle.std.proofs.lemmas.List.{get_or_default}
use Rattle.std.proofs.lemmas.List.Filters.{dedup_is}
use Rattle.std.proofs.lemmas.List.Kept.{AllPairs-cons, Contains-dedup, Contains-from_dedup, IsStrictlySortedBy-dedup}
use Rattle.std.proofs.lemmas.List.Sorted.{Contains-permutation, IsPermutation-sym}
use Rattle.std.proofs.lemmas.List.Elements.{All-from_recursion, Contains-append_left, Contains-push, Contains-push_cases}
use Rattle.cops_types.specs.declared.op.OpName.{OpName}
use Rattle.cops_types.specs.Faults.{IsBefore}
use Rattle.cops_types.specs.Histories.{Sessions, PutsVersion, write}
use Rattle.cops_types.specs.contracts.op.OpNameEq.TheImpl.Laws.{laws-law}
use Rattle.cops_types.specs.contracts.op.OpNameOrd.TheImpl.Laws.{matches_eq-law, total-law}
use Rattle.cops_types.specs.declared.versioned_put.VersionedPut.{VersionedPut}
use Rattle.cops_report.specs.Puts.{HasPut}
use Rattle.cops_report.specs.Reports.{version_at}
use Rattle.cops_audit.proofs.Acyclic.{same_name}
use Rattle.cops_explain.specs.Others.{AreOthers, IsOther}

-- a put has one version
pub one_version : (h : Sessions) (n : OpName) (v w : ℕ) → PutsVersion h n v → PutsVersion h n w → v ≡ w
one_version h n v w p q = (let e : Some (write p.0 p.1 v) ≡ Some (write q.0 q.1 w) = sym p.2 ∙ q.2 in cc)

-- those of the first i puts that are others are among the names, and all names are others
pub record AreFound (h : Sessions) (name : OpName) (puts : List VersionedPut) (i : ℕ) (names : List OpName) : Type 0 where
  pub all : (k : ℕ) (d : VersionedPut) → k < i → IsOther h name (get_or puts k d).name → Contains names (get_or puts k d).name
  pub sound : (n : OpName) → Contains names n → IsOther h name n

-- longer lists of names, which have the put at this place where it is another
grown : (h : Sessions) (name : OpName) (puts : List VersionedPut) (i : ℕ) (p : VersionedPut) (names more : List OpName) → i < length puts → p ≡ get_or puts i p → AreFound h name puts i names
    → ((n : OpName) → Contains names n → Contains more n) → ((n : OpName) → Contains more n → IsOther h name n) → (IsOther h name p.name → Contains more p.name) → AreFound h name puts (i + 1) more
grown h name puts i p names more inside at found kept sound here = record {
  all = λ k e lt other.
      elim (cases_lt k i) [
        | inl below ↦ kept (get_or puts k e).name (found.all k e below other)
        | inr above ↦
            let same : i ≡ k = omega arith in
            let is : p ≡ get_or puts k e = at ∙ get_or_default puts i p e inside ∙ ap (λ (x : ℕ). get_or puts x e) same in
            subst (λ (q : VersionedPut). Contains more q.name) is (here (subst (λ (q : VersionedPut). IsOther h name q.name) (sym is) other))
      ];
  sound = sound;
}

pub found_more : (h : Sessions) (name : OpName) (puts : List VersionedPut) (i : ℕ) (p : VersionedPut) (names : List OpName) → i < length puts → p ≡ get_or puts i p → AreFound h name puts i names
    → IsOther h name p.name → AreFound h name puts (i + 1) (names ++ p.name ∷ [])
found_more h name puts i p names inside at found other =
    grown h name puts i p names (names ++ p.name ∷ []) inside at found (λ m there. Contains-append_left names (p.name ∷ []) m there)
    (λ m there. elim (Contains-push_cases names p.name m there) [ inl before ↦ found.sound m before | inr is ↦ subst (IsOther h name) is other ]) (λ _. Contains-push names p.name)

pub found_passed : (h : Sessions) (name : OpName) (puts : List VersionedPut) (i : ℕ) (p : VersionedPut) (names : List OpName) → i < length puts → p ≡ get_or puts i p → AreFound h name puts i names
    → ¬ IsOther h name p.name → AreFound h name puts (i + 1) names
found_passed h name puts i p names inside at found none = grown h name puts i p names names inside at found (λ m there. there) found.sound (λ other. absurd (none other))

-- after a put of another version no further one has this version
pub further : (puts : List VersionedPut) (v i : ℕ) (p : VersionedPut) → IsNonDecreasingBy (λ q. q.version) puts → ((k : ℕ) (d : VersionedPut) → k < length puts → v ≤ (get_or puts k d).version)
    → i < length puts → p ≡ get_or puts i p → not (eqb p.version v) ≡ true → (k : ℕ) (d : VersionedPut) → i ≤ k → k < length puts → (get_or puts k d).version ≢ v
further puts v i p rises low inside at other k d above lt = λ e.
    let same : p.version ≡ (get_or puts i d).version = ap (λ (q : VersionedPut). q.version) (at ∙ get_or_default puts i p d inside) in
    let is : p.version ≡ v = omega (arith, low i d inside, rises i k d above lt, same, e) in
    let yes : eqb p.version v ≡ true = eq-eqb _ _ is in
    cc

-- all others are found where the first i puts are visited, and no further put has the version
pub all_found : (h : Sessions) (name : OpName) (v : ℕ) (puts : List VersionedPut) (i : ℕ) (names : List OpName) → v ≡ version_at h name → AreFound h name puts i names
    → ((n : OpName) → PutsVersion h n v → HasPut puts n v) → ((k : ℕ) (d : VersionedPut) → i ≤ k → k < length puts → (get_or puts k d).version ≢ v)
    → (n : OpName) → Contains names n ↔ IsOther h name n
all_found h name v puts i names is found has none n = (found.sound n, λ other. complete other (has n (subst (PutsVersion h n) (sym is) other.0)))
  where
    complete : IsOther h name n → HasPut puts n v → Contains names n
    complete other there = elim (cases_lt there.0 i) [
      | inl below ↦
          let d : VersionedPut = record { version = v; name = n } in
          let at : get_or puts there.0 d ≡ d = there.2 in
          subst (λ (p : VersionedPut). Contains names p.name) at (found.all there.0 d below (subst (λ (p : VersionedPut). IsOther h name p.name) (sym at) other))
      | inr above ↦ absurd (none there.0 (record { version = v; name = n }) above there.1 (ap (λ (p : VersionedPut). p.version) there.2))
    ]

-- ---- sorted names without duplicates

abbrev pub is_same : OpName → OpName → Bool
is_same a b = eqb a.client b.client && eqb a.index b.index

abbrev pub compared : OpName → OpName → Ordering
compared a b = ordering_then (nat_cmp a.client b.client) (nat_cmp a.index b.index)

same_is : (a b : OpName) → is_same a b ≡ true → a ≡ b
same_is a b same = go (eqb a.client b.client) (eqb a.index b.index) refl refl same
  where
    go : (p q : Bool) → eqb a.client b.client ≡ p → eqb a.index b.index ≡ q → (p && q) ≡ true → a ≡ b
    go true true c i e = same_name a b (eqb-true _ _ c) (eqb-true _ _ i)
    go true false c i e = absurd cc
    go false q c i e = absurd cc

less_is : (a b : OpName) → compared a b ≡ Less → IsBefore a b
less_is a b less = go (ltb a.client b.client) (eqb a.client b.client) (ltb a.index b.index) (eqb a.index b.index) refl refl refl less
  where
    go : (p q r s : Bool) → ltb a.client b.client ≡ p → eqb a.client b.client ≡ q → ltb a.index b.index ≡ r
        → ordering_then (cond p Less (cond q Equal Greater)) (cond r Less (cond s Equal Greater)) ≡ Less → IsBefore a b
    go true q r s ep eq er e = inl (ltb-true _ _ ep)
    go false true true s ep eq er e = inr (eqb-true _ _ eq, ltb-true _ _ er)
    go false true false true ep eq er e = absurd cc
    go false true false false ep eq er e = absurd cc
    go false false r s ep eq er e = absurd cc

rising : (names : List OpName) → IsStrictlySortedBy compared names → AllPairs IsBefore names
unfolding IsStrictlySortedBy
rising [] sorted = λ i j d less inside. absurd (omega (arith, inside))
rising (n ∷ names) sorted =
    AllPairs-cons IsBefore n names (λ k d inside. less_is n (get_or names k d) (All-from_recursion (λ m. compared n m ≡ Less) names sorted.0 k d inside)) (rising names sorted.1)

pub listed : (h : Sessions) (name : OpName) (names sorted listing : List OpName) → ((n : OpName) → Contains names n ↔ IsOther h name n) → IsPermutation names sorted → IsSorted compared sorted
    → IsFiltered (DiffersFromLast is_same) [] sorted listing → AreOthers h name listing
listed h name names sorted listing are moved in_order filtered =
    let is : listing ≡ dedup is_same sorted = dedup_is is_same sorted listing filtered in
    subst (AreOthers h name) (sym is)
    (record {
      members = λ n. (
        λ there. (are n).0 (Contains-permutation sorted names n (IsPermutation-sym names sorted moved) (Contains-from_dedup is_same sorted n there)),
        λ other. Contains-dedup laws-law same_is sorted n (Contains-permutation names sorted n moved ((are n).1 other)),
      );
      in_order = rising (dedup is_same sorted) (IsStrictlySortedBy-dedup total-law matches_eq-law sorted in_order);
    })
