-- A history has one verdict.
use Rattle.std.proofs.Common.{◌≡◌, ◌≢◌, ◌<◌, ℕ, zero, suc, List, [], ◌∷◌, length, get_or, refl, sym, subst, inl, inr, arith, AllPairs, slice_get, Some, Contains}
use Rattle.std.proofs.lemmas.Option.{slice_get-get_or}
use Rattle.cops_types.specs.declared.op.OpName.{OpName}
use Rattle.cops_types.specs.Histories.{Sessions, Puts, PutsVersion}
use Rattle.cops_types.specs.VersionOrder.{IsVersionOrder, IsDoubled}
use Rattle.cops_types.specs.Faults.{IsBefore, Lists, HasNoSource, IsNotAbove, IsStale}
use Rattle.cops_audit.specs.declared.verdict.NotAbove.{NotAbove}
use Rattle.cops_audit.specs.declared.verdict.Stale.{Stale}
use Rattle.cops_audit.specs.declared.verdict.Verdict.{Verdict}
use Rattle.cops_audit.specs.declared.verdict.Verdict.TheVariants.{Accepted, Refused}
use Rattle.cops_audit.specs.declared.verdict.Faults.TheVariants as class
use Rattle.cops_audit.specs.Verdicts.{IsVerdict, SameVerdict}
use Rattle.cops_audit.proofs.Listing.{first_or_later, later}

-- two lists with the same members, in one strict order
module _ {A : Type 0} (R : A → A → Type 0) (IsMember : A → Type 0) (strict : (x y : A) → IsMember x → IsMember y → R x y → R y x → ⊥) where
  before_rest : (x : A) (xs : List A) → AllPairs R (x ∷ xs) → (z : A) → Contains xs z → R x z
  before_rest x xs pairs z at = subst (R x) at.2 (pairs zero (suc at.0) z (omega arith) (omega (arith, at.1)))

  -- what is in the one list is in the rest of the other, where it is in the rest of the one
  in_rest : (x : A) (xs ys : List A) → AllPairs R (x ∷ xs) → IsMember x → ((z : A) → Contains (x ∷ xs) z → Contains (x ∷ ys) z) → (z : A) → Contains xs z → Contains ys z
  in_rest x xs ys pairs member within z at = elim (first_or_later x ys z (within z (later x xs z at))) [
    | inl same ↦ let r : R x x = subst (R x) (sym same) (before_rest x xs pairs z at) in absurd (strict x x member member r r)
    | inr there ↦ there
  ]

  same_list : (xs ys : List A) → AllPairs R xs → AllPairs R ys → ((z : A) → Contains xs z → IsMember z) → ((z : A) → Contains xs z → Contains ys z) → ((z : A) → Contains ys z → Contains xs z) → xs ≡ ys
  same_list [] [] o p m f g = refl
  same_list [] (y ∷ ys) o p m f g = absurd (omega (arith, (g y (zero, omega arith, refl)).1))
  same_list (x ∷ xs) [] o p m f g = absurd (omega (arith, (f x (zero, omega arith, refl)).1))
  same_list (x ∷ xs) (y ∷ ys) o p m f g =
      let in_ys = first_or_later y ys x (f x (zero, omega arith, refl)) in
      let in_xs = first_or_later x xs y (g y (zero, omega arith, refl)) in
      let head : y ≡ x = elim in_ys [
        | inl same ↦ same
        | inr after ↦ elim in_xs [
          | inl same ↦ sym same
          | inr behind ↦ absurd (strict x y (m x (zero, omega arith, refl)) (m y (later x xs y behind)) (before_rest x xs o y behind) (before_rest y ys p x after))
        ]
      ] in
      let one = m x (zero, omega arith, refl) in
      let q : AllPairs R (x ∷ ys) = subst (λ z. AllPairs R (z ∷ ys)) head p in
      let tail : xs ≡ ys = same_list xs ys (λ i j d less inside. o (suc i) (suc j) d (omega (arith, less)) (omega (arith, inside)))
      (λ i j d less inside. p (suc i) (suc j) d (omega (arith, less)) (omega (arith, inside))) (λ z at. m z (later x xs z at))
      (in_rest x xs ys o one (λ z at. subst (λ w. Contains (w ∷ ys) z) head (f z at)))
      (in_rest x ys xs q one (λ z at. g z (subst (λ w. Contains (w ∷ ys) z) (sym head) at))) in
      cc

before_strict : (a b : OpName) → IsBefore a b → IsBefore b a → ⊥
before_strict a b (inl p) (inl q) = omega (arith, p, q)
before_strict a b (inl p) (inr q) = omega (arith, p, q.0)
before_strict a b (inr p) (inl q) = omega (arith, p.0, q)
before_strict a b (inr p) (inr q) = omega (arith, p.1, q.1)

-- the faults of a class are listed in one way
pub one_listing : {A : Type 0} (name_of : A → OpName) (IsFault : A → Type 0) (xs ys : List A) → Lists name_of IsFault xs → Lists name_of IsFault ys → xs ≡ ys
one_listing name_of IsFault xs ys p q =
    same_list (λ x y. IsBefore (name_of x) (name_of y)) IsFault (λ x y _ _ f g. before_strict (name_of x) (name_of y) f g) xs ys p.in_order q.in_order
    (λ z. (p.members z).0) (λ z at. (q.members z).1 ((p.members z).0 at)) (λ z at. (p.members z).1 ((q.members z).0 at))

pub stands : {A : Type 0} (xs : List A) (i : ℕ) (d : A) → i < length xs → slice_get xs i ≡ Some (get_or xs i d)
stands xs i d inside = slice_get-get_or xs i d inside

rising_pairs : (h : Sessions) (xs : List OpName) → IsVersionOrder h xs → AllPairs (λ p q. (v w : ℕ) → PutsVersion h p v → PutsVersion h q w → v < w) xs
rising_pairs h xs order i j d less inside v w first second =
    order.rising _ _ v w (i, j, less, stands xs i d (omega (arith, less, inside)), stands xs j d inside) first second

-- the puts have one order of versions
pub one_order : (h : Sessions) (xs ys : List OpName) → IsVersionOrder h xs → IsVersionOrder h ys → xs ≡ ys
one_order h xs ys p q =
    same_list (λ a b. (v w : ℕ) → PutsVersion h a v → PutsVersion h b w → v < w) (Puts h)
    (λ a b put_a put_b f g. omega (arith, f put_a.0 put_b.0 put_a.1 put_b.1, g put_b.0 put_a.0 put_b.1 put_a.1)) xs ys (rising_pairs h xs p) (rising_pairs h ys q)
    (λ z. (p.members z).0) (λ z at. (q.members z).1 ((p.members z).0 at)) (λ z at. (p.members z).1 ((q.members z).0 at))

pub some_fault : {A : Type 0} (name_of : A → OpName) (IsFault : A → Type 0) (xs : List A) → xs ≢ [] → Lists name_of IsFault xs → (x : A) × IsFault x
some_fault name_of IsFault [] some lists = absurd (some refl)
some_fault name_of IsFault (x ∷ xs) some lists = (x, (lists.members x).0 (zero, omega arith, refl))

pub same_verdict : (h : Sessions) (v w : Verdict) → IsVerdict h v → IsVerdict h w → SameVerdict v w
same_verdict h (Accepted a) (Accepted b) p q = one_order h a.items b.items p.version_order q.version_order
same_verdict h (Accepted a) (Refused (class.Doubled b)) p q = let x = some_fault {A = OpName} (λ n. n) (IsDoubled h) b.items q.0 q.1 in absurd (p.doubled x.0 x.1)
same_verdict h (Accepted a) (Refused (class.NoSource b)) p q = let x = some_fault {A = OpName} (λ n. n) (HasNoSource h) b.items q.1 q.2 in absurd (p.sources x.0 x.1)
same_verdict h (Accepted a) (Refused (class.NotAbove b)) p q = let x = some_fault {A = NotAbove} (λ f. f.op) (λ f. IsNotAbove h f.op f.earlier) b.items q.2 q.3 in absurd (p.above x.0.op x.0.earlier x.1)
same_verdict h (Accepted a) (Refused (class.Stale b)) p q = let x = some_fault {A = Stale} (λ f. f.op) (λ f. IsStale h f.op f.newer) b.items q.3 q.4 in absurd (p.stale x.0.op x.0.newer x.1)
same_verdict h (Refused (class.Doubled a)) (Accepted b) p q = let x = some_fault {A = OpName} (λ n. n) (IsDoubled h) a.items p.0 p.1 in absurd (q.doubled x.0 x.1)
same_verdict h (Refused (class.Doubled a)) (Refused (class.Doubled b)) p q = one_listing {A = OpName} (λ n. n) (IsDoubled h) a.items b.items p.1 q.1
same_verdict h (Refused (class.Doubled a)) (Refused (class.NoSource b)) p q = let x = some_fault {A = OpName} (λ n. n) (IsDoubled h) a.items p.0 p.1 in absurd (q.0 x.0 x.1)
same_verdict h (Refused (class.Doubled a)) (Refused (class.NotAbove b)) p q = let x = some_fault {A = OpName} (λ n. n) (IsDoubled h) a.items p.0 p.1 in absurd (q.0 x.0 x.1)
same_verdict h (Refused (class.Doubled a)) (Refused (class.Stale b)) p q = let x = some_fault {A = OpName} (λ n. n) (IsDoubled h) a.items p.0 p.1 in absurd (q.0 x.0 x.1)
same_verdict h (Refused (class.NoSource a)) (Accepted b) p q = let x = some_fault {A = OpName} (λ n. n) (HasNoSource h) a.items p.1 p.2 in absurd (q.sources x.0 x.1)
same_verdict h (Refused (class.NoSource a)) (Refused (class.Doubled b)) p q = let x = some_fault {A = OpName} (λ n. n) (IsDoubled h) b.items q.0 q.1 in absurd (p.0 x.0 x.1)
same_verdict h (Refused (class.NoSource a)) (Refused (class.NoSource b)) p q = one_listing {A = OpName} (λ n. n) (HasNoSource h) a.items b.items p.2 q.2
same_verdict h (Refused (class.NoSource a)) (Refused (class.NotAbove b)) p q = let x = some_fault {A = OpName} (λ n. n) (HasNoSource h) a.items p.1 p.2 in absurd (q.1 x.0 x.1)
same_verdict h (Refused (class.NoSource a)) (Refused (class.Stale b)) p q = let x = some_fault {A = OpName} (λ n. n) (HasNoSource h) a.items p.1 p.2 in absurd (q.1 x.0 x.1)
same_verdict h (Refused (class.NotAbove a)) (Accepted b) p q = let x = some_fault {A = NotAbove} (λ f. f.op) (λ f. IsNotAbove h f.op f.earlier) a.items p.2 p.3 in absurd (q.above x.0.op x.0.earlier x.1)
same_verdict h (Refused (class.NotAbove a)) (Refused (class.Doubled b)) p q = let x = some_fault {A = OpName} (λ n. n) (IsDoubled h) b.items q.0 q.1 in absurd (p.0 x.0 x.1)
same_verdict h (Refused (class.NotAbove a)) (Refused (class.NoSource b)) p q = let x = some_fault {A = OpName} (λ n. n) (HasNoSource h) b.items q.1 q.2 in absurd (p.1 x.0 x.1)
same_verdict h (Refused (class.NotAbove a)) (Refused (class.NotAbove b)) p q = one_listing {A = NotAbove} (λ f. f.op) (λ f. IsNotAbove h f.op f.earlier) a.items b.items p.3 q.3
same_verdict h (Refused (class.NotAbove a)) (Refused (class.Stale b)) p q = let x = some_fault {A = NotAbove} (λ f. f.op) (λ f. IsNotAbove h f.op f.earlier) a.items p.2 p.3 in absurd (q.2 x.0.op x.0.earlier x.1)
same_verdict h (Refused (class.Stale a)) (Accepted b) p q = let x = some_fault {A = Stale} (λ f. f.op) (λ f. IsStale h f.op f.newer) a.items p.3 p.4 in absurd (q.stale x.0.op x.0.newer x.1)
same_verdict h (Refused (class.Stale a)) (Refused (class.Doubled b)) p q = let x = some_fault {A = OpName} (λ n. n) (IsDoubled h) b.items q.0 q.1 in absurd (p.0 x.0 x.1)
same_verdict h (Refused (class.Stale a)) (Refused (class.NoSource b)) p q = let x = some_fault {A = OpName} (λ n. n) (HasNoSource h) b.items q.1 q.2 in absurd (p.1 x.0 x.1)
same_verdict h (Refused (class.Stale a)) (Refused (class.NotAbove b)) p q = let x = some_fault {A = NotAbove} (λ f. f.op) (λ f. IsNotAbove h f.op f.earlier) b.items q.2 q.3 in absurd (p.2 x.0.op x.0.earlier x.1)
same_verdict h (Refused (class.Stale a)) (Refused (class.Stale b)) p q = one_listing {A = Stale} (λ f. f.op) (λ f. IsStale h f.op f.newer) a.items b.items p.4 q.4
