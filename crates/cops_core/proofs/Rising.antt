-- The puts of an accepted history in order of their versions.
use Rattle.std.proofs.Common.{◌≡◌, ℕ, zero, suc, ◌<◌, ◌⊎◌, inl, inr, List, [], ◌∷◌, Bool, true, false, cond, Contains, Some, slice_get, map, refl, sym, ap, ◌∙◌, arith, subst, nat_lt}
use Rattle.std.proofs.lemmas.Bool.{ltb-true, ltb-false}
use Rattle.cops_types.specs.declared.put_record.PutRecord.{PutRecord}
use Rattle.cops_types.specs.declared.op.OpName.{OpName}
use Rattle.cops_types.specs.Histories.{Sessions, IsPut, PutsVersion, write}
use Rattle.cops_types.specs.VersionOrder.{IsVersionOrder}
use Rattle.cops_core.specs.Machine.{State, session}
use Rattle.cops_types.specs.Verdicts.{HasAcceptedVerdict}
use Rattle.cops_core.proofs.Lists.{contains_none, contains_cases, contains_head, contains_tail}
use Rattle.cops_core.proofs.Contexts.{context_before, WasPut, fair_at}
use Rattle.cops_core.proofs.Accepted.{IsOnce, Kept, none_doubled, all_have_sources, all_above, none_stale}

-- the name of a put with its version
pub record Tagged (h : Sessions) : Type 0 where
  pub name : OpName
  pub version : ℕ
  pub puts : PutsVersion h name version

module _ (h : Sessions) where
  insert : Tagged h → List (Tagged h) → List (Tagged h)
  insert t [] = t ∷ []
  insert t (u ∷ us) = cond (nat_lt t.version u.version) (t ∷ u ∷ us) (cond (nat_lt u.version t.version) (u ∷ insert t us) (u ∷ us))

  -- one of them has the version
  abbrev Has : List (Tagged h) → ℕ → Type 0
  Has ts version = (t : Tagged h) × (Contains ts t) × (t.version ≡ version)

  has_tail : (u : Tagged h) (us : List (Tagged h)) (version : ℕ) → Has us version → Has (u ∷ us) version
  has_tail u us version x = (x.0, contains_tail u us x.0 x.1, x.2)

  has_cases : (u : Tagged h) (us : List (Tagged h)) (version : ℕ) → Has (u ∷ us) version → (u.version ≡ version) ⊎ Has us version
  has_cases u us version x = elim (contains_cases u us x.0 x.1) [ inl e ↦ inl (ap (λ (t : Tagged h). t.version) e ∙ x.2) | inr r ↦ inr (x.0, r, x.2) ]

  has_head : (u : Tagged h) (us : List (Tagged h)) (version : ℕ) → u.version ≡ version → Has (u ∷ us) version
  has_head u us version e = (u, contains_head u us, e)

  insert_has : (t : Tagged h) (us : List (Tagged h)) (version : ℕ) → (t.version ≡ version) ⊎ Has us version → Has (insert t us) version
  unfolding insert
  insert_has t [] version (inl e) = has_head t [] version e
  insert_has t [] version (inr x) = absurd (contains_none x.0 x.1)
  insert_has t (u ∷ us) version x = first (nat_lt t.version u.version) refl x (λ y. insert_has t us version y)
    where
      later : (t.version ≡ version) ⊎ Has (u ∷ us) version → ((t.version ≡ version) ⊎ Has us version → Has (insert t us) version) → Has (u ∷ insert t us) version
      later (inl e) rest = has_tail u (insert t us) version (rest (inl e))
      later (inr y) rest = elim (has_cases u us version y) [ inl e ↦ has_head u (insert t us) version e | inr r ↦ has_tail u (insert t us) version (rest (inr r)) ]

      second : (b : Bool) → nat_lt u.version t.version ≡ b → nat_lt t.version u.version ≡ false → (t.version ≡ version) ⊎ Has (u ∷ us) version → ((t.version ≡ version) ⊎ Has us version → Has (insert t us) version) → Has (cond b (u ∷ insert t us) (u ∷ us)) version
      second true e f y rest = later y rest
      second false e f (inl s) rest = has_head u us version (let a = ltb-false t.version u.version f in let b = ltb-false u.version t.version e in omega arith)
      second false e f (inr y) rest = y

      first : (b : Bool) → nat_lt t.version u.version ≡ b → (t.version ≡ version) ⊎ Has (u ∷ us) version → ((t.version ≡ version) ⊎ Has us version → Has (insert t us) version) → Has (cond b (t ∷ u ∷ us) (cond (nat_lt u.version t.version) (u ∷ insert t us) (u ∷ us))) version
      first true e (inl s) rest = has_head t (u ∷ us) version s
      first true e (inr y) rest = has_tail t (u ∷ us) version y
      first false e y rest = second (nat_lt u.version t.version) refl e y rest

  insert_cases : (t : Tagged h) (us : List (Tagged h)) (x : Tagged h) → Contains (insert t us) x → (t ≡ x) ⊎ Contains us x
  unfolding insert
  insert_cases t [] x c = contains_cases t [] x c
  insert_cases t (u ∷ us) x c = first (nat_lt t.version u.version) c (λ r. insert_cases t us x r)
    where
      first : (b : Bool) → Contains (cond b (t ∷ u ∷ us) (cond (nat_lt u.version t.version) (u ∷ insert t us) (u ∷ us))) x → (Contains (insert t us) x → (t ≡ x) ⊎ Contains us x) → (t ≡ x) ⊎ Contains (u ∷ us) x
      first true c rest = contains_cases t (u ∷ us) x c
      first false c rest = second (nat_lt u.version t.version) c
        where
          later : (u ≡ x) ⊎ Contains (insert t us) x → (t ≡ x) ⊎ Contains (u ∷ us) x
          later (inl e) = inr (subst (λ z. Contains (u ∷ us) z) e (contains_head u us))
          later (inr r) = elim (rest r) [ inl e ↦ inl e | inr s ↦ inr (contains_tail u us x s) ]

          second : (b : Bool) → Contains (cond b (u ∷ insert t us) (u ∷ us)) x → (t ≡ x) ⊎ Contains (u ∷ us) x
          second true c = later (contains_cases u (insert t us) x c)
          second false c = inr c

  abbrev IsRising : List (Tagged h) → Type 0
  IsRising [] = Unit {0}
  IsRising (t ∷ ts) = ((u : Tagged h) → Contains ts u → t.version < u.version) × IsRising ts

  insert_rising : (t : Tagged h) (us : List (Tagged h)) → IsRising us → IsRising (insert t us)
  unfolding insert
  insert_rising t [] r = (λ u c. absurd (contains_none u c), tt)
  insert_rising t (u ∷ us) r = first (nat_lt t.version u.version) refl (insert_rising t us r.1)
    where
      below : t.version < u.version → (x : Tagged h) → (u ≡ x) ⊎ Contains us x → t.version < x.version
      below lt x (inl e) = let v : u.version ≡ x.version = ap (λ (y : Tagged h). y.version) e in omega arith
      below lt x (inr c) = let less = r.0 x c in omega arith

      above : u.version < t.version → (x : Tagged h) → (t ≡ x) ⊎ Contains us x → u.version < x.version
      above lt x (inl e) = let v : t.version ≡ x.version = ap (λ (y : Tagged h). y.version) e in omega arith
      above lt x (inr c) = r.0 x c

      second : (b : Bool) → nat_lt u.version t.version ≡ b → IsRising (insert t us) → IsRising (cond b (u ∷ insert t us) (u ∷ us))
      second true e rest = (λ x c. above (ltb-true u.version t.version e) x (insert_cases t us x c), rest)
      second false e rest = r

      first : (b : Bool) → nat_lt t.version u.version ≡ b → IsRising (insert t us) → IsRising (cond b (t ∷ u ∷ us) (cond (nat_lt u.version t.version) (u ∷ insert t us) (u ∷ us)))
      first true e rest = (λ x c. below (ltb-true t.version u.version e) x (contains_cases u us x c), r)
      first false e rest = second (nat_lt u.version t.version) refl rest

  -- the puts of a list, each with a name that it has, in order of versions
  sorted : (puts : List PutRecord) → ((p : PutRecord) → Contains puts p → (n : OpName) × IsPut h n p.key p.value p.version) → List (Tagged h)
  sorted [] named = []
  sorted (p ∷ puts) named =
      let n = named p (contains_head p puts) in
      insert (record { name = n.0; version = p.version; puts = (p.key, p.value, n.1) }) (sorted puts (λ q c. named q (contains_tail p puts q c)))

  sorted_rising : (puts : List PutRecord) (named : (p : PutRecord) → Contains puts p → (n : OpName) × IsPut h n p.key p.value p.version) → IsRising (sorted puts named)
  unfolding sorted
  sorted_rising [] named = tt
  sorted_rising (p ∷ puts) named = insert_rising _ (sorted puts (λ q c. named q (contains_tail p puts q c))) (sorted_rising puts (λ q c. named q (contains_tail p puts q c)))

  sorted_has : (puts : List PutRecord) (named : (p : PutRecord) → Contains puts p → (n : OpName) × IsPut h n p.key p.value p.version) (x : PutRecord) → Contains puts x → Has (sorted puts named) x.version
  unfolding sorted
  sorted_has [] named x c = absurd (contains_none x c)
  sorted_has (p ∷ puts) named x c =
      insert_has _ (sorted puts (λ q c. named q (contains_tail p puts q c))) x.version
      (elim (contains_cases p puts x c) [
        | inl e ↦ inl (ap (λ (y : PutRecord). y.version) e)
        | inr r ↦ inr (sorted_has puts (λ q c. named q (contains_tail p puts q c)) x r)
      ])

  abbrev names_of : List (Tagged h) → List OpName
  names_of ts = map (λ (t : Tagged h). t.name) ts

  names_to : (ts : List (Tagged h)) (n : OpName) → Contains (names_of ts) n → (t : Tagged h) × (Contains ts t) × (t.name ≡ n)
  names_to [] n c = absurd (contains_none n c)
  names_to (t ∷ ts) n c = elim (contains_cases t.name (names_of ts) n c) [ inl e ↦ (t, contains_head t ts, e) | inr r ↦ (let x = names_to ts n r in (x.0, contains_tail t ts x.0 x.1, x.2)) ]

  names_from : (ts : List (Tagged h)) (t : Tagged h) → Contains ts t → Contains (names_of ts) t.name
  names_from [] t c = absurd (contains_none t c)
  names_from (u ∷ ts) t c = elim (contains_cases u ts t c) [
    | inl e ↦ subst (λ (x : Tagged h). Contains (names_of (u ∷ ts)) x.name) e (contains_head u.name (names_of ts))
    | inr r ↦ contains_tail u.name (names_of ts) t.name (names_from ts t r)
  ]

  names_get : (ts : List (Tagged h)) (i : ℕ) (n : OpName) → slice_get (names_of ts) i ≡ Some n → (t : Tagged h) × (slice_get ts i ≡ Some t) × (t.name ≡ n)
  names_get [] i n e = cc
  names_get (t ∷ ts) zero n e = (t, refl, cc)
  names_get (t ∷ ts) (suc i) n e = names_get ts i n e

  get_contains : (ts : List (Tagged h)) (i : ℕ) (t : Tagged h) → slice_get ts i ≡ Some t → Contains ts t
  get_contains [] i t e = cc
  get_contains (u ∷ ts) zero t e = let same : u ≡ t = cc in subst (λ x. Contains (u ∷ ts) x) same (contains_head u ts)
  get_contains (u ∷ ts) (suc i) t e = contains_tail u ts t (get_contains ts i t e)

  rising_at : (ts : List (Tagged h)) → IsRising ts → (i j : ℕ) (t u : Tagged h) → i < j → slice_get ts i ≡ Some t → slice_get ts j ≡ Some u → t.version < u.version
  rising_at [] r i j t u lt ei ej = cc
  rising_at (x ∷ ts) r zero zero t u lt ei ej = absurd (omega (arith, lt))
  rising_at (x ∷ ts) r zero (suc j) t u lt ei ej = let same : x ≡ t = cc in subst (λ (y : Tagged h). y.version < u.version) same (r.0 u (get_contains ts j u ej))
  rising_at (x ∷ ts) r (suc i) zero t u lt ei ej = absurd (omega (arith, lt))
  rising_at (x ∷ ts) r (suc i) (suc j) t u lt ei ej = rising_at ts r.1 i j t u (omega (arith, lt)) ei ej

  same_version : (n : OpName) (v w : ℕ) → PutsVersion h n v → PutsVersion h n w → v ≡ w
  same_version n v w p q = let e : Some (write p.0 p.1 v) ≡ Some (write q.0 q.1 w) = sym p.2 ∙ q.2 in cc

  -- the puts are in the order of versions if each put is one of these and no two have the same version
  version_order : (ts : List (Tagged h)) → IsRising ts → IsOnce h → ((n : OpName) (v : ℕ) → PutsVersion h n v → Has ts v) → IsVersionOrder h (names_of ts)
  version_order ts rising once all = record {
    members = λ p. (
      λ c. (let t = names_to ts p c in (t.0.version, subst (λ n. PutsVersion h n t.0.version) t.2 t.0.puts)),
      λ q. (let t = all p q.0 q.1 in
          let same : t.0.name ≡ p = once t.0.name p t.0.puts.0 q.1.0 t.0.puts.1 q.1.1 q.0 (subst (λ v. IsPut h t.0.name t.0.puts.0 t.0.puts.1 v) t.2 t.0.puts.2) q.1.2 in
          subst (λ n. Contains (names_of ts) n) same (names_from ts t.0 t.1)),
    );
    rising = λ p q v w before pv qw. (
        let t = names_get ts before.0 p before.3 in
        let u = names_get ts before.1 q before.4 in
        let lt = rising_at ts rising before.0 before.1 t.0 u.0 before.2 t.1 u.1 in
        let a : t.0.version ≡ v = same_version p t.0.version v (subst (λ n. PutsVersion h n t.0.version) t.2 t.0.puts) pv in
        let b : u.0.version ≡ w = same_version q u.0.version w (subst (λ n. PutsVersion h n u.0.version) u.2 u.0.puts) qw in
        omega arith);
  }

pub kept_accepted : (home : ℕ → ℕ) (s : State) → Kept home s → HasAcceptedVerdict s.sessions
kept_accepted home s k = (
  names_of s.sessions ts,
  record {
    doubled = none_doubled s.sessions k.once;
    sources = all_have_sources home s k;
    above = all_above s.issued s.sessions k.consistent k.fair;
    stale = none_stale s.issued s.sessions k.consistent k.fair;
    version_order = version_order s.sessions ts (sorted_rising s.sessions s.issued k.named) k.once all;
  },
)
  where
    ts : List (Tagged s.sessions)
    ts = sorted s.sessions s.issued k.named

    all : (n : OpName) (v : ℕ) → PutsVersion s.sessions n v → Has s.sessions ts v
    all n v p =
        let f : WasPut s.issued (context_before [] (session s.sessions n.client) n.index) p.0 p.1 v = fair_at s.issued [] (session s.sessions n.client) n.index (write p.0 p.1 v) (k.fair n.client) p.2 in
        let x = sorted_has s.sessions s.issued k.named f.put f.is.among in
        (x.0, x.1, x.2 ∙ ap (λ d. d.version) f.is.pair_is)
