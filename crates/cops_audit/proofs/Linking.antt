-- The puts on each key, from the last place down.
use Rattle.std.proofs.Common.{rules, ◌≡◌, ◌≢◌, ◌<◌, ◌+◌, ℕ, zero, suc, List, [], ◌∷◌, length, Some, None, Option, get_or, refl, sym, ◌∙◌, ap, subst, inl, inr, ◌⊎◌, arith, slice_get, slice_set}
use Rattle.std.proofs.Math.Nat.{eq-or-lt_of_le}
use Rattle.cops_types.specs.Histories.{Sessions, PutsKey}
use Rattle.cops_types.specs.declared.versioned_put.VersionedPut.{VersionedPut}
use Rattle.cops_types.specs.Recorded.{Recorded}
use Rattle.std.specs.Option.{unwrap_or}
use Rattle.cops_audit.specs.Keys.{AreKeys, AreNexts, IsFirstFrom, IsNext, LinksTo, OnKey}
use Rattle.cops_audit.specs.Tables.{IsVersionTable, Rises}
use Rattle.cops_audit.proofs.Places.{inside_table, stands_item}
use Rattle.cops_audit.proofs.Acyclic.{one_version}
use Rattle.cops_audit.proofs.Collect.{get_or-default}
use Rattle.cops_audit.proofs.Unique.{stands}

module _ (h : Sessions) (table : List VersionedPut) (rising : Rises table) where
  pub same_key : (t : ℕ) (a b : List ℕ) → OnKey h table t a → OnKey h table t b → a ≡ b
  same_key t a b on_a on_b = search rules

  -- the first place on the key after a put is the next one on its key
  pub next_is : (k i : ℕ) (key : List ℕ) (found : Option ℕ) → i ≡ k + 1 → OnKey h table k key → IsFirstFrom h table i key found → IsNext h table k found
  next_is k i key None e here none = λ other on later less there.
      none later (omega (arith, less, e)) (subst (OnKey h table later) (same_key k other key on here) there)
  next_is k i key (Some f) e here first = (
    omega (arith, first.0, e),
    λ other on.
        let same : key ≡ other = same_key k key other here on in (
          subst (OnKey h table f) same first.1,
          λ later less there. first.2 later (omega (arith, less, e)) (subst (OnKey h table later) (sym same) there),
        ),
  )

  pub first_here : (k : ℕ) (key : List ℕ) → OnKey h table k key → IsFirstFrom h table k key (Some k)
  first_here k key here = (omega arith, here, λ t le there. le)

  -- a put on another key changes nothing
  pub first_kept : (k i : ℕ) (key other : List ℕ) (found : Option ℕ) → i ≡ k + 1 → OnKey h table k key → key ≢ other → IsFirstFrom h table i other found → IsFirstFrom h table k other found
  first_kept k i key other None e here differ none = λ t le there. elim (eq-or-lt_of_le le) [
    | inl same ↦ differ (same_key t key other (subst (λ (j : ℕ). OnKey h table j key) same here) there)
    | inr less ↦ none t (omega (arith, less, e)) there
  ]
  first_kept k i key other (Some f) e here differ first = (
    omega (arith, first.0, e),
    first.1,
    λ t le there. elim (eq-or-lt_of_le le) [
      | inl same ↦ absurd (differ (same_key t key other (subst (λ (j : ℕ). OnKey h table j key) same here) there))
      | inr less ↦ first.2 t (omega (arith, less, e)) there
    ],
  )

-- the put at a place, with its key
pub on_key : (h : Sessions) (table : List VersionedPut) → IsVersionTable h table → (k : ℕ) (put : VersionedPut) (key : List ℕ) (version : ℕ) → k < length table → put ≡ get_or table k put
    → PutsKey h put.name key version → OnKey h table k key
on_key h table t k put key version inside at puts =
    let own = (t.table.members put).0 (k, inside, sym at) in
    let same : version ≡ put.version = one_version h put.name put.name version put.version (key, puts.0, puts.1) own refl in
    (put.name, put.version, stands_item table k put inside at, subst (PutsKey h put.name key) same puts)

-- the put at a place has a key, whose number is at that place too
pub keyed_at : (r : Recorded) (table : List VersionedPut) (numbers : List ℕ) → IsVersionTable r.sessions table → AreKeys r table numbers → (place : ℕ) → place < length table
    → (key : List ℕ) × OnKey r.sessions table place key × (slice_get r.keys (get_or numbers place 0) ≡ Some key)
keyed_at r table numbers t are place inside =
    let none : VersionedPut = record { version = 0; name = record { client = 0; index = 0 } } in
    let put = get_or table place none in
    let is : put ≡ get_or table place put = get_or-default table place none put inside in
    let own = (t.table.members put).0 (place, inside, sym is) in
    let here : OnKey r.sessions table place own.0 = on_key r.sessions table t place put own.0 put.version inside is (own.1, own.2) in
    (own.0, here, are.each place (get_or numbers place 0) own.0 (stands numbers place 0 (omega (arith, inside, are.whole))) here)

-- an element is written at a place
pub written : {A : Type 0} (xs : List A) (k i : ℕ) (x y : A) → slice_get (slice_set xs k x) i ≡ Some y → ((i ≡ k) × (x ≡ y)) ⊎ ((i ≢ k) × (slice_get xs i ≡ Some y))
written [] k i x y e = absurd cc
written (z ∷ zs) zero zero x y e = inl (refl, let s : x ≡ y = cc in s)
written (z ∷ zs) zero (suc i) x y e = inr ((λ f. omega (arith, f)), e)
written (z ∷ zs) (suc k) zero x y e = inr ((λ f. omega (arith, f)), e)
written (z ∷ zs) (suc k) (suc i) x y e = elim (written zs k i x y e) [
  | inl w ↦ inl (ap suc w.0, w.1)
  | inr w ↦ inr ((λ f. w.0 (omega (arith, f))), w.1)
]

-- the link of a put, as it is read
pub next_at : (h : Sessions) (table : List VersionedPut) (nexts : List ℕ) → AreNexts h table nexts → (place : ℕ) → place < length table → (next : ℕ) → next ≡ get_or nexts place 0
    → LinksTo h table place next
next_at h table nexts are place inside next is = are.each place next (stands nexts place 0 (omega (arith, inside, are.whole)) ∙ ap (λ (n : ℕ). Some n) (sym is))

-- a put is linked to the next one on its key, or to the end where there is none
pub linked : (h : Sessions) (table : List VersionedPut) (place : ℕ) (key : List ℕ) (found : Option ℕ) → OnKey h table place key → IsNext h table place found → LinksTo h table place (unwrap_or found (length table))
linked h table place key None here none = ((λ less. absurd (omega (arith, less))), λ le. none)
linked h table place key (Some next) here is =
    let on = (is.1 key here).0 in
    let inside = inside_table table next on.0 on.1 on.2 in
    ((λ less. is), λ le. absurd (omega (arith, le, inside)))
