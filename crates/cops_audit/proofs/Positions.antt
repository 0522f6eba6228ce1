-- The places of puts, each written at the number of its put.
use Rattle.std.proofs.Common.{◌≡◌, ◌≢◌, ◌<◌, ◌+◌, ◌≤◌, ℕ, List, length, get_or, Some, sym, ◌∙◌, ap, subst, inl, inr, arith, slice_get, slice_set}
use Rattle.std.proofs.Math.Nat.{eq-or-lt_of_le}
use Rattle.std.proofs.lemmas.Option.{slice_get_within, slice_get_read, get_or_from_slice_get}
use Rattle.std.proofs.lemmas.List.{get_or-set_same, get_or-set_other, length-set}
use Rattle.cops_types.specs.declared.op.OpName.{OpName}
use Rattle.cops_types.specs.Histories.{Sessions}
use Rattle.cops_types.specs.declared.versioned_put.VersionedPut.{VersionedPut}
use Rattle.cops_audit.specs.Summaries.{StandsAt}
use Rattle.cops_audit.specs.Tables.{IsVersionTable}
use Rattle.cops_audit.proofs.Places.{same_put_at, stands_at}

-- the elements of a list in which one was written
module _ {A : Type 0} where
  set_at : (xs : List A) (i : ℕ) (x : A) → i < length xs → slice_get (slice_set xs i x) i ≡ Some x
  set_at xs i x inside = slice_get_read (slice_set xs i x) (length xs) i x (sym (length-set xs i x)) inside (sym (get_or-set_same xs i x x inside))

  set_elsewhere : (xs : List A) (i j : ℕ) (x y : A) → j ≢ i → slice_get xs j ≡ Some y → slice_get (slice_set xs i x) j ≡ Some y
  set_elsewhere xs i j x y differs e =
      slice_get_read (slice_set xs i x) (length xs) j y (sym (length-set xs i x)) (slice_get_within xs j y e)
      (sym (get_or-set_other xs i j x y differs ∙ get_or_from_slice_get xs j y y e))

-- each of the table's places below the end is at the number of its put, where the put has a number
abbrev pub ReportPlacesBelow : ℕ → List OpName → List VersionedPut → List ℕ → Type 0
ReportPlacesBelow end puts table places =
    (k number : ℕ) (put : OpName) (version : ℕ) → k < end → StandsAt table k put version → slice_get puts number ≡ Some put → slice_get places number ≡ Some k

-- each put of the table below the end has a number
abbrev pub AllNumberedBelow : ℕ → List OpName → List VersionedPut → Type 0
AllNumberedBelow end puts table = (k : ℕ) (put : OpName) (version : ℕ) → k < end → StandsAt table k put version → (number : ℕ) × (slice_get puts number ≡ Some put)

module _ (h : Sessions) (puts : List OpName) (table : List VersionedPut) (t : IsVersionTable h table) (k : ℕ) (inside : k < length table) (d : VersionedPut) (number : ℕ) (at : slice_get puts number ≡ Some (get_or table k d).name)
    (alone : (n : ℕ) → slice_get puts n ≡ Some (get_or table k d).name → n ≡ number) (places : List ℕ) (whole : length places ≡ length puts) where
  pub number_inside : number < length places
  number_inside = omega (arith, whole, slice_get_within puts number (get_or table k d).name at)

  pub reported_more : ReportPlacesBelow k puts table places → ReportPlacesBelow (k + 1) puts table (slice_set places number k)
  reported_more reported j n put version less stands named = elim (eq-or-lt_of_le (let le : j ≤ k = omega (arith, less) in le)) [
    | inl e ↦
        let same = (same_put_at table t.rising k put (get_or table k d).name version (get_or table k d).version (subst (λ (i : ℕ). StandsAt table i put version) e stands) (stands_at table k d inside)).0 in
        let is : n ≡ number = alone n (named ∙ ap Some same) in
        ap (slice_get (slice_set places number k)) is ∙ set_at places number k number_inside ∙ ap Some (sym e)
    | inr before ↦
        let q = get_or table j d in
        let there : j < length table = omega (arith, before, inside) in
        let is_q = (same_put_at table t.rising j put q.name version q.version stands (stands_at table j d there)).0 in
        let apart : n ≢ number = λ e.
        let names : put ≡ (get_or table k d).name = cc in
        t.table.once j k d before inside (sym is_q ∙ names) in
        set_elsewhere places number n k j apart (reported j n put version before stands named)
  ]

  pub all_more : AllNumberedBelow k puts table → AllNumberedBelow (k + 1) puts table
  all_more numbered j put version less stands = elim (eq-or-lt_of_le (let le : j ≤ k = omega (arith, less) in le)) [
    | inl e ↦
        let same = (same_put_at table t.rising k put (get_or table k d).name version (get_or table k d).version (subst (λ (i : ℕ). StandsAt table i put version) e stands) (stands_at table k d inside)).0 in
        (number, at ∙ ap Some (sym same))
    | inr before ↦ numbered j put version before stands
  ]
