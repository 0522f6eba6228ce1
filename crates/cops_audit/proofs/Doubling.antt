-- The puts that have the version of another put, by their numbers.
use Rattle.std.proofs.Common.{◌≡◌, ◌<◌, ◌+◌, ◌↔◌, ℕ, List, Bool, Some, true, false, length, slice_get, slice_index_or, slice_set, get_or-set_same, get_or-set_other, sym, ap, subst, ◌∙◌, inl, inr, arith}
use Rattle.std.proofs.lemmas.Bool.{cases_eq}
use Rattle.std.proofs.lemmas.Option.{slice_get_within}
use Rattle.cops_types.specs.declared.op.OpName.{OpName}
use Rattle.cops_types.specs.declared.versioned_put.VersionedPut.{VersionedPut}
use Rattle.cops_types.specs.Recorded.{Recorded}
use Rattle.cops_types.specs.VersionOrder.{IsDoubled}
use Rattle.cops_audit.specs.Tables.{AreDoubledPuts, ReportDoubled}
use Rattle.cops_audit.proofs.Collect.{get_or-default}

-- one of the first k puts has this name
abbrev pub NamedBelow : List VersionedPut → ℕ → OpName → Type 0
NamedBelow xs k name = (i : ℕ) × (i < k) × ((d : VersionedPut) → (slice_index_or xs i d).name ≡ name)

-- which of the names at these numbers are among the first k puts
abbrev pub ReportBelow : List OpName → List VersionedPut → ℕ → List Bool → Type 0
ReportBelow puts xs k flags = (n : ℕ) (name : OpName) → slice_get puts n ≡ Some name → (slice_index_or flags n false ≡ true) ↔ NamedBelow xs k name

module _ (puts : List OpName) (xs : List VersionedPut) (k : ℕ) (inside : k < length xs) (x : VersionedPut) (is : x ≡ slice_index_or xs k x) (m : ℕ) (at : slice_get puts m ≡ Some x.name)
    (only : (n : ℕ) → slice_get puts n ≡ Some x.name → n ≡ m) (flags : List Bool) (len : length flags ≡ length puts) (reported : ReportBelow puts xs k flags) where
  named_here : (d : VersionedPut) → (slice_index_or xs k d).name ≡ x.name
  named_here d = ap (λ (p : VersionedPut). p.name) (get_or-default xs k d x inside ∙ sym is)

  pub report_more : ReportBelow puts xs (k + 1) (slice_set flags m true)
  report_more n name named = elim (cases_eq n m) [
    | inl same ↦
        let one : x.name ≡ name = cc (at, same, named) in
        let set : slice_index_or (slice_set flags m true) n false ≡ true = ap (λ (j : ℕ). slice_index_or (slice_set flags m true) j false) same
        ∙ get_or-set_same flags m true false (omega (arith, slice_get_within puts m x.name at, len)) in
        ((λ _. (k, omega arith, λ d. named_here d ∙ one)), (λ _. set))
    | inr differs ↦
        let kept = get_or-set_other flags m n true false differs in
        let before = reported n name named in (
          (λ f. let w = before.0 (sym kept ∙ f) in (w.0, omega (arith, w.1), w.2)),
          (λ w. elim (cases_eq w.0 k) [
            | inl last ↦
                let one : x.name ≡ name = sym (named_here x) ∙ ap (λ (j : ℕ). (slice_index_or xs j x).name) (sym last) ∙ w.2 x in
                absurd (differs (only n (named ∙ ap (λ (q : OpName). Some q) (sym one))))
            | inr earlier ↦ kept ∙ before.1 (w.0, omega (arith, w.1, earlier), w.2)
          ]),
        )
  ]

-- after the last put, all doubled puts are marked
pub report_all : (r : Recorded) (xs : List VersionedPut) (k : ℕ) (flags : List Bool) → k ≡ length xs → AreDoubledPuts r.sessions xs → length flags ≡ length r.puts → ReportBelow r.puts xs k flags
    → ReportDoubled r flags
report_all r xs k flags whole are len reported = record {
  whole = len;
  each = λ number put at.
      let t = reported number put at in (
        (λ f.
            let w = t.0 f in
            let none : VersionedPut = record { version = 0; name = put } in
            let p = slice_index_or xs w.0 none in
            let inside : w.0 < length xs = omega (arith, w.1, whole) in
            subst (IsDoubled r.sessions) (w.2 none) ((are.members p).0 (w.0, inside, get_or-default xs w.0 p none inside)).1),
        (λ doubled.
            let p : VersionedPut = record { version = doubled.version; name = put } in
            let there = (are.members p).1 (doubled.put, doubled) in
            t.1 (there.0, omega (arith, there.1, whole), λ d. ap (λ (q : VersionedPut). q.name) (get_or-default xs there.0 d p there.1 ∙ there.2))),
      );
}
