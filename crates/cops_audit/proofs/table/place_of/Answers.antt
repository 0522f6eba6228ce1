use Rattle.std.proofs.Common.{◌≡◌, ◌≤◌, ◌+◌, ℕ, false, List, get_or, sym, ◌∙◌, arith, rules, inl, inr}
use Rattle.std.specs.Ordering.{nat_cmp, is_lt, ordering_index}
use Rattle.std.specs.List.Sorted.{IsNonDecreasingBy}
use Rattle.std.specs.declared.cmp.Ordering.TheVariants.{Equal}
use Rattle.std.proofs.lemmas.Cmp.{nat_cmp_total}
use Rattle.std.proofs.lemmas.Bool.{cases_lt}
use Rattle.std.proofs.lemmas.Bool.Decides.{nat_tests}
use Rattle.std.proofs.lemmas.List.Sorted.{answers_always, searchable_from_sorted}
use Rattle.cops_types.specs.declared.versioned_put.VersionedPut.{VersionedPut}
use Rattle.cops_audit.specs.Tables.{VersionsNeverFall}
use Rattle.cops_audit.proofs.table.place_of.Goals as goal

equal_reported : (a b : ℕ) → nat_cmp a b ≡ Equal → a ≡ b
equal_reported a b e = grind (arith, nat_tests)

same_equal : (a b : ℕ) → a ≡ b → nat_cmp a b ≡ Equal
same_equal a b e = grind (arith, nat_tests)

pub returns-in-Ok-clause-found : goal.returns-in-Ok-clause-found
returns-in-Ok-clause-found c = λ d. equal_reported _ _ (c.in-Ok.ensures.position (λ p. p.version) (answers_always _ _ _ (λ f a r g k. search rules)) d) ∙ c.as_u64.ensures.number

not_less : (a b : ℕ) → a ≤ b → is_lt (nat_cmp b a) ≡ false
not_less a b le = grind (arith, nat_tests)

-- versions in order can be searched
searchable : (table : List VersionedPut) (v : ℕ) → VersionsNeverFall table → IsNonDecreasingBy (λ y. ordering_index (nat_cmp y.version v)) table
searchable table v in_order = searchable_from_sorted nat_cmp_total (λ (p : VersionedPut). p.version) table v
    (λ k d low inside. let le : (get_or table k d).version ≤ (get_or table (k + 1) d).version = in_order k (k + 1) d (omega arith) inside in not_less _ _ le)

pub returns-in-Err-clause-none : goal.returns-in-Err-clause-none
returns-in-Err-clause-none c = λ k d inside same_version.
    let table = c.args.table.now in
    let v = c.as_u64.result in
    let p = c.in-Err.ensures.position (λ p. p.version) (answers_always _ _ _ (λ f a r g k. search rules)) (searchable table v c.requires) in
    let same : nat_cmp (get_or table k d).version v ≡ Equal = same_equal _ _ (same_version ∙ sym c.as_u64.ensures.number) in
    elim (cases_lt k c.in-Err.field-0) [
      | inl before ↦ let l = p.0 k d (omega arith) before in cc
      | inr after ↦ let g = p.1 k d after inside in cc
    ]
