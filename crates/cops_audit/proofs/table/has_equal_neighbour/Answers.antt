use Rattle.std.proofs.Common.{◌≡◌, ◌+◌, ◌-◌, ◌<◌, ℕ, List, length, eqb, true, arith, ap, sym, ◌∙◌, get_or, inl, inr, refl}
use Rattle.std.proofs.lemmas.Bool.{eqb-true}
use Rattle.cops_types.specs.declared.versioned_put.VersionedPut.{VersionedPut}
use Rattle.cops_audit.proofs.Collect.{item_at}
use Rattle.cops_audit.proofs.table.has_equal_neighbour.Goals as goal

-- the versions that were compared, at their places
same_version : (table : List VersionedPut) (i j : ℕ) (x y : VersionedPut) → i < length table → j < length table → x ≡ get_or table i x → y ≡ get_or table j y → eqb x.version y.version ≡ true
    → (d : VersionedPut) → (get_or table i d).version ≡ (get_or table j d).version
same_version table i j x y in_i in_j at_i at_j equal d =
    ap (λ (p : VersionedPut). p.version) (item_at table i x d in_i at_i) ∙ eqb-true _ _ equal ∙ ap (λ (p : VersionedPut). p.version) (sym (item_at table j y d in_j at_j))

pub returns-then-eq : goal.returns-then-eq
returns-then-eq c = (
  λ _. (c.args.place - 1, omega arith, inl (omega arith), same_version c.args.table.now (c.args.place - 1) c.args.place _ _ (omega arith) c.requires c.index-table-place-then-place-gt0.is c.index-table-place.is (sym c.eq.ensures ∙ c.if-eq.true)),
  λ _. refl,
)

pub returns-then-eq-2 : goal.returns-then-eq-2
returns-then-eq-2 c = (
  λ _. (c.args.place + 1, omega arith, inr refl, same_version c.args.table.now (c.args.place + 1) c.args.place _ _ (omega arith) c.requires c.index-table-place-then-place-table.is c.index-table-place.is (sym c.eq-then-place-table.ensures ∙ c.if-eq-2.true)),
  λ _. refl,
)
