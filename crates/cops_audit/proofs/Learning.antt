-- What an operation saw is recorded.
use Rattle.std.proofs.Common.{rules, ◌≡◌, ◌<◌, ◌+◌, ◌-◌, ◌^◌, ℕ, List, length, get_or, Some, sym, ◌∙◌, ap, subst, inl, inr, arith, slice_get, vec_len, Vec, Global}
use Rattle.std.specs.Prelude.{sum_by}
use Rattle.cops_types.specs.declared.op.OpName.{OpName}
use Rattle.cops_types.specs.declared.versioned_put.VersionedPut.{VersionedPut}
use Rattle.cops_audit.specs.declared.summaries.OpPlace.{OpPlace}
use Rattle.cops_audit.specs.declared.summaries.OpPlace.TheVariants.{Put, Got}
use Rattle.cops_audit.specs.declared.sweep.OpRange.{OpRange}
use Rattle.cops_audit.specs.declared.sweep.Sweep.{Sweep}
use Rattle.cops_audit.specs.Summaries.{StandsAt}
use Rattle.cops_audit.specs.Sweeps.{Counted, InSome, Learns, Raises, TakesPut}

-- there is one put at a place
pub one_put_at : (table : List VersionedPut) (i : ℕ) (p q : OpName) (v w : ℕ) → StandsAt table i p v → StandsAt table i q w → p ≡ q
one_put_at table i p q v w a b = search rules

put_place : (seen : OpPlace) (p q : ℕ) → seen ≡ Put p → seen ≡ Put q → p ≡ q
put_place seen p q a b = let e : Put p ≡ Put q = sym a ∙ b in cc

put_no_got : (seen : OpPlace) (p q : ℕ) → seen ≡ Put p → seen ≡ Got q → ⊥
put_no_got seen p q a b = let e : Put p ≡ Got q = sym a ∙ b in cc

pub learns_put : (table : List VersionedPut) (firsts : List ℕ) (floor : ℕ) (old new : Sweep) (seen : OpPlace) (place : ℕ) → seen ≡ Put place → new.counts ≡ old.counts → new.pending ≡ old.pending
    → TakesPut firsts old.newest new.newest place → Learns table firsts floor old new seen
learns_put table firsts floor old new seen place is counts pending takes = record {
  counts = λ n there. inl (subst (λ cs. Counted cs n) counts there);
  kept = λ n there. subst (λ cs. Counted cs n) (sym counts) there;
  pending = λ n there. inl (subst (λ cs. Counted cs n) counts there);
  still = λ n there. subst (λ (v : Vec OpRange Global). InSome v.items n) (sym pending) there;
  pending_counted = λ n there. inl (subst (λ (v : Vec OpRange Global). InSome v.items n) pending there);
  clients = ap length counts;
  places = takes.width;
  higher = takes.higher;
  newest = λ first other at. elim (takes.only first other at) [
    | inl was ↦ inl was
    | inr now ↦ inr (subst (λ (k : ℕ). seen ≡ Put k) now.0 is, subst (λ (k : ℕ). slice_get firsts k ≡ Some first) now.0 now.1)
  ];
  learned = record {
    put = λ other first is' at.
        let same : place ≡ other = put_place seen place other is is' in
        let l : place < get_or new.newest first 0 = takes.known first (subst (λ (k : ℕ). slice_get firsts k ≡ Some first) (sym same) at) in
        omega (arith, l, same);
    got = λ other put version is' high at. absurd (put_no_got seen place other is is');
  };
  work =
      let a : sum_by (λ k. 2 ^ 32 - k) new.counts ≡ sum_by (λ k. 2 ^ 32 - k) old.counts = ap (sum_by (λ k. 2 ^ 32 - k)) counts in
      let b : vec_len new.pending ≡ vec_len old.pending = ap (λ (v : Vec OpRange Global). vec_len v) pending in
      omega (arith, a, b);
}

pub learns_got : (table : List VersionedPut) (firsts : List ℕ) (floor : ℕ) (old new : Sweep) (seen : OpPlace) (place : ℕ) (put : OpName) (version : ℕ) → seen ≡ Got place → StandsAt table place put version
    → Raises old new put.client (put.index + 1) → Learns table firsts floor old new seen
learns_got table firsts floor old new seen place put version is stands raises = search rules
