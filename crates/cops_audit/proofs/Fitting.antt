-- Capacity for the ranges that are still to be visited.
use Rattle.std.proofs.Common.{rules, ◌≡◌, ◌<◌, ◌≤◌, ◌+◌, ℕ, zero, suc, List, [], ◌∷◌, length, get_or, true, false, refl, arith, slice_set, slice_index_or, Some, map}
use Rattle.std.specs.Prelude.{sum_by, vec_len, vec_capacity}
use Rattle.std.proofs.Math.ListN.{length-set}
use Rattle.std.proofs.lemmas.List.Sums.{sum_by-set, sum_by-cons}
use Rattle.std.proofs.lemmas.Option.{slice_get_within}
use Rattle.cops_types.specs.declared.op.OpName.{OpName}
use Rattle.cops_audit.specs.declared.summaries.Summary.{Summary}
use Rattle.cops_audit.specs.declared.sweep.Sweep.{Sweep}
use Rattle.cops_types.specs.declared.versioned_put.VersionedPut.{VersionedPut}
use Rattle.cops_audit.specs.Summaries.{summary_at}
use Rattle.cops_audit.specs.Sweeps.{AreRising, Covers, HasRoom}

-- a list that is lower at each place has the lower sum
sum_less : (xs ys : List ℕ) → length xs ≡ length ys → ((i : ℕ) → get_or xs i 0 ≤ get_or ys i 0) → sum_by (λ n. n) xs ≤ sum_by (λ n. n) ys
sum_less [] ys len each = omega arith
sum_less (x ∷ xs) [] len each = absurd (omega (arith, len))
sum_less (x ∷ xs) (y ∷ ys) len each = omega (arith, each 0, sum_less xs ys (omega (arith, len)) (λ i. each (suc i)), sum_by-cons (λ (n : ℕ). n) x xs, sum_by-cons (λ (n : ℕ). n) y ys)

-- a count is raised, within the lengths
module _ (space : ℕ) (lengths : List ℕ) (old : Sweep) (client to : ℕ) (inside : client < length old.counts) (less : get_or old.counts client 0 < to)
    (fits : to ≤ get_or lengths client 0) (room : HasRoom space lengths old) where
  still_within : (c : ℕ) → get_or (slice_set old.counts client to) c 0 ≤ get_or lengths c 0
  still_within c = search rules

  sum_rises : sum_by (λ n. n) old.counts + 1 ≤ sum_by (λ n. n) (slice_set old.counts client to)
  sum_rises = omega (arith, sum_by-set (λ (n : ℕ). n) old.counts client to 0 inside, less)

  -- there is capacity for one more range
  pub room_left : vec_len old.pending < vec_capacity old.pending
  room_left = omega (arith, room.left, sum_rises, sum_less (slice_set old.counts client to) lengths (omega (arith, length-set old.counts client to, room.width)) still_within)

-- a range is taken from those that are to be visited
pub room_popped : (space : ℕ) (lengths : List ℕ) (old new : Sweep) → new.counts ≡ old.counts → length new.newest ≡ length old.newest
    → vec_len new.pending ≤ vec_len old.pending → vec_capacity new.pending ≡ vec_capacity old.pending → HasRoom space lengths old → HasRoom space lengths new
room_popped space lengths old new counts newest len capacity room = search rules

-- the lengths of lists
pub length_at : {A : Type 0} (xs : List (List A)) (i : ℕ) → get_or (map length xs) i 0 ≡ length (get_or xs i [])
length_at [] i = refl
length_at (x ∷ xs) zero = refl
length_at (x ∷ xs) (suc i) = length_at xs i

-- an operation with a summary is in its session
pub summarized_inside : (summaries : List (List Summary)) (name : OpName) (summary : Summary) → summary_at summaries name ≡ Some summary → name.index < get_or (map length summaries) name.client 0
summarized_inside summaries name summary at = omega (arith, slice_get_within (slice_index_or summaries name.client []) name.index summary at, length_at summaries name.client)

pub covered : (table : List VersionedPut) (summaries : List (List Summary)) → AreRising table summaries → Covers (map length summaries) table
covered table summaries rising place put version stands = let there = rising.puts place put version stands in summarized_inside summaries put _ there.1

-- an error is not `Ok`
pub no_ok : {A : Type 0} → false ≡ true → A
no_ok e = absurd cc
