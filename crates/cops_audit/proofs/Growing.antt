-- Room for a history that grows.
use Rattle.std.proofs.Common.{◌≡◌, ℕ, suc, List, [], ◌∷◌, length, get_or, replicate, map, Vec, Global, refl, sym, ◌∙◌, ap, arith, false, slice_index_or}
use Rattle.std.specs.Prelude.{Result, Ok, Err, OnOk, sum_by, vec_capacity}
use Rattle.std.specs.Result.{is_err}
use Rattle.std.proofs.lemmas.List.{length-map, length-replicate}
use Rattle.std.proofs.lemmas.List.Sums.{sum_by-cons}
use Rattle.std.proofs.lemmas.Grind.{common_steps}
use Rattle.cops_types.specs.Histories.{Sessions}
use Rattle.cops_types.specs.Counts.{count_of}
use Rattle.cops_audit.specs.declared.summaries.Summary.{Summary}
use Rattle.cops_audit.specs.declared.room.Scratch.{Scratch}
use Rattle.cops_audit.specs.declared.sweep.OpRange.{OpRange}
use Rattle.cops_audit.specs.declared.sweep.Sweep.{Sweep}
use Rattle.cops_types.specs.declared.versioned_put.VersionedPut.{VersionedPut}
use Rattle.cops_audit.specs.Summaries.{IsSummarized}
use Rattle.cops_audit.specs.Rooms.{IsReady}
use Rattle.cops_audit.specs.Sweeps.{HasRoom, IsFresh}
use Rattle.cops_audit.proofs.Flooring.{zero_at}

-- what holds where it succeeds, where it is no error
pub succeeded : {T E : Type 0} (r : Result T E) (P : Type 0) → OnOk r P → false ≡ is_err r → P
succeeded (Ok x) P p e = p
succeeded (Err x) P p e = absurd cc

-- there is a summary for each operation
as_long : (h : Sessions) (table : List VersionedPut) (summaries : List (List Summary)) → IsSummarized h table summaries
    → (c : ℕ) → length (slice_index_or summaries c []) ≡ length (slice_index_or h c [])
as_long h table summaries summarized c = grind (arith, common_steps)

-- there are as many summaries as operations
sum_same : {A B : Type 0} (xs : List (List A)) (ys : List (List B)) → length xs ≡ length ys → ((i : ℕ) → length (get_or xs i []) ≡ length (get_or ys i [])) → sum_by (λ n. n) (map length xs) ≡ sum_by length ys
sum_same [] [] len each = refl
sum_same [] (y ∷ ys) len each = absurd (omega (arith, len))
sum_same (x ∷ xs) [] len each = absurd (omega (arith, len))
sum_same (x ∷ xs) (y ∷ ys) len each =
    omega (arith, each 0, sum_same xs ys (omega (arith, len)) (λ i. each (suc i)), sum_by-cons (λ (n : ℕ). n) (length x) (map length xs), sum_by-cons length y ys)

count_summaries : (h : Sessions) (table : List VersionedPut) (summaries : List (List Summary)) → IsSummarized h table summaries → sum_by (λ n. n) (map length summaries) ≡ count_of h
count_summaries h table summaries summarized = sum_same summaries h summarized.clients (as_long h table summaries summarized)

-- a sweep in which nothing is counted has capacity for the history that its room fits
module _ (h : Sessions) (room : Scratch) (ready : IsReady h room) (sweep : Sweep)
    (fresh : IsFresh (length room.sweep.counts) (length room.sweep.newest) sweep) (pending : sweep.pending ≡ room.sweep.pending) where
  pub fresh_room : (summaries : List (List Summary)) → IsSummarized h room.table.items summaries → HasRoom room.space (map length summaries) sweep
  fresh_room summaries summarized =
      let sum = count_summaries h room.table.items summaries summarized in
      let none : length sweep.pending.items ≡ 0 = ap length fresh.pending in
      let capacity : vec_capacity sweep.pending ≡ vec_capacity room.sweep.pending = ap (λ (v : Vec OpRange Global). vec_capacity v) pending in
      let newest : length sweep.newest ≡ length (replicate {A = ℕ} (length room.sweep.newest) 0) = ap length fresh.newest in
      record {
        width = ap length fresh.counts ∙ length-replicate {A = ℕ} (length room.sweep.counts) 0 ∙ ready.counts ∙ sym summarized.clients ∙ sym (length-map summaries length);
        within = λ c. let e : get_or sweep.counts c 0 ≡ get_or (replicate (length room.sweep.counts) 0) c 0 = ap (λ (l : List ℕ). get_or l c 0) fresh.counts in omega (arith, e, zero_at (length room.sweep.counts) c);
        few = omega (arith, sum, ready.enough);
        whole = omega (arith, capacity, ready.space.pending);
        places = omega (arith, newest, length-replicate {A = ℕ} (length room.sweep.newest) 0, ready.space.newest);
        left = omega (arith, sum, capacity, ready.enough, ready.space.pending, none, sweep.pending.ok.0);
      }
