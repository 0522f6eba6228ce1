-- Suspects that are judged one by one.
use Rattle.std.proofs.Common.{rules, ◌≡◌, ◌≢◌, ◌<◌, ◌≤◌, ◌+◌, ◌-◌, ℕ, zero, suc, List, length, get_or, replicate, Option, Some, None, Vec, Global, refl, sym, ◌∙◌, ap, subst, inl, inr, arith, slice_set, get_or-set_same, get_or-set_other, AllPairs}
use Rattle.std.specs.Option.{IfNone, IfSome}
use Rattle.std.specs.Prelude.{vec_capacity}
use Rattle.std.proofs.Math.Nat.{eq-or-lt_of_le}
use Rattle.std.proofs.Math.ListN.{length-set}
use Rattle.std.proofs.lemmas.List.{length-replicate}
use Rattle.cops_types.specs.declared.op.OpName.{OpName}
use Rattle.cops_types.specs.Faults.{IsBefore}
use Rattle.cops_types.specs.declared.versioned_put.VersionedPut.{VersionedPut}
use Rattle.cops_audit.specs.declared.summaries.Summary.{Summary}
use Rattle.cops_audit.specs.declared.sweep.OpRange.{OpRange}
use Rattle.cops_audit.specs.declared.sweep.Sweep.{Sweep}
use Rattle.cops_audit.specs.declared.window.Suspect.{Suspect}
use Rattle.cops_audit.specs.Summaries.{summary_at}
use Rattle.cops_audit.specs.Sweeps.{Counted, HasRoom, IsAbout, IsFresh, IsSweeping, more}
use Rattle.cops_audit.specs.Floors.{AreFloors, IsAfter, IsSummarizedSuspect}
use Rattle.cops_audit.proofs.Closing.{none_in_nothing}
use Rattle.cops_audit.proofs.Collect.{get_or-default}

-- the floors so far, from the last suspect down
pub record FloorsFrom (suspects : List Suspect) (floors : List ℕ) (i floor : ℕ) : Type 0 where
  pub whole : length floors ≡ length suspects
  pub next : i < length suspects → floor ≡ get_or floors i 0
  pub low : (k : ℕ) (d : Suspect) → i ≤ k → k < length suspects → get_or floors k 0 ≤ (get_or suspects k d).from
  pub rising : (k : ℕ) (d : Suspect) → i ≤ k → k + 1 < length suspects → (get_or suspects k d).op.client ≡ (get_or suspects (k + 1) d).op.client → get_or floors k 0 ≤ get_or floors (k + 1) 0

pub one_floor_more : (suspects : List Suspect) (floors : List ℕ) (i floor k x : ℕ) (e : Suspect) → i ≡ k + 1 → k < length suspects → FloorsFrom suspects floors i floor → x ≤ (get_or suspects k e).from
    → (k + 1 < length suspects → ((d : Suspect) → (get_or suspects k d).op.client ≡ (get_or suspects (k + 1) d).op.client) → x ≤ floor) → FloorsFrom suspects (slice_set floors k x) k x
one_floor_more suspects floors i floor k x e next inside was low high = record {
  whole = length-set floors k x ∙ was.whole;
  next = λ _. sym here;
  low = λ j d le in_j. elim (eq-or-lt_of_le le) [
    | inl same ↦
        let a : get_or (slice_set floors k x) j 0 ≡ get_or (slice_set floors k x) k 0 = ap (λ (n : ℕ). get_or (slice_set floors k x) n 0) (sym same) in
        let b : (get_or suspects j d).from ≡ (get_or suspects k e).from = ap (λ (n : ℕ). (get_or suspects n d).from) (sym same) ∙ ap (λ (s : Suspect). s.from) (get_or-default suspects k d e inside) in
        omega (arith, a, b, here, low)
    | inr less ↦ let a = other j (λ s. omega (arith, s, less)) in omega (arith, a, was.low j d (omega (arith, less, next)) in_j)
  ];
  rising = λ j d le in_j same_client. elim (eq-or-lt_of_le le) [
    | inl same ↦
        let a : get_or (slice_set floors k x) j 0 ≡ get_or (slice_set floors k x) k 0 = ap (λ (n : ℕ). get_or (slice_set floors k x) n 0) (sym same) in
        let b = other (j + 1) (λ s. omega (arith, s, same)) in
        let c : get_or floors (j + 1) 0 ≡ get_or floors i 0 = ap (λ (n : ℕ). get_or floors n 0) (let n : j + 1 ≡ i = omega (arith, same, next) in n) in
        let in_k : k + 1 < length suspects = omega (arith, in_j, same) in
        let clients : (f : Suspect) → (get_or suspects k f).op.client ≡ (get_or suspects (k + 1) f).op.client = λ f.
        ap (λ (s : Suspect). s.op.client) (get_or-default suspects k f d inside) ∙ ap (λ (n : ℕ). (get_or suspects n d).op.client) same ∙ same_client
        ∙ ap (λ (n : ℕ). (get_or suspects (n + 1) d).op.client) (sym same) ∙ ap (λ (s : Suspect). s.op.client) (get_or-default suspects (k + 1) d f in_k) in
        omega (arith, a, b, c, here, high in_k clients, was.next (omega (arith, in_k, next)))
    | inr less ↦
        let a = other j (λ s. omega (arith, s, less)) in
        let b = other (j + 1) (λ s. omega (arith, s, less)) in
        omega (arith, a, b, was.rising j d (omega (arith, less, next)) in_j same_client)
  ];
}
  where
    here : get_or (slice_set floors k x) k 0 ≡ x
    here = get_or-set_same floors k x 0 (omega (arith, inside, was.whole))

    other : (j : ℕ) → j ≢ k → get_or (slice_set floors k x) j 0 ≡ get_or floors j 0
    other j differs = get_or-set_other floors k j x 0 differs

pub zero_at : (n i : ℕ) → ◌≡◌ {A = ℕ} (get_or (replicate n 0) i 0) 0
zero_at zero i = refl
zero_at (suc n) zero = refl
zero_at (suc n) (suc i) = zero_at n i

module _ (table : List VersionedPut) (summaries : List (List Summary)) (firsts : List ℕ) (floor : ℕ) where
  nothing_counted : (clients puts : ℕ) (s : Sweep) → IsFresh clients puts s → (n : OpName) → ¬ Counted s.counts n
  nothing_counted clients puts s fresh n there =
      let e : get_or s.counts n.client 0 ≡ get_or (replicate clients 0) n.client 0 = ap (λ (l : List ℕ). get_or l n.client 0) fresh.counts in
      omega (arith, there, e, zero_at clients n.client)

  -- a sweep in which nothing is counted
  pub fresh_sweeping : (clients puts : ℕ) (s : Sweep) → IsFresh clients puts s → clients ≡ length summaries → length table ≤ puts → IsSweeping table summaries firsts floor s (λ _. ⊥)
  fresh_sweeping clients puts s fresh c p = record {
    clients = ap length fresh.counts ∙ length-replicate {A = ℕ} clients 0 ∙ c;
    places = let e : length s.newest ≡ length (replicate {A = ℕ} puts 0) = ap length fresh.newest in omega (arith, e, length-replicate {A = ℕ} puts 0, p);
    newest = λ first place is.
        let e : get_or s.newest first 0 ≡ get_or (replicate puts 0) first 0 = ap (λ (l : List ℕ). get_or l first 0) fresh.newest in
        absurd (omega (arith, is, e, zero_at puts first));
    open_counted = λ n there. absurd there;
    pending_counted = λ n there. absurd (none_in_nothing s.pending.items n fresh.pending there);
    learned = λ n x there at high. absurd (nothing_counted clients puts s fresh n there);
  }

  pub fresh_about : (clients puts : ℕ) (s : Sweep) (op : OpName) → IsFresh clients puts s → IsAbout table summaries s op
  fresh_about clients puts s op fresh n there = absurd (nothing_counted clients puts s fresh n there)

-- what a sweep knows with a floor it knows with a higher floor
pub higher_floor : (table : List VersionedPut) (summaries : List (List Summary)) (firsts : List ℕ) (low high : ℕ) (s : Sweep) → low ≤ high → IsSweeping table summaries firsts low s (λ _. ⊥) → IsSweeping table summaries firsts high s (λ _. ⊥)
higher_floor table summaries firsts low high s le was = search rules

-- what is in the past of an operation is in the past of the later ones of its session
pub later_about : (table : List VersionedPut) (summaries : List (List Summary)) (s : Sweep) (a b : OpName) (summary : Summary) → a.client ≡ b.client → a.index < b.index → summary_at summaries b ≡ Some summary → IsAbout table summaries s a → IsAbout table summaries s b
later_about table summaries s a b summary same less at about n there = more (about n there) (inl (same, less, summary, at))

-- the next suspect of a client, where the sweep has come as far as the one before
module _ (table : List VersionedPut) (summaries : List (List Summary)) (firsts : List ℕ) (suspects : List Suspect) (floors : List ℕ) (are : AreFloors suspects floors) (in_order : AllPairs (λ s t. IsBefore s.op t.op) suspects)
    (k : ℕ) (inside : k < length suspects) (some : 0 < k) (same : (d : Suspect) → (get_or suspects (k - 1) d).op.client ≡ (get_or suspects k d).op.client) (s : Sweep)
    (after : IsAfter table summaries firsts suspects floors k s) where
  before_k : k - 1 + 1 ≡ k
  before_k = omega (arith, some)

  pub next_sweeping : (d : Suspect) → IsSweeping table summaries firsts (get_or floors k 0) s (λ _. ⊥)
  next_sweeping d =
      let at_k : get_or floors (k - 1 + 1) 0 ≡ get_or floors k 0 = ap (λ (j : ℕ). get_or floors j 0) before_k in
      let clients : (get_or suspects (k - 1) d).op.client ≡ (get_or suspects (k - 1 + 1) d).op.client = same d ∙ ap (λ (j : ℕ). (get_or suspects j d).op.client) (sym before_k) in
      let le = are.rising (k - 1) d (omega (arith, before_k, inside)) clients in
      higher_floor table summaries firsts (get_or floors (k - 1) 0) (get_or floors k 0) s (omega (arith, le, at_k)) (after.sweeping (k - 1) before_k)

  pub next_about : (d : Suspect) → IsSummarizedSuspect summaries (get_or suspects k d) → IsAbout table summaries s (get_or suspects k d).op
  next_about d summarized =
      let a = (get_or suspects (k - 1) d).op in
      let b = (get_or suspects k d).op in
      let less : IsBefore a b = in_order (k - 1) k d (omega (arith, some)) inside in
      later_about table summaries s a b summarized.summary (same d) (index_less a b (same d) less) summarized.at (after.about (k - 1) d before_k)
    where
      index_less : (a b : OpName) → a.client ≡ b.client → IsBefore a b → a.index < b.index
      index_less a b e (inl less) = absurd (omega (arith, e, less))
      index_less a b e (inr less) = less.1

pub some_then : {A : Type 0} {P Q : A → Type 0} (o : Option A) → IfSome o P → ((x : A) → P x → Q x) → IfSome o Q
some_then None p f = tt
some_then (Some x) p f = f x p

pub some_at : {A : Type 0} (P : A → Type 0) (o : Option A) (x : A) → o ≡ Some x → IfSome o P → P x
some_at {A} P None x e p = absurd cc
some_at {A} P (Some y) x e p = let same : y ≡ x = cc in subst P same p

pub none_at : {A : Type 0} (P : Type 0) (o : Option A) → o ≡ None → IfNone o P → P
none_at P None e p = p
none_at P (Some y) e p = absurd cc

-- a restarted sweep has capacity
pub room_again : (space : ℕ) (lengths : List ℕ) (clients puts : ℕ) (old new : Sweep) → clients ≡ length old.counts → puts ≡ length old.newest
    → IsFresh clients puts new → new.pending ≡ old.pending → HasRoom space lengths old → HasRoom space lengths new
room_again space lengths clients puts old new same width fresh pending room =
    let none : length new.pending.items ≡ 0 = ap length fresh.pending in
    let capacity : vec_capacity new.pending ≡ vec_capacity old.pending = ap (λ (v : Vec OpRange Global). vec_capacity v) pending in
    record {
      width = ap length fresh.counts ∙ length-replicate {A = ℕ} clients 0 ∙ same ∙ room.width;
      within = λ c. let e : get_or new.counts c 0 ≡ get_or (replicate clients 0) c 0 = ap (λ (l : List ℕ). get_or l c 0) fresh.counts in omega (arith, e, zero_at clients c);
      few = room.few;
      whole = omega (arith, room.whole, capacity);
      places = let e : length new.newest ≡ length (replicate {A = ℕ} puts 0) = ap length fresh.newest in omega (arith, e, length-replicate {A = ℕ} puts 0, width, room.places);
      left = omega (arith, room.few, room.whole, capacity, none, new.pending.ok.0);
    }
