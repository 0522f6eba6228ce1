-- A past that is built by walking causal summaries backward.
use Rattle.std.proofs.Common.{rules, ◌≡◌, ◌<◌, ◌≤◌, ◌+◌, ◌⊎◌, ℕ, List, [], ◌∷◌, ◌++◌, length, get_or, Some, refl, sym, ◌∙◌, ap, subst, inl, inr, arith, Vec, Global}
use Rattle.std.proofs.Math.Nat.{eq-or-lt_of_le}
use Rattle.cops_types.specs.declared.op.OpName.{OpName}
use Rattle.cops_types.specs.declared.versioned_put.VersionedPut.{VersionedPut}
use Rattle.cops_audit.specs.declared.summaries.Summary.{Summary}
use Rattle.cops_audit.specs.declared.summaries.OpPlace.{OpPlace}
use Rattle.cops_audit.specs.declared.summaries.OpPlace.TheVariants.{Put, Got, Missed, Sourceless}
use Rattle.cops_audit.specs.declared.sweep.OpRange.{OpRange}
use Rattle.cops_audit.specs.declared.sweep.Sweep.{Sweep}
use Rattle.cops_audit.specs.Summaries.{StandsAt, above, summary_at}
use Rattle.cops_audit.specs.Sweeps.{AreRising, Counted, Grows, InRange, InSome, IsLearned, IsSweeping, Learns, SummaryPast, SummaryStep, step, more}
use Rattle.cops_audit.proofs.Acyclic.{same_name}
use Rattle.cops_audit.proofs.Places.{inside_table}
use Rattle.cops_audit.proofs.Raising.{in_some_cases, in_some_kept, in_some_last}

pub past_joined : (table : List VersionedPut) (summaries : List (List Summary)) (a b : OpName) {c : OpName} → SummaryPast table summaries a b → SummaryPast table summaries b c → SummaryPast table summaries a c
past_joined table summaries a b p (step s) = more p s
past_joined table summaries a b p (more q s) = more (past_joined table summaries a b p q) s

pub grows_on : (table : List VersionedPut) (summaries : List (List Summary)) (a b c : Sweep) → Grows table summaries a b → Grows table summaries b c → Grows table summaries a c
grows_on table summaries a b c f g = record {
  kept = λ n there. g.kept n (f.kept n there);
  past = λ n there. elim (g.past n there) [
    | inl was ↦ f.past n was
    | inr w ↦ elim (f.past w.0 w.1) [
      | inl was ↦ inr (w.0, was, w.2)
      | inr v ↦ inr (v.0, v.1, past_joined table summaries n w.0 w.2 v.2)
    ]
  ];
}

-- what was seen is not above the table
pub above_few : (table : List VersionedPut) (summaries : List (List Summary)) → AreRising table summaries → (n : OpName) (seen : OpPlace) (mark : ℕ) → summary_at summaries n ≡ Some (record { seen = seen; mark = mark }) → above seen ≤ length table
above_few table summaries rising n (Put place) mark at = let s = rising.seen_puts n place mark at in let l : place < length table = inside_table table place n s.0 s.1 in omega (arith, l)
above_few table summaries rising n (Got place) mark at = let s = rising.seen_gets n place mark at in let l : place < length table = inside_table table place s.0 s.1 s.2 in omega (arith, l)
above_few table summaries rising n Missed mark at = omega arith
above_few table summaries rising n (Sourceless place) mark at = rising.seen_sourceless n place mark at

module _ (table : List VersionedPut) (summaries : List (List Summary)) (rising : AreRising table summaries) (firsts : List ℕ) (floor : ℕ) where
  learned_still : (old new : Sweep) (seen other : OpPlace) → Learns table firsts floor old new seen → IsLearned table firsts floor old other → IsLearned table firsts floor new other
  learned_still old new seen other learns was = search rules

  -- the summary of an operation, by what it saw
  as_seen : (n : OpName) (summary : Summary) (seen : OpPlace) → summary_at summaries n ≡ Some summary → summary.seen ≡ seen → summary_at summaries n ≡ Some (let x : Summary = record { seen = seen; mark = summary.mark } in x)
  as_seen n summary seen at is = at ∙ ap (λ (s : OpPlace). Some (let x : Summary = record { seen = s; mark = summary.mark } in x)) is

  -- one operation of a range is recorded
  pub sweep_on : (old new : Sweep) (name : OpName) (from : ℕ) (summary : Summary) → from ≤ name.index → summary_at summaries name ≡ Some summary → Learns table firsts floor old new summary.seen
      → IsSweeping table summaries firsts floor old (InRange (record { client = name.client; from = from; to = name.index + 1 }))
      → IsSweeping table summaries firsts floor new (InRange (record { client = name.client; from = from; to = name.index }))
  sweep_on old new name from summary low at learns was = record {
    clients = learns.clients ∙ was.clients;
    places = omega (arith, learns.places, was.places);
    newest = λ first place is. elim (learns.newest first place is) [
      | inl before ↦ let w = was.newest first place before in (w.0, w.1, w.2, learns.kept w.0 w.3, w.4)
      | inr now ↦
          let s = rising.seen_puts name place summary.mark (as_seen name summary (Put place) at now.0) in
          (name, s.0, s.1, learns.kept name own, now.1)
    ];
    open_counted = λ n there. learns.kept n (was.open_counted n (there.0, there.1, omega (arith, there.2)));
    pending_counted = λ n there. elim (learns.pending_counted n there) [ inl before ↦ learns.kept n (was.pending_counted n before) | inr now ↦ now ];
    learned = λ n x counted at_n high. elim (learns.pending n counted) [
      | inr pending ↦ inr (inl pending)
      | inl before ↦ elim (was.learned n x before at_n high) [
        | inl learned ↦ inl (learned_still old new summary.seen x.seen learns learned)
        | inr left ↦ elim left [
          | inl pending ↦ inr (inl (learns.still n pending))
          | inr range ↦ in_range n x at_n range
        ]
      ]
    ];
  }
    where
      own : Counted old.counts name
      own = was.open_counted name (refl, low, omega arith)

      in_range : (n : OpName) (x : Summary) → summary_at summaries n ≡ Some x → InRange (record { client = name.client; from = from; to = name.index + 1 }) n
          → IsLearned table firsts floor new x.seen ⊎ (InSome new.pending.items n ⊎ InRange (record { client = name.client; from = from; to = name.index }) n)
      in_range n x at_n range = search rules

  -- what is newly counted is in the past of the operation that was recorded
  pub sweep_grows : (old new : Sweep) (name : OpName) (summary : Summary) → summary_at summaries name ≡ Some summary → Counted old.counts name → Learns table firsts floor old new summary.seen → Grows table summaries old new
  sweep_grows old new name summary at own learns = record {
    kept = learns.kept;
    past = λ n there. elim (learns.counts n there) [
      | inl was ↦ inl was
      | inr w ↦ inr (name, own, past_of n w.0 w.1 w.2 w.3 w.4 w.5 w.6)
    ];
  }
    where
      past_of : (n : OpName) (place : ℕ) (put : OpName) (version : ℕ) → summary.seen ≡ Got place → StandsAt table place put version → n.client ≡ put.client → n.index ≤ put.index → SummaryPast table summaries n name
      past_of n place put version is stands client le =
          let source : SummaryStep table summaries put name = inr (place, version, summary.mark, stands, as_seen name summary (Got place) at is) in
          elim (eq-or-lt_of_le le) [
            | inl same ↦ step (subst (λ x. SummaryStep table summaries x name) (sym (same_name n put client same)) source)
            | inr less ↦ let there = rising.puts place put version stands in more (step (inl (client, less, _, there.1))) source
          ]

  -- nothing is left to visit in a range whose marks are not above the floor
  pub none_open : (s : Sweep) (IsOpen : OpName → Type 0) → ((n : OpName) (x : Summary) → IsOpen n → summary_at summaries n ≡ Some x → ¬ (floor < x.mark))
      → IsSweeping table summaries firsts floor s IsOpen → IsSweeping table summaries firsts floor s (λ _. ⊥)
  none_open s IsOpen low was = search rules

  -- the rest of a range, where the mark is not above the floor
  pub low_range : (name : OpName) (from : ℕ) (summary : Summary) → summary_at summaries name ≡ Some summary → summary.mark ≤ floor → (n : OpName) (x : Summary)
      → InRange (record { client = name.client; from = from; to = name.index + 1 }) n → summary_at summaries n ≡ Some x → ¬ (floor < x.mark)
  low_range name from summary at low n x range at_n high = search rules

  -- a range is taken from those that are pending
  pub popped : (old new : Sweep) (range : OpRange) → new.counts ≡ old.counts → new.newest ≡ old.newest → old.pending.items ≡ new.pending.items ++ range ∷ []
      → IsSweeping table summaries firsts floor old (λ _. ⊥) → IsSweeping table summaries firsts floor new (InRange range)
  popped old new range counts newest pending was = record {
    clients = ap length counts ∙ was.clients;
    places = let e : length new.newest ≡ length old.newest = ap length newest in omega (arith, e, was.places);
    newest = λ first place is.
        let w = was.newest first place (ap (λ (l : List ℕ). get_or l first 0) (sym newest) ∙ is) in
        (w.0, w.1, w.2, subst (λ cs. Counted cs w.0) (sym counts) w.3, w.4);
    open_counted = λ n there. now n (was.pending_counted n (subst (λ rs. InSome rs n) (sym pending) (in_some_last new.pending.items range n there)));
    pending_counted = λ n there. now n (was.pending_counted n (subst (λ rs. InSome rs n) (sym pending) (in_some_kept new.pending.items range n there)));
    learned = λ n x counted at high. elim (was.learned n x (subst (λ cs. Counted cs n) counts counted) at high) [
      | inl learned ↦ inl (record {
        put = λ place first is there. subst (λ (l : List ℕ). place < get_or l first 0) (sym newest) (learned.put place first is there);
        got = λ place put version is high there. now put (learned.got place put version is high there);
      })
      | inr left ↦ elim left [
        | inl there ↦ inr (in_some_cases new.pending.items range n (subst (λ rs. InSome rs n) pending there))
        | inr none ↦ absurd none
      ]
    ];
  }
    where
      now : (n : OpName) → Counted old.counts n → Counted new.counts n
      now n there = subst (λ cs. Counted cs n) (sym counts) there

  -- where no range is pending, nothing changes
  pub none_popped : (old : Sweep) (pending : Vec OpRange Global) → old.pending.items ≡ pending.items ++ [] → IsSweeping table summaries firsts floor old (λ _. ⊥)
      → IsSweeping table summaries firsts floor (record old { pending = pending }) (λ _. ⊥)
  none_popped old pending same was = search rules
