-- A sweep that has nothing left to visit has counted the past above its floor.
use Rattle.std.proofs.Common.{rules, ◌≡◌, ◌<◌, ◌≤◌, ◌+◌, ℕ, List, [], ◌∷◌, length, get_or, Some, refl, sym, ◌∙◌, ap, subst, inl, inr, arith, slice_get, slice_index_or}
use Rattle.cops_types.specs.declared.op.OpName.{OpName}
use Rattle.cops_types.specs.declared.versioned_put.VersionedPut.{VersionedPut}
use Rattle.cops_audit.specs.declared.summaries.Summary.{Summary}
use Rattle.cops_audit.specs.declared.summaries.OpPlace.{OpPlace}
use Rattle.cops_audit.specs.declared.summaries.OpPlace.TheVariants.{Put, Got}
use Rattle.cops_audit.specs.declared.sweep.OpRange.{OpRange}
use Rattle.cops_audit.specs.declared.sweep.Sweep.{Sweep}
use Rattle.cops_audit.specs.Summaries.{above, StandsAt, summary_at}
use Rattle.cops_audit.specs.Sweeps.{AreRising, Counted, Grows, InSome, IsAbout, IsNewestIn, IsSweeping, NoneFrom, SummaryPast, SummaryStep, Raises, step, more}
use Rattle.cops_audit.proofs.Marks.{mark_grows}
use Rattle.cops_audit.proofs.Sweeping.{past_joined}

pub none_in_nothing : (ranges : List OpRange) (n : OpName) → ranges ≡ [] → ¬ InSome ranges n
none_in_nothing [] n e w = omega (arith, w.1.1)
none_in_nothing (r ∷ rs) n e w = absurd cc

module _ (table : List VersionedPut) (summaries : List (List Summary)) (rising : AreRising table summaries) where
  pub own_mark : (n : OpName) (summary : Summary) → summary_at summaries n ≡ Some summary → above summary.seen ≤ summary.mark
  own_mark n summary at = (rising.marks n.client n.index summary at).bounds n.index summary (omega arith) at

  same_mark : (n : OpName) (x : Summary) (seen : OpPlace) (mark : ℕ) → summary_at summaries n ≡ Some x → summary_at summaries n ≡ Some (let y : Summary = record { seen = seen; mark = mark } in y) → x.mark ≡ mark
  same_mark n x seen mark a b = search rules

  summary_step_mark : (a b : OpName) (x y : Summary) → SummaryStep table summaries a b → summary_at summaries a ≡ Some x → summary_at summaries b ≡ Some y → x.mark ≤ y.mark
  summary_step_mark a b x y (inl s) at_a at_b =
      let in_b : slice_get (slice_index_or summaries a.client []) b.index ≡ Some y = ap (λ (k : ℕ). slice_get (slice_index_or summaries k []) b.index) s.0 ∙ at_b in
      mark_grows (slice_index_or summaries a.client []) (a.index + 1) (b.index + 1) x.mark y.mark (rising.marks a.client a.index x at_a) (rising.marks a.client b.index y in_b) (omega (arith, s.1))
  summary_step_mark a b x y (inr s) at_a at_b =
      let put = rising.puts s.0 a s.1 s.3 in
      let x_mark : x.mark ≡ put.0 = same_mark a x (Put s.0) put.0 at_a put.1 in
      let y_mark : y.mark ≡ s.2 = same_mark b y (Got s.0) s.2 at_b s.4 in
      let high = own_mark b (record { seen = Got s.0; mark = s.2 }) s.4 in
      omega (arith, x_mark, y_mark, high, put.2)

  -- the operation to which a step leads has a summary
  step_summarized : (a b : OpName) → SummaryStep table summaries a b → (summary : Summary) × (summary_at summaries b ≡ Some summary)
  step_summarized a b (inl s) = (s.2, s.3)
  step_summarized a b (inr s) = (_, s.4)

  past_summarized : (a b : OpName) → SummaryPast table summaries a b → (summary : Summary) × (summary_at summaries b ≡ Some summary)
  past_summarized a b (step s) = step_summarized a b s
  past_summarized a b (more {by = by} p s) = step_summarized by b s

  pub summary_past_mark : (a : OpName) {b : OpName} → SummaryPast table summaries a b → (x y : Summary) → summary_at summaries a ≡ Some x → summary_at summaries b ≡ Some y → x.mark ≤ y.mark
  summary_past_mark a {b} (step s) x y at_a at_b = summary_step_mark a b x y s at_a at_b
  summary_past_mark a {b} (more {by = by} p s) x y at_a at_b =
      let there = past_summarized a by p in
      let first = summary_past_mark a p x there.0 at_a there.1 in
      let last = summary_step_mark by b there.0 y s there.1 at_b in
      omega (arith, first, last)

  module _ (firsts : List ℕ) (floor : ℕ) (s : Sweep) (sweeping : IsSweeping table summaries firsts floor s (λ _. ⊥)) (empty : s.pending.items ≡ []) where
    closed_step : (a b : OpName) (x : Summary) → SummaryStep table summaries a b → Counted s.counts b → summary_at summaries a ≡ Some x → floor < x.mark → Counted s.counts a
    closed_step a b x (inl e) there at high =
        let same : get_or s.counts a.client 0 ≡ get_or s.counts b.client 0 = ap (λ (k : ℕ). get_or s.counts k 0) e.0 in
        omega (arith, there, e.1, same)
    closed_step a b x (inr e) there at high =
        let le = summary_step_mark a b x (record { seen = Got e.0; mark = e.2 }) (inr e) at e.4 in
        let put = rising.puts e.0 a e.1 e.3 in
        let own : x.mark ≡ put.0 = same_mark a x (Put e.0) put.0 at put.1 in
        elim (sweeping.learned b (record { seen = Got e.0; mark = e.2 }) there e.4 (omega (arith, le, high))) [
          | inl learned ↦ learned.got e.0 a e.1 refl (omega (arith, own, put.2, high)) e.3
          | inr left ↦ elim left [ inl pending ↦ absurd (none_in_nothing s.pending.items b empty pending) | inr none ↦ absurd none ]
        ]

    -- what is in the past of what is counted, above the floor, is counted
    pub closed : (a : OpName) {b : OpName} → SummaryPast table summaries a b → (x : Summary) → Counted s.counts b → summary_at summaries a ≡ Some x → floor < x.mark → Counted s.counts a
    closed a {b} (step e) x there at high = closed_step a b x e there at high
    closed a {b} (more {by = by} p e) x there at high =
        let by_summary = past_summarized a by p in
        let le = summary_past_mark a p x by_summary.0 at by_summary.1 in
        closed a p x (closed_step by b by_summary.0 e there by_summary.1 (omega (arith, le, high))) at high

    module _ (op : OpName) (from : ℕ) (low : floor ≤ from) (own : (n : OpName) → n.client ≡ op.client → n.index < op.index → Counted s.counts n)
        (source : (place mark : ℕ) → summary_at summaries op ≡ Some (let y : Summary = record { seen = Got place; mark = mark } in y) → place < from) where
      -- a put at or after the place, in the past of the operation, is counted
      pub put_counted : (place : ℕ) (put : OpName) (version : ℕ) → StandsAt table place put version → from ≤ place → SummaryPast table summaries put op → Counted s.counts put
      put_counted place put version stands le past =
          let summary = rising.puts place put version stands in
          let high = own_mark put (record { seen = Put place; mark = summary.0 }) summary.1 in
          by_last summary.0 summary.1 (omega (arith, high, le)) past
        where
          by_last : (mark : ℕ) → summary_at summaries put ≡ Some (let y : Summary = record { seen = Put place; mark = mark } in y) → from < mark → SummaryPast table summaries put op → Counted s.counts put
          by_last mark at high (step (inl e)) = own put e.0 e.1
          by_last mark at high (step (inr e)) =
              let far = rising.puts e.0 put e.1 e.3 in
              let same = same_mark put (record { seen = Put place; mark = mark }) (Put e.0) far.0 at far.1 in
              absurd (omega (arith, source e.0 e.2 e.4, far.2, same, high))
          by_last mark at high (more {by = by} p (inl e)) = closed put p (record { seen = Put place; mark = mark }) (own by e.0 e.1) at (omega (arith, low, high))
          by_last mark at high (more {by = by} p (inr e)) =
              let far = rising.puts e.0 by e.1 e.3 in
              let le' = summary_past_mark put p (record { seen = Put place; mark = mark }) (record { seen = Put e.0; mark = far.0 }) at far.1 in
              absurd (omega (arith, source e.0 e.2 e.4, far.2, le', high))

      -- so the newest put on its key is recorded
      pub known_place : (place first : ℕ) (put : OpName) (version : ℕ) → StandsAt table place put version → slice_get firsts place ≡ Some first → from ≤ place → SummaryPast table summaries put op → place < get_or s.newest first 0
      known_place place first put version stands has le past =
          let summary = rising.puts place put version stands in
          let high = own_mark put (record { seen = Put place; mark = summary.0 }) summary.1 in
          elim (sweeping.learned put (record { seen = Put place; mark = summary.0 }) (put_counted place put version stands le past) summary.1 (omega (arith, high, le, low))) [
            | inl learned ↦ learned.put place first refl has
            | inr left ↦ elim left [ inl pending ↦ absurd (none_in_nothing s.pending.items put empty pending) | inr none ↦ absurd none ]
          ]

      pub none_from : (first : ℕ) → get_or s.newest first 0 ≤ from → NoneFrom table summaries firsts op first from
      none_from first little place put version stands has le past = omega (arith, known_place place first put version stands has le past, little, le)

      pub newest_in : (first place : ℕ) → get_or s.newest first 0 ≡ place + 1 → from ≤ place → IsAbout table summaries s op → IsNewestIn table summaries firsts op first place
      newest_in first place is le about =
          let w = sweeping.newest first place is in
          record {
            put = w.0;
            version = w.1;
            stands = w.2;
            has_first = w.4;
            past = about w.0 w.3;
            newest = λ other q v stands has less past. omega (arith, known_place other first q v stands has (omega (arith, le, less)) past, is, less);
          }

-- a sweep that is raised to an operation of its session
module _ (table : List VersionedPut) (summaries : List (List Summary)) (firsts : List ℕ) (floor : ℕ) (old new : Sweep) (op : OpName) (raises : Raises old new op.client op.index) where
  pub raised_sweeping : IsSweeping table summaries firsts floor old (λ _. ⊥) → IsSweeping table summaries firsts floor new (λ _. ⊥)
  raised_sweeping was = record {
    clients = raises.width ∙ was.clients;
    places = let e : length new.newest ≡ length old.newest = ap length raises.newest in omega (arith, e, was.places);
    newest = λ first place is.
        let w = was.newest first place (ap (λ (l : List ℕ). get_or l first 0) (sym raises.newest) ∙ is) in
        (w.0, w.1, w.2, raises.kept w.0 w.3, w.4);
    open_counted = λ n there. absurd there;
    pending_counted = λ n there. elim (raises.pending_counted n there) [ inl before ↦ raises.kept n (was.pending_counted n before) | inr now ↦ now ];
    learned = λ n x counted at high. elim (raises.pending n counted) [
      | inr pending ↦ inr (inl pending)
      | inl before ↦ elim (was.learned n x before at high) [
        | inl learned ↦ inl (record {
          put = λ place first is has. subst (λ (l : List ℕ). place < get_or l first 0) (sym raises.newest) (learned.put place first is has);
          got = λ place put version is high stands. raises.kept put (learned.got place put version is high stands);
        })
        | inr left ↦ elim left [ inl pending ↦ inr (inl (raises.still n pending)) | inr none ↦ absurd none ]
      ]
    ];
  }

  pub raised_about : (summary : Summary) → summary_at summaries op ≡ Some summary → IsAbout table summaries old op → IsAbout table summaries new op
  raised_about summary at was n there = elim (raises.counts n there) [
    | inl before ↦ was n before
    | inr now ↦ step (inl (now.0, now.1, summary, at))
  ]

pub grown_about : (table : List VersionedPut) (summaries : List (List Summary)) (old new : Sweep) (op : OpName) → Grows table summaries old new → IsAbout table summaries old op → IsAbout table summaries new op
grown_about table summaries old new op grows was n there = elim (grows.past n there) [
  | inl before ↦ was n before
  | inr w ↦ past_joined table summaries n w.0 w.2 (was w.0 w.1)
]
