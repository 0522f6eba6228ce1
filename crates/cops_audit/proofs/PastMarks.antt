-- Marks do not fall along a past.
use Rattle.std.proofs.Common.{◌≡◌, ◌<◌, ◌≤◌, ◌+◌, ℕ, List, [], Some, refl, ◌∙◌, ap, subst, inl, inr, arith, slice_index_or, slice_get}
use Rattle.std.proofs.Math.Nat.{eq-or-lt_of_le}
use Rattle.cops_types.specs.declared.op.OpName.{OpName}
use Rattle.cops_types.specs.Histories.{Sessions}
use Rattle.cops_types.specs.Past.{Step, Past, step, more}
use Rattle.cops_types.specs.Verdicts.{AllAbove}
use Rattle.cops_audit.specs.SoFar.{HaveSourcesOrWait}
use Rattle.cops_types.specs.declared.versioned_put.VersionedPut.{VersionedPut}
use Rattle.cops_audit.specs.declared.summaries.Summary.{Summary}
use Rattle.cops_audit.specs.declared.summaries.OpPlace.TheVariants.{Put}
use Rattle.cops_audit.specs.Tables.{IsVersionTable}
use Rattle.cops_audit.specs.Summaries.{above, IsSummarized, IsSeen, summary_at}
use Rattle.cops_audit.proofs.Firsts.{versions_rise}
use Rattle.cops_audit.proofs.Marks.{mark_grows}
use Rattle.cops_audit.proofs.Summarizing.{summary_there, session_of}
use Rattle.cops_audit.proofs.PastOrder.{past_to}
use Rattle.cops_audit.proofs.Places.{same_place}
use Rattle.cops_audit.proofs.Reading.{above_version, says, seen_got, seen_put}

module _ (h : Sessions) (table : List VersionedPut) (t : IsVersionTable h table) (summaries : List (List Summary)) (summarized : IsSummarized h table summaries) (sources : HaveSourcesOrWait h) (above_all : AllAbove h) where
  -- the mark of an operation
  pub mark_is : (n : OpName) (summary : Summary) → summary_at summaries n ≡ Some summary → above summary.seen ≤ summary.mark
  mark_is n summary at = ((session_of h table summaries summarized n summary at).marks n.index summary at).bounds n.index summary (omega arith) at

  -- the mark of a put is just above its own place
  pub put_mark : (n : OpName) (summary : Summary) (place : ℕ) → summary_at summaries n ≡ Some summary → summary.seen ≡ Put place → summary.mark ≤ place + 1
  put_mark n summary place at is =
      let m = (session_of h table summaries summarized n summary at).marks n.index summary at in
      elim m.reached [
        | inl none ↦ omega (arith, none)
        | inr r ↦ elim (eq-or-lt_of_le (let le : r.0 ≤ n.index = omega (arith, r.2) in le)) [
          | inl same ↦
              let e' : r.1 ≡ summary = cc (r.3, same, at) in
              let s : above r.1.seen ≡ place + 1 = ap (λ (x : Summary). above x.seen) e' ∙ ap above is in
              omega (arith, s, r.4)
          | inr before ↦
              let other : OpName = record { client = n.client; index = r.0 } in
              let own = subst (IsSeen h table n) is (says h table t summaries summarized n summary at) in
              let not : ¬ (place < above r.1.seen) = λ less.
              let v = above_version h table t summaries summarized own.0 place n other r.1.seen own.2 (says h table t summaries summarized other r.1 r.3) less in
              versions_rise h above_all other n (record { version = v.0; own = own.0; put = own.1; has = v.1; same_client = refl; before = before; not_below = v.2 }) in
              omega (arith, not, r.4)
        ]
      ]

  step_mark : (a b : OpName) (x y : Summary) → Step h a b → summary_at summaries a ≡ Some x → summary_at summaries b ≡ Some y → x.mark ≤ y.mark
  step_mark a b x y (inl s) at_a at_b =
      let in_b : slice_get (slice_index_or summaries a.client []) b.index ≡ Some y = ap (λ (k : ℕ). slice_get (slice_index_or summaries k []) b.index) s.same_client ∙ at_b in
      let session = session_of h table summaries summarized a x at_a in
      mark_grows (slice_index_or summaries a.client []) (a.index + 1) (b.index + 1) x.mark y.mark (session.marks a.index x at_a) (session.marks b.index y in_b) (omega (arith, s.earlier))
  step_mark a b x y (inr s) at_a at_b =
      let put = seen_put h table a s.version x.seen (says h table t summaries summarized a x at_a) (s.key, s.content, s.put) in
      let got = seen_got h table b s.version y.seen (λ f. f.none a s) (says h table t summaries summarized b y at_b) (s.key, s.content, s.got) in
      let same : put.0 ≡ got.0 = same_place table t.rising put.0 got.0 a got.1 s.version put.2 got.3 in
      let high : above y.seen ≡ got.0 + 1 = ap above got.2 in
      omega (arith, put_mark a x put.0 at_a put.1, mark_is b y at_b, high, same)

  pub past_mark : (a : OpName) {b : OpName} → Past h a b → (x y : Summary) → summary_at summaries a ≡ Some x → summary_at summaries b ≡ Some y → x.mark ≤ y.mark
  past_mark a {b} (step s) x y at_a at_b = step_mark a b x y s at_a at_b
  past_mark a {b} (more {by = by} p s) x y at_a at_b =
      let there = summary_there h table summaries summarized by (past_to h a by p) in
      let first = past_mark a p x there.0 at_a there.1 in
      let last = step_mark by b there.0 y s there.1 at_b in
      omega (arith, first, last)
