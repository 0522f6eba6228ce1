-- Gets that are not suspects: no put in their past is newer.
use Rattle.std.proofs.Common.{◌≡◌, ◌<◌, ◌≤◌, ◌+◌, ℕ, List, Some, None, Option, sym, ◌∙◌, ap, inl, inr, arith}
use Rattle.std.specs.Option.{IfNone}
use Rattle.cops_types.specs.declared.op.OpName.{OpName}
use Rattle.cops_types.specs.Histories.{Sessions, PutsVersion}
use Rattle.cops_types.specs.Faults.{IsNewer}
use Rattle.cops_types.specs.Verdicts.{AllAbove}
use Rattle.cops_audit.specs.SoFar.{HaveSourcesOrWait}
use Rattle.cops_types.specs.declared.versioned_put.VersionedPut.{VersionedPut}
use Rattle.cops_audit.specs.declared.summaries.Summary.{Summary}
use Rattle.cops_audit.specs.Tables.{IsPutTable, IsVersionTable}
use Rattle.cops_audit.specs.Summaries.{above, IsSummarized, StandsAt, summary_at}
use Rattle.cops_audit.specs.Windows.{NoneWithin}
use Rattle.cops_audit.proofs.Summarizing.{summary_there}
use Rattle.cops_audit.proofs.PastMarks.{mark_is, past_mark}
use Rattle.cops_audit.proofs.Places.{place_of_put, same_place}
use Rattle.cops_audit.proofs.Reading.{says, seen_put}
use Rattle.cops_audit.proofs.Unique.{stands}

-- the place of a put
pub stands_for : (h : Sessions) (table : List VersionedPut) → IsPutTable h table → (p : OpName) (v : ℕ) → PutsVersion h p v → (place : ℕ) × StandsAt table place p v
stands_for h table t p v put =
    let d : VersionedPut = record { version = v; name = p } in
    let at = place_of_put h table t p v put in
    (at.0, stands table at.0 d at.1 ∙ ap (λ (x : VersionedPut). Some x) (at.2 d))

pub none_then : {A P Q : Type 0} (o : Option A) → IfNone o P → (P → Q) → IfNone o Q
none_then None p f = f p
none_then (Some x) p f = tt

module _ (h : Sessions) (table : List VersionedPut) (t : IsVersionTable h table) (summaries : List (List Summary)) (summarized : IsSummarized h table summaries) (sources : HaveSourcesOrWait h) (above_all : AllAbove h) (op : OpName) where
  -- a put in the past of an operation is below its mark
  pub below_mark : (summary : Summary) → summary_at summaries op ≡ Some summary → (q : OpName) (w : ℕ) (f : IsNewer h op q w) (place : ℕ) → StandsAt table place q w → place < summary.mark
  below_mark summary at q w f place stands_q =
      let there = summary_there h table summaries summarized q (_, f.put.1) in
      let put = seen_put h table q w there.0.seen (says h table t summaries summarized q there.0 there.1) (f.key, f.put.0, f.put.1) in
      let same : put.0 ≡ place = same_place table t.rising put.0 place q q w put.2 stands_q in
      let high : above there.0.seen ≡ put.0 + 1 = ap above put.1 in
      let own : above there.0.seen ≤ there.0.mark = mark_is h table t summaries summarized sources above_all q there.0 there.1 in
      let le : there.0.mark ≤ summary.mark = past_mark h table t summaries summarized sources above_all q f.past there.0 summary there.1 at in
      omega (arith, same, high, own, le)

  pub clear : (summary : Summary) → summary_at summaries op ≡ Some summary → NoneWithin h table op summary.mark → (q : OpName) (w : ℕ) → ¬ IsNewer h op q w
  clear summary at none q w f =
      let place = stands_for h table t.table q w (f.key, f.put.0, f.put.1) in
      omega (arith, below_mark summary at q w f place.0 place.1, none place.0 q w place.1 (f.key, f.put, f.returned))

  pub no_summary : summary_at summaries op ≡ None → (q : OpName) (w : ℕ) → ¬ IsNewer h op q w
  no_summary none q w f = elim f.returned [
    | inl g ↦ let there = summary_there h table summaries summarized op (_, g.2) in let e : Some there.0 ≡ None = sym there.1 ∙ none in cc
    | inr missed ↦ let there = summary_there h table summaries summarized op (_, missed) in let e : Some there.0 ≡ None = sym there.1 ∙ none in cc
  ]
