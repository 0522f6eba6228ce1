-- What causal summaries say of a history, for sweeps: steps, pasts and newest puts.
use Rattle.std.proofs.Common.{rules, ◌≡◌, ◌<◌, ◌≤◌, ℕ, List, [], length, get_or, Some, ◌∙◌, ap, subst, inl, inr, arith, slice_index_or, slice_get}
use Rattle.std.proofs.lemmas.Option.{slice_get_within}
use Rattle.std.proofs.lemmas.Grind.{common_steps}
use Rattle.cops_types.specs.declared.op.OpName.{OpName}
use Rattle.cops_types.specs.Histories.{Sessions, IsNamed, SourceStep}
use Rattle.cops_types.specs.Past.{Step, Past, step, more}
use Rattle.cops_types.specs.Faults.{IsNewer, IsStale}
use Rattle.cops_types.specs.Recorded.{IsWithinLimits}
use Rattle.cops_types.specs.Verdicts.{AllAbove}
use Rattle.cops_audit.specs.SoFar.{HaveSourcesOrWait}
use Rattle.cops_types.specs.declared.versioned_put.VersionedPut.{VersionedPut}
use Rattle.cops_audit.specs.declared.summaries.Summary.{Summary}
use Rattle.cops_audit.specs.declared.summaries.OpPlace.{OpPlace}
use Rattle.cops_audit.specs.declared.summaries.OpPlace.TheVariants.{Put, Got, Sourceless}
use Rattle.cops_audit.specs.declared.window.Suspect.{Suspect}
use Rattle.cops_audit.specs.Analyses.{IsAnalysis}
use Rattle.cops_audit.specs.KeyIndexes.{IsKeyIndex}
use Rattle.cops_audit.specs.Keys.{AreFirsts, OnKey}
use Rattle.cops_audit.specs.declared.analysis.Analysis.{Analysis}
use Rattle.cops_audit.specs.declared.key_index.KeyIndex.{KeyIndex}
use Rattle.cops_audit.specs.Summaries.{AreMarks, IsSummarized, StandsAt, summary_at}
use Rattle.cops_audit.specs.Sweeps as sweep
use Rattle.cops_audit.specs.Sweeps.{ArePlaces, AreRising, IsNewestIn, NoneFrom, SummaryPast, SummaryStep}
use Rattle.cops_audit.specs.Tables.{IsVersionTable}
use Rattle.cops_audit.specs.Floors.{IsSummarizedSuspect}
use Rattle.cops_audit.specs.Windows.{HasFirst, IsSuspect}
use Rattle.cops_audit.proofs.Clearing.{stands_for}
use Rattle.cops_audit.proofs.Learning.{one_put_at}
use Rattle.cops_audit.proofs.Listing.{in_lists, slice_get_there}
use Rattle.cops_audit.proofs.Summarizing.{summary_there, session_of}
use Rattle.cops_audit.proofs.PastMarks.{put_mark}
use Rattle.cops_audit.proofs.Places.{inside_table, place_rises, put_there, same_place}
use Rattle.cops_audit.proofs.Reading.{says, seen_got, seen_put}
use Rattle.cops_audit.proofs.Unique.{stands}

module _ (h : Sessions) (table : List VersionedPut) (t : IsVersionTable h table) (summaries : List (List Summary)) (summarized : IsSummarized h table summaries) where
  pub all_marks : (client : ℕ) → AreMarks (slice_index_or summaries client [])
  all_marks client i summary at = (summarized.sessions client (omega (arith, in_lists summaries client i summary at, summarized.clients))).marks i summary at

  -- a summary is of an operation of the history
  summarized_named : (n : OpName) (summary : Summary) → summary_at summaries n ≡ Some summary → IsNamed h n
  summarized_named n summary at = grind (arith, common_steps)

  module _ (sources : HaveSourcesOrWait h) where
    -- the summary of a put at a place
    put_summarized : (place : ℕ) (put : OpName) (version : ℕ) → StandsAt table place put version → (summary : Summary) × (summary_at summaries put ≡ Some summary) × (summary.seen ≡ Put place)
    put_summarized place put version stands_at =
        let puts = put_there h table t.table place put version stands_at in
        let there = summary_there h table summaries summarized put (_, puts.2) in
        let seen = seen_put h table put version there.0.seen (says h table t summaries summarized put there.0 there.1) puts in
        (there.0, there.1, seen.1 ∙ ap Put (same_place table t.rising seen.0 place put put version seen.2 stands_at))

    pub are_rising : AllAbove h → IsWithinLimits h → AreRising table summaries
    are_rising above_all limits = record {
      marks = all_marks;
      puts = λ place put version stands_at.
          let n = put_summarized place put version stands_at in
          (n.0.mark, n.1 ∙ ap (λ (s : OpPlace). Some (let x : Summary = record { seen = s; mark = n.0.mark } in x)) n.2, put_mark h table t summaries summarized sources above_all put n.0 place n.1 n.2);
      seen_puts = λ name place mark at. let s = says h table t summaries summarized name (record { seen = Put place; mark = mark }) at in (s.0, s.2);
      seen_gets = λ name place mark at. let s = says h table t summaries summarized name (record { seen = Got place; mark = mark }) at in (s.0, s.1, s.2);
      seen_sourceless = λ name place mark at. (says h table t summaries summarized name (record { seen = Sourceless place; mark = mark }) at).1.inside;
      small = λ name summary at.
          let session = session_of h table summaries summarized name summary at in
          omega (arith, slice_get_within (slice_index_or summaries name.client []) name.index summary at, session.whole, limits.each name.client);
      few = t.table.few;
    }

    pub summarized_suspect : (s : Suspect) → IsSuspect h table s → IsSummarizedSuspect summaries s
    summarized_suspect s is =
        let there = summary_there h table summaries summarized s.op is.named in
        record {
          summary = there.0;
          at = there.1;
          source = λ place mark at.
              let seen = says h table t summaries summarized s.op (record { seen = Got place; mark = mark }) at in
              is.source place seen.0 seen.1 seen.2 seen.4;
        }

    summary_step : (a b : OpName) → Step h a b → SummaryStep table summaries a b
    summary_step a b (inl s) = let there = summary_there h table summaries summarized b s.is_there in inl (s.same_client, s.earlier, there.0, there.1)
    summary_step a b (inr s) =
        let at_a = summary_there h table summaries summarized a (_, s.put) in
        let at_b = summary_there h table summaries summarized b (_, s.got) in
        let put = seen_put h table a s.version at_a.0.seen (says h table t summaries summarized a at_a.0 at_a.1) (s.key, s.content, s.put) in
        let got = seen_got h table b s.version at_b.0.seen (λ f. f.none a s) (says h table t summaries summarized b at_b.0 at_b.1) (s.key, s.content, s.got) in
        let same : put.0 ≡ got.0 = same_place table t.rising put.0 got.0 a got.1 s.version put.2 got.3 in
        inr (got.0, s.version, at_b.0.mark, subst (λ (p : ℕ). StandsAt table p a s.version) same put.2, at_b.1 ∙ ap (λ (x : OpPlace). Some (let y : Summary = record { seen = x; mark = at_b.0.mark } in y)) got.2)

    pub summary_past : (a : OpName) {b : OpName} → Past h a b → SummaryPast table summaries a b
    summary_past a {b} (step s) = sweep.step (summary_step a b s)
    summary_past a {b} (more {by = by} p s) = sweep.more (summary_past a p) (summary_step by b s)

  summarized_step : (a b : OpName) → SummaryStep table summaries a b → Step h a b
  summarized_step a b (inl s) = inl (record { same_client = s.0; earlier = s.1; is_there = summarized_named b s.2 s.3 })
  summarized_step a b (inr s) =
      let seen = says h table t summaries summarized b (record { seen = Got s.0; mark = s.2 }) s.4 in
      inr (subst (λ x. SourceStep h x b) (one_put_at table s.0 seen.0 a seen.1 s.1 seen.2 s.3) seen.4)

  pub summarized_past : (a : OpName) {b : OpName} → SummaryPast table summaries a b → Past h a b
  summarized_past a {b} (sweep.step s) = step (summarized_step a b s)
  summarized_past a {b} (sweep.more {by = by} p s) = more (summarized_past a p) (summarized_step by b s)

-- each put has a key
pub key_at : (h : Sessions) (table : List VersionedPut) → IsVersionTable h table → (place : ℕ) (put : OpName) (version : ℕ) → StandsAt table place put version → (key : List ℕ) × OnKey h table place key
key_at h table t place put version at = let puts = put_there h table t.table place put version at in (puts.0, (put, version, at, (puts.1, puts.2)))

pub are_places : (h : Sessions) (table : List VersionedPut) → IsVersionTable h table → (firsts : List ℕ) → AreFirsts h table firsts → ArePlaces table firsts
are_places h table t firsts are = record {
  whole = are.whole;
  inside = λ place first at.
      let in_table : place < length table = omega (arith, slice_get_within firsts place first at, are.whole) in
      let d : VersionedPut = record { version = 0; name = record { client = 0; index = 0 } } in
      let key = key_at h table t place (get_or table place d).name (get_or table place d).version (stands table place d in_table) in
      let on = (are.each place first key.0 at key.1).on_key in
      inside_table table first on.0 on.1 on.2;
}

module _ (h : Sessions) (table : List VersionedPut) (t : IsVersionTable h table) (firsts : List ℕ) (are : AreFirsts h table firsts) where
  has_first : (place first : ℕ) → slice_get firsts place ≡ Some first → HasFirst h table place first
  has_first place first at key on = are.each place first key at on

  first_reported : (place first : ℕ) (put : OpName) (version : ℕ) → StandsAt table place put version → HasFirst h table place first → slice_get firsts place ≡ Some first
  first_reported place first put version at has =
      let key = key_at h table t place put version at in
      let there = slice_get_there firsts place (omega (arith, inside_table table place put version at, are.whole)) in
      let a = are.each place there.0 key.0 there.1 key.1 in
      let b = has key.0 key.1 in
      let same : there.0 ≡ first = omega (arith, a.least first b.on_key, b.least there.0 a.on_key) in
      there.1 ∙ ap (λ (x : ℕ). Some x) same

  module _ (summaries : List (List Summary)) (summarized : IsSummarized h table summaries) (sources : HaveSourcesOrWait h) (s : Suspect) (is : IsSuspect h table s) where
    later_place : (q : OpName) (w : ℕ) → IsNewer h s.op q w → (place : ℕ) × StandsAt table place q w × (s.from ≤ place) × (slice_get firsts place ≡ Some s.first) × SummaryPast table summaries q s.op
    later_place q w f =
        let at = stands_for h table t.table q w (f.key, f.put.0, f.put.1) in
        let later = is.later at.0 q w at.1 (f.key, f.put, f.returned) in
        (at.0, at.1, later.0, first_reported at.0 s.first q w at.1 later.1, summary_past h table t summaries summarized sources q f.past)

    pub stale_reported : (place : ℕ) (newest : IsNewestIn table summaries firsts s.op s.first place) → s.from ≤ place → IsStale h s.op newest.put
    stale_reported place newest le =
        let would = is.newer place newest.put newest.version newest.stands le (has_first place s.first newest.has_first) in
        record {
          version = newest.version;
          is_newer = record { key = would.0; put = would.1; past = summarized_past h table t summaries summarized newest.put newest.past; returned = would.2 };
          newest = λ q w f.
              let at = later_place q w f in
              let not : ¬ (newest.version < w) = λ less. newest.newest at.0 q w at.1 at.3 (place_rises table t.rising place at.0 newest.put q newest.version w newest.stands at.1 less) at.4 in
              omega (arith, not);
        }

    pub none_reported : NoneFrom table summaries firsts s.op s.first s.from → (q : OpName) (w : ℕ) → ¬ IsNewer h s.op q w
    none_reported none q w f = let at = later_place q w f in none at.0 q w at.1 at.3 at.2 at.4

-- the summaries of an analysis fit its table
pub analysis_rising : (a : Analysis) → IsAnalysis a → AreRising a.table.now a.summaries.now
analysis_rising a is = are_rising a.history.now.sessions a.table.now is.table a.summaries.now is.summaries is.sources is.above is.limits

pub analysis_places : (a : Analysis) → IsAnalysis a → ArePlaces a.table.now a.firsts.now
analysis_places a is = are_places a.history.now.sessions a.table.now is.table a.firsts.now is.firsts

pub analysis_suspect : (a : Analysis) → IsAnalysis a → (s : Suspect) → IsSuspect a.history.now.sessions a.table.now s → IsSummarizedSuspect a.summaries.now s
analysis_suspect a is = summarized_suspect a.history.now.sessions a.table.now is.table a.summaries.now is.summaries is.sources

-- an analysis whose parts are seen in a table, in summaries and in a list of the puts by their keys
pub is_analysis : (a : Analysis) (table : List VersionedPut) (keys : KeyIndex) → a.table.now ≡ table → a.nexts.now ≡ keys.nexts.items → a.by_key.now ≡ keys.by_key.items → a.firsts.now ≡ keys.firsts.items
    → IsVersionTable a.history.now.sessions table → IsSummarized a.history.now.sessions table a.summaries.now → IsKeyIndex a.history.now table keys
    → HaveSourcesOrWait a.history.now.sessions → AllAbove a.history.now.sessions → IsWithinLimits a.history.now.sessions → IsAnalysis a
is_analysis a table keys same nexts by_key firsts is summarized linked sources above limits = search rules

-- the put at a place is in one of the sessions
pub put_inside : (table : List VersionedPut) (summaries : List (List Summary)) → AreRising table summaries → (place : ℕ) (put : OpName) (version : ℕ) → StandsAt table place put version → put.client < length summaries
put_inside table summaries rising place put version stands = in_lists summaries put.client put.index _ (rising.puts place put version stands).1
