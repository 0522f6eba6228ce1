-- Suspects that are judged one by one, each client's by one sweep.
use Rattle.std.specs.Prelude.{◌≡◌, ◌<◌, ◌≤◌, ◌+◌, ℕ, List, [], length, slice_index, slice_index_or, Some}
use Rattle.cops_types.specs.declared.versioned_put.VersionedPut.{VersionedPut}
use Rattle.cops_audit.specs.declared.summaries.Summary.{Summary}
use Rattle.cops_audit.specs.declared.summaries.OpPlace.TheVariants.{Got}
use Rattle.cops_audit.specs.declared.analysis.Analysis.{Analysis}
use Rattle.cops_audit.specs.declared.sweep.Sweep.{Sweep}
use Rattle.cops_audit.specs.declared.window.Suspect.{Suspect}
use Rattle.cops_audit.specs.Summaries.{summary_at}
use Rattle.cops_audit.specs.Sweeps.{IsAbout, IsNewestIn, IsSweeping, NoneFrom}

-- for each suspect a lower bound of the places of the puts that matter to it and to its client's later suspects
pub record AreFloors (suspects : List Suspect) (floors : List ℕ) : Type 0 where
  pub whole : length floors ≡ length suspects
  pub low : (k : ℕ) (d : Suspect) → k < length suspects → slice_index floors k ≤ (slice_index_or suspects k d).from
  pub rising : (k : ℕ) (d : Suspect) → k + 1 < length suspects → (slice_index_or suspects k d).op.client ≡ (slice_index_or suspects (k + 1) d).op.client → slice_index floors k ≤ slice_index floors (k + 1)

-- a suspect with its causal summary, whose source is before the puts that would be newer
pub record IsSummarizedSuspect (summaries : List (List Summary)) (suspect : Suspect) : Type 0 where
  pub summary : Summary
  pub at : summary_at summaries suspect.op ≡ Some summary
  pub source : (place mark : ℕ) → summary_at summaries suspect.op ≡ Some (record { seen = Got place; mark = mark }) → place < suspect.from

-- the state of the sweep after the suspect before this one
pub record IsAfter (table : List VersionedPut) (summaries : List (List Summary)) (firsts : List ℕ) (suspects : List Suspect) (floors : List ℕ) (k : ℕ) (sweep : Sweep) : Type 0 where
  pub empty : sweep.pending.items ≡ []
  pub clients : length sweep.counts ≡ length summaries
  pub places : length table ≤ length sweep.newest
  pub sweeping : (j : ℕ) → j + 1 ≡ k → IsSweeping table summaries firsts (slice_index floors j) sweep (λ _. ⊥)
  pub about : (j : ℕ) (d : Suspect) → j + 1 ≡ k → IsAbout table summaries sweep (slice_index_or suspects j d).op

-- the newest put on a suspect's key in its past is at this place, and would be newer than what it returned
abbrev pub IsNewestFor : Analysis → Suspect → ℕ → Type 0
IsNewestFor a suspect place = (suspect.from ≤ place) × IsNewestIn a.table.now a.summaries.now a.firsts.now suspect.op suspect.first place

-- no put that would be newer than what a suspect returned is in its past
abbrev pub HasNoNewer : Analysis → Suspect → Type 0
HasNoNewer a suspect = NoneFrom a.table.now a.summaries.now a.firsts.now suspect.op suspect.first suspect.from
