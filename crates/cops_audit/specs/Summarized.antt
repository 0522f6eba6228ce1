-- The tables in which faults are looked up, of a history in which no two puts have the same version.
use Rattle.std.specs.Prelude.{List}
use Rattle.cops_types.specs.declared.op.OpName.{OpName}
use Rattle.cops_types.specs.Histories.{Sessions, IsNamed}
use Rattle.cops_types.specs.Faults.{Lists}
use Rattle.cops_types.specs.Recorded.{IsWithinLimits}
use Rattle.cops_types.specs.declared.versioned_put.VersionedPut.{VersionedPut}
use Rattle.cops_audit.specs.declared.summaries.Summary.{Summary}
use Rattle.cops_audit.specs.Summaries.{IsSummarized}
use Rattle.cops_audit.specs.Tables.{IsVersionTable}

-- a history with its names and the causal summaries of its operations
pub record Summarized : Type 0 where
  pub sessions : Sessions
  pub names : List OpName
  pub summaries : List (List Summary)

-- all names in order, all puts in order of versions without duplicates, and the summaries of all operations
pub record AreTables (table : List VersionedPut) (summarized : Summarized) : Type 0 where
  pub names : Lists (λ n. n) (IsNamed summarized.sessions) summarized.names
  pub puts : IsVersionTable summarized.sessions table
  pub summaries : IsSummarized summarized.sessions table summarized.summaries
  pub limits : IsWithinLimits summarized.sessions
