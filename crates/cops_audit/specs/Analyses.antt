-- What the searches for faults look up in a history in which no two puts have the same version.
use Rattle.cops_types.specs.Recorded.{IsWithinLimits}
use Rattle.cops_types.specs.Verdicts.{AllAbove}
use Rattle.cops_audit.specs.declared.analysis.Analysis.{Analysis}
use Rattle.cops_audit.specs.declared.analysis.PutIndex.{PutIndex}
use Rattle.cops_audit.specs.Keys.{AreFirsts, AreNexts, KnowsFirsts}
use Rattle.cops_audit.specs.Placing.{ArePutPlaces, AreSourcePlaces}
use Rattle.cops_audit.specs.SoFar.{HaveSourcesOrWait}
use Rattle.cops_audit.specs.Summaries.{IsSummarized}
use Rattle.cops_audit.specs.Tables.{IsVersionTable}

-- the puts in order of versions, and by their numbers the places of puts and of the sources of pending reads
pub record IsPutIndex (index : PutIndex) : Type 0 where
  pub table : IsVersionTable index.history.now.sessions index.table.now
  pub places : ArePutPlaces index.history.now.puts index.table.now index.places.now
  pub sources : AreSourcePlaces index.history.now index.table.now index.sources.now

-- the puts in order of versions, the summaries of all operations and the puts on each key, of a history in which each get has its source or waits for
-- it, and each put is above what its session saw
pub record IsAnalysis (a : Analysis) : Type 0 where
  pub table : IsVersionTable a.history.now.sessions a.table.now
  pub summaries : IsSummarized a.history.now.sessions a.table.now a.summaries.now
  pub nexts : AreNexts a.history.now.sessions a.table.now a.nexts.now
  pub by_key : KnowsFirsts a.history.now a.table.now a.by_key.now
  pub firsts : AreFirsts a.history.now.sessions a.table.now a.firsts.now
  pub sources : HaveSourcesOrWait a.history.now.sessions
  pub above : AllAbove a.history.now.sessions
  pub limits : IsWithinLimits a.history.now.sessions
