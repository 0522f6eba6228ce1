-- A refused history, with what its explanation is made of.
use Rattle.cops_audit.specs.declared.verdict.Verdict.TheVariants as verdict
use Rattle.cops_audit.specs.Tables.{IsPutTable}
use Rattle.cops_audit.specs.Verdicts.{IsVerdict}
use Rattle.cops_explain.specs.declared.refused.Refused.{Refused}
use Rattle.cops_explain.specs.Naming.{ANamedHistory, named_of}

-- the history with its naming
abbrev pub history_of : Refused → ANamedHistory
history_of refused = named_of refused.named

-- the puts are all of the history's, in order of versions
abbrev pub HasItsPuts : Refused → Type 0
HasItsPuts refused = IsPutTable (history_of refused).sessions refused.puts.now

-- the faults are the history's
abbrev pub HasItsFaults : Refused → Type 0
HasItsFaults refused = IsVerdict (history_of refused).sessions (verdict.Refused refused.faults.now)
