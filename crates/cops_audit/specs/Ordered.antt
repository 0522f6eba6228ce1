-- The verdict on a history with its puts.
use Rattle.cops_types.specs.Histories.{Sessions}
use Rattle.cops_audit.specs.declared.verdict.OrderedVerdict.{OrderedVerdict}
use Rattle.cops_audit.specs.Tables.{IsPutTable}
use Rattle.cops_audit.specs.Verdicts.{IsVerdict}

-- the verdict on the history, with all its puts in order of versions
pub record IsOrderedVerdict (h : Sessions) (ordered : OrderedVerdict) : Type 0 where
  pub verdict : IsVerdict h ordered.verdict
  pub puts : IsPutTable h ordered.puts.items
