-- A history, and what its operations are called.
use Rattle.cops_types.specs.Histories.{Sessions}
use Rattle.cops_outcomes.specs.declared.counts.OutcomeCounts.{OutcomeCounts}
use Rattle.cops_explain.specs.declared.naming.NamedHistory.{NamedHistory}
use Rattle.cops_explain.specs.declared.naming.Naming.{Naming}
use Rattle.cops_explain.specs.declared.naming.Naming.TheVariants.{Trace, Lines}

pub record ANamedHistory : Type 0 where
  pub sessions : Sessions
  pub naming : Naming

-- the history and the naming that are borrowed
abbrev pub named_of : NamedHistory → ANamedHistory
named_of named = record { sessions = named.history.now.sessions; naming = named.naming.now }

-- how many puts of unknown outcome there are: none in a trace
abbrev pub outcomes_of : Naming → OutcomeCounts
outcomes_of Trace = record { took_effect = 0; left_out = 0 }
outcomes_of (Lines names) = names.outcomes
