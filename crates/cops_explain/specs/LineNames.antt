-- What a recorder's lines call the operations of a history, and how many puts of unknown outcome they have.
use Rattle.std.specs.Prelude.{ℕ, List}
use Rattle.cops_outcomes.specs.declared.counts.OutcomeCounts.{OutcomeCounts}

-- the name of each client, for each client the numbers of the lines of its operations, in their order, and how many puts of unknown outcome there are
pub record ALineNames : Type 0 where
  pub names : List (List ℕ)
  pub lines : List (List ℕ)
  pub outcomes : OutcomeCounts
