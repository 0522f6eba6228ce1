-- The lines that a run prints before the report.
use Rattle.std.specs.Prelude.{ℕ, ◌+◌, List, [], ◌∷◌, ◌++◌, codes, decimal}
use Rattle.cops_types.specs.Refusal.{code_of}
use Rattle.cops_types.specs.Texts.{◌⧺◌}
use Rattle.cops_node.specs.declared.outcome.Outcome.{Outcome}
use Rattle.cops_scenario.specs.Lines.{outcome_line}
use Rattle.cops_tie.specs.declared.outcome.ClientOutcome.{ClientOutcome}
use Rattle.cops_tie.specs.declared.outcome.ClientOutcome.TheVariants.{Done, Stopped}

-- the concatenated lines of a list, numbered from `n` on
abbrev pub numbered_from : {A : Type 0} → (ℕ → A → List ℕ) → ℕ → List A → List ℕ
numbered_from line n [] = []
numbered_from line n (x ∷ xs) = line n x ++ numbered_from line (n + 1) xs

-- one line for each event
abbrev pub outcome_lines : List Outcome → List ℕ
outcome_lines os = numbered_from outcome_line 0 os

abbrev pub client_line : ℕ → ClientOutcome → List ℕ
client_line n Done = codes "client " ⧺ decimal n ⧺ codes " done\n"
client_line n (Stopped refusal) = codes "client " ⧺ decimal n ⧺ codes " stopped " ⧺ decimal (code_of refusal) ⧺ codes "\n"

-- one line for each client
abbrev pub client_lines : List ClientOutcome → List ℕ
client_lines os = numbered_from client_line 0 os
