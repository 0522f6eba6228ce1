-- The outcomes of puts that were unknown, as an import reports them.
use Rattle.std.specs.Prelude.{ℕ, ◌-◌, List, [], ◌∷◌, Option, filter, length}
use Rattle.std.specs.List.{count_by}
use Rattle.cops_outcomes.specs.declared.counts.OutcomeCounts.{OutcomeCounts}
use Rattle.std.specs.Option.{is_some}
use Rattle.cops_types.specs.Histories.{Operation}
use Rattle.cops_import.specs.Lines.{operations_of, ops_of, unknown_of, versions_in}
use Rattle.cops_import.specs.declared.outcome.Outcome.{Outcome}
use Rattle.cops_import.specs.declared.reported.Reported.{Reported}
use Rattle.cops_import.specs.declared.reported.UnknownPut.{UnknownPut}

abbrev pub outcome_of : UnknownPut → Option ℕ → Outcome
outcome_of put version = record { name = put.name; line = put.line; version = version }

-- each put with its version
abbrev pub each_outcome : List UnknownPut → List (Option ℕ) → List Outcome
each_outcome (put ∷ puts) (version ∷ versions) = outcome_of put version ∷ each_outcome puts versions
each_outcome _ _ = []

-- the puts of unknown outcome, as these operations show them
abbrev pub outcomes_in : List Operation → List UnknownPut → List Outcome
outcomes_in ops puts = each_outcome puts (versions_in ops puts)

-- in the order of their lines
abbrev pub outcomes_of : List Reported → List Outcome
outcomes_of given = outcomes_in (operations_of (ops_of given)) (unknown_of given)

-- those that took effect
abbrev pub took_effect : List Outcome → List Outcome
took_effect unknown = filter (λ o. is_some o.version) unknown

-- how many took effect, and how many are left out
abbrev pub outcome_counts : List Outcome → OutcomeCounts
outcome_counts unknown = record {
  took_effect = count_by (λ o. is_some o.version) unknown;
  left_out = length unknown - count_by (λ o. is_some o.version) unknown;
}
