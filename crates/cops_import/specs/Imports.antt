-- The result of an import.
use Rattle.std.specs.Prelude.{◌≡◌, ℕ, List, length, Option}
use Rattle.std.specs.Io.KnownBytes.{Appends}
use Rattle.cops_trace.specs.Text.{IsTrace, text}
use Rattle.std.specs.Prelude.{◌+◌}
use Rattle.cops_import.specs.Lines.{LinesGive, lines, names_of, ops_of, returned_of, trace_of}
use Rattle.cops_import.specs.Outcomes.{outcomes_of}
use Rattle.cops_import.specs.declared.outcome.Outcome.{Outcome}
use Rattle.cops_import.specs.declared.reported.Reported.{Reported}
use Rattle.cops_import.specs.declared.rules.Rules.{Rules}

-- what an import says of the operations of lines: the names of clients, the puts of unknown outcome, and the number of operations of the trace
pub record IsSummary (given : List Reported) (names : List (List ℕ)) (unknown : List Outcome) (operations : ℕ) : Type 0 where
  pub names_are : names ≡ names_of (ops_of given)
  pub unknown_are : unknown ≡ outcomes_of given
  pub counted : operations ≡ length (ops_of given) + length (returned_of given)

-- the text of the one trace that all lines describe was written, and it is within the limits
pub record IsImport (rules : Rules) (bytes : List ℕ) (old new : Option (List ℕ)) (names : List (List ℕ)) (unknown : List Outcome) (operations : ℕ) : Type 0 where
  pub given : List Reported
  pub report : LinesGive rules (lines bytes) given
  pub summary : IsSummary given names unknown operations
  pub is_trace : IsTrace (trace_of rules.format given)
  pub written : Appends old new (text (trace_of rules.format given))
