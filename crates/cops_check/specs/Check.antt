-- What a check says of lines, and what it writes.
use Rattle.std.specs.Prelude.{◌≡◌, ◌⊎◌, ℕ, Bool, true, false, List, [], ◌++◌, map, Option, Some, None, Result, Ok, Err}
use Rattle.std.specs.Global.{Vec}
use Rattle.std.specs.Io.KnownBytes.{Appends}
use Rattle.cops_types.specs.Counted.{inner}
use Rattle.cops_types.specs.Convergence.{IsCausallyConvergent}
use Rattle.cops_types.specs.declared.format.Format.TheVariants.{Two}
use Rattle.cops_types.specs.declared.selection.Selection.{Selection}
use Rattle.cops_types.specs.declared.selection.Selection.TheVariants.{First}
use Rattle.cops_trace.specs.Text.{ATrace, IsTrace, sessions_of}
use Rattle.cops_explain.specs.declared.naming.Naming.{Naming}
use Rattle.cops_explain.specs.declared.naming.Naming.TheVariants.{Lines}
use Rattle.cops_explain_json.specs.Faulty.{faulty_json}
use Rattle.cops_explain_json.specs.Objects.{line_text}
use Rattle.cops_import.specs.Faults.{IsWrongLine}
use Rattle.cops_import.specs.Imports.{IsImport}
use Rattle.cops_import.specs.Line.{AreRead}
use Rattle.cops_import.specs.Lines.{LinesGive, lines, names_of, ops_of, trace_of}
use Rattle.cops_import.specs.Words.{faulty_line, words_of}
use Rattle.cops_import.specs.declared.fault.JsonLineFault.{JsonLineFault}
use Rattle.cops_import.specs.Outcomes.{outcome_counts, outcomes_of, took_effect}
use Rattle.cops_import.specs.declared.imported.Imported.{Imported}
use Rattle.cops_import.specs.declared.outcome.Outcome.{Outcome}
use Rattle.cops_import.specs.declared.reported.Reported.{Reported}
use Rattle.cops_import.specs.declared.rules.Rules.{Rules}
use Rattle.cops_audit_commands.specs.declared.audit.Answer.{Answer}
use Rattle.cops_audit_commands.specs.declared.audit.Answer.TheVariants.{Faulty}
use Rattle.cops_audit_commands.specs.declared.explain.Request.{Request}
use Rattle.cops_audit_commands.specs.Explain.{IsDrawing, IsExplanation}
use Rattle.cops_check.specs.declared.state.State.{State}
use Rattle.cops_check.specs.declared.state.State.TheVariants.{Clean}
use Rattle.cops_check.specs.Numbers.{numbers_from, op_lines, trace_lines}

-- the names of the clients of puts of unknown outcome that took effect
abbrev pub own_names : List Outcome → List (List ℕ)
own_names unknown = map (λ o. o.name) (took_effect unknown)

-- for each client of this trace the numbers of the lines of its operations, where these are the puts of unknown outcome
abbrev pub lines_in : List ℕ → List Outcome → ATrace → List (List ℕ)
lines_in bytes unknown trace = op_lines trace.clients (map (λ r. r.client) trace.records) (trace_lines (numbers_from 1 (lines bytes)) unknown)

-- what the lines of a text call the operations of this trace, whose clients have these names, and in which these puts of unknown outcome took effect or
-- are left out
abbrev pub naming_in : List ℕ → List (List ℕ) → List Outcome → ATrace → Naming
naming_in bytes names unknown trace = Lines (record {
  names = names ++ own_names unknown;
  lines = lines_in bytes unknown trace;
  outcomes = outcome_counts unknown;
})

-- what the lines of a text call these operations: by the names of their clients and the numbers of their lines
abbrev pub naming_of : Rules → List ℕ → List Reported → Naming
naming_of rules bytes given = naming_in bytes (names_of (ops_of given)) (outcomes_of given) (trace_of rules.format given)

-- lines are read in format 2, and their versions by their ranks or as they stand
abbrev pub AreRules : Bool → Rules → Type 0
AreRules is_ranked rules = (rules.format ≡ Two) × AreRead is_ranked rules.versions

-- all lines of the text together describe these operations, and their trace is within the limits
pub record Describes (rules : Rules) (bytes : List ℕ) (given : List Reported) : Type 0 where
  pub report : LinesGive rules (lines bytes) given
  pub is_trace : IsTrace (trace_of rules.format given)

-- the line at fault and what is wrong with it, in words or as JSON
abbrev pub wrong_text : Bool → ℕ → JsonLineFault → List ℕ
wrong_text false number fault = faulty_line number fault
wrong_text true number fault = line_text (faulty_json (words_of fault) (Some number))

-- the text was imported by these rules to memory, or a line of it is wrong
abbrev pub IsImported : Rules → List ℕ → Result (Imported (Vec ℕ)) (ℕ × JsonLineFault) → Type 0
IsImported rules bytes (Ok imported) =
    IsImport rules bytes (Some []) (Some (inner imported.writer).items) imported.names imported.unknown.items imported.operations
IsImported rules bytes (Err wrong) = IsWrongLine rules bytes wrong.0 wrong.1

-- for a text of lines that are read so: the explanation of the trace that they describe, otherwise the first wrong line
abbrev pub SaysBy : Rules → Request → List ℕ → Answer → List ℕ → Type 0
SaysBy rules request bytes answer reported =
    ((given : List Reported) × Describes rules bytes given × IsExplanation (trace_of rules.format given) (naming_of rules bytes given) request answer reported)
    ⊎ ((number : ℕ) × (fault : JsonLineFault) × IsWrongLine rules bytes number fault × (answer ≡ Faulty) × (reported ≡ wrong_text request.is_json number fault))

-- the picture of the fault that is asked for, none where a line is wrong
abbrev pub DrawsBy : Rules → Selection → List ℕ → Option (Vec ℕ) → Type 0
DrawsBy rules asked bytes picture =
    ((given : List Reported) × Describes rules bytes given × IsDrawing (trace_of rules.format given) (naming_of rules bytes given) asked picture)
    ⊎ ((number : ℕ) × (fault : JsonLineFault) × IsWrongLine rules bytes number fault × (picture ≡ None))

abbrev pub CheckSays : Bool → Request → List ℕ → Answer → List ℕ → Type 0
CheckSays is_ranked request bytes answer reported = (rules : Rules) × AreRules is_ranked rules × SaysBy rules request bytes answer reported

-- the JSON object on the first faults
abbrev pub CheckSaysJson : Bool → List ℕ → Answer → List ℕ → Type 0
CheckSaysJson is_ranked bytes answer reported = CheckSays is_ranked (record { faults = First; is_drawn = false; is_json = true }) bytes answer reported

abbrev pub DrawingSays : Bool → Selection → List ℕ → Option (Vec ℕ) → Type 0
DrawingSays is_ranked asked bytes picture = (rules : Rules) × AreRules is_ranked rules × DrawsBy rules asked bytes picture

-- the lines describe one history, and it is causally convergent
pub record DescribesConvergent (is_ranked : Bool) (bytes : List ℕ) : Type 0 where
  pub rules : Rules
  pub are_rules : AreRules is_ranked rules
  pub given : List Reported
  pub describes : Describes rules bytes given
  pub convergent : IsCausallyConvergent (sessions_of (trace_of rules.format given))

-- of a state only this is said: where it is clean, the lines describe one history, and it is causally convergent
abbrev pub IsStateOf : Bool → List ℕ → State → Type 0
IsStateOf is_ranked bytes Clean = DescribesConvergent is_ranked bytes
IsStateOf is_ranked bytes _ = Unit {0}

-- the writer gained the whole text
abbrev pub WritesChecked : Bool → Request → List ℕ → Answer → Option (List ℕ) → Option (List ℕ) → Type 0
WritesChecked is_ranked request bytes answer old new = (reported : List ℕ) × CheckSays is_ranked request bytes answer reported × Appends old new reported

-- the writer gained a prefix of the text
abbrev pub WritesPrefixChecked : Bool → Request → List ℕ → Option (List ℕ) → Option (List ℕ) → Type 0
WritesPrefixChecked is_ranked request bytes old new =
    (answer : Answer) × (front : List ℕ) × (rest : List ℕ) × CheckSays is_ranked request bytes answer (front ++ rest) × Appends old new front
