-- The explanation of bytes, and what is written.
use Rattle.std.specs.Prelude.{◌≡◌, ◌⊎◌, ℕ, Bool, true, false, List, [], ◌++◌, Option, Some, None, Ok, Err, unwrap_or}
use Rattle.std.specs.Global.{Vec}
use Rattle.std.specs.Io.KnownBytes.{Appends}
use Rattle.cops_audit.specs.declared.verdict.Verdict.{Verdict}
use Rattle.cops_audit.specs.Verdicts.{IsVerdict}
use Rattle.cops_types.specs.declared.selection.Selection.{Selection}
use Rattle.cops_types.specs.declared.selection.Selection.TheVariants.{First, All, One}
use Rattle.cops_explain.specs.Explained.{IsExplained}
use Rattle.cops_explain.specs.Naming.{ANamedHistory}
use Rattle.cops_explain.specs.declared.naming.Naming.{Naming}
use Rattle.cops_explain.specs.declared.naming.Naming.TheVariants.{Trace}
use Rattle.cops_explain_json.specs.Explanations.{IsExplainedJson}
use Rattle.cops_explain_json.specs.Faulty.{faulty_json}
use Rattle.cops_explain_json.specs.Objects.{line_text}
use Rattle.cops_explain.specs.Pictures.{IsPicture, fault_at}
use Rattle.cops_trace.specs.declared.fault.TraceFault.{TraceFault}
use Rattle.cops_trace.specs.Text.{ATrace, sessions_of}
use Rattle.cops_trace.specs.Answer.{Says}
use Rattle.cops_trace.specs.Lines.{fault_line, fault_text}
use Rattle.cops_audit_commands.specs.declared.audit.Answer.{Answer}
use Rattle.cops_audit_commands.specs.declared.audit.Answer.TheVariants.{Faulty}
use Rattle.cops_audit_commands.specs.declared.explain.Request.{Request}
use Rattle.cops_audit_commands.specs.Audit.{answer_of}

-- the explanation of a verdict, in words or as JSON
abbrev pub IsExplainedAs : Bool → ANamedHistory → Verdict → Selection → List ℕ → Type 0
IsExplainedAs false named verdict asked text = IsExplained named verdict asked text
IsExplainedAs true named verdict asked text = IsExplainedJson named verdict asked text

-- for a trace whose operations are called so: the explanation of the verdict on its sessions
pub record IsExplanation (t : ATrace) (naming : Naming) (request : Request) (answer : Answer) (reported : List ℕ) : Type 0 where
  pub verdict : Verdict
  pub is_verdict : IsVerdict (sessions_of t) verdict
  pub is_explained : IsExplainedAs request.is_json (record { sessions = sessions_of t; naming = naming }) verdict request.faults reported
  pub answer_is : answer ≡ answer_of verdict

-- what is said of bytes that are no trace's text, in words or as JSON
abbrev pub faulty_text : Bool → TraceFault → List ℕ
faulty_text false e = fault_line e
faulty_text true e = line_text (faulty_json (unwrap_or (fault_text e) []) None)

-- for bytes: the explanation, where they are a trace's text, otherwise their first fault
abbrev pub ExplainSays : Request → List ℕ → Answer → List ℕ → Type 0
ExplainSays request bytes answer reported =
    ((t : ATrace) × Says bytes (Ok t) × IsExplanation t Trace request answer reported)
    ⊎ ((e : TraceFault) × Says bytes (Err e) × (answer ≡ Faulty) × (reported ≡ faulty_text request.is_json e))

-- the writer gained the whole text
abbrev pub WritesExplained : Request → List ℕ → Answer → Option (List ℕ) → Option (List ℕ) → Type 0
WritesExplained request bytes answer old new = (reported : List ℕ) × ExplainSays request bytes answer reported × Appends old new reported

-- the writer gained a prefix of the text
abbrev pub WritesPrefixExplained : Request → List ℕ → Option (List ℕ) → Option (List ℕ) → Type 0
WritesPrefixExplained request bytes old new =
    (answer : Answer) × (front : List ℕ) × (rest : List ℕ) × ExplainSays request bytes answer (front ++ rest) × Appends old new front

-- the number of the fault that is drawn: the one that is asked for, or the first
abbrev pub drawn_number : Selection → ℕ
drawn_number First = 1
drawn_number All = 1
drawn_number (One number) = number

-- the picture of the fault with a number, none where there is no such fault
abbrev pub IsDrawn : Naming → Verdict → ℕ → Option (Vec ℕ) → Type 0
IsDrawn naming verdict number None = fault_at verdict number ≡ None
IsDrawn naming verdict number (Some text) = IsPicture naming verdict number text.items

-- for a trace whose operations are called so: the picture of that fault of the verdict on its sessions
pub record IsDrawing (t : ATrace) (naming : Naming) (asked : Selection) (picture : Option (Vec ℕ)) : Type 0 where
  pub verdict : Verdict
  pub is_verdict : IsVerdict (sessions_of t) verdict
  pub is_drawn : IsDrawn naming verdict (drawn_number asked) picture

-- for bytes: the picture, where they are a trace's text, otherwise none
abbrev pub PictureSays : Selection → List ℕ → Option (Vec ℕ) → Type 0
PictureSays asked bytes picture =
    ((t : ATrace) × Says bytes (Ok t) × IsDrawing t Trace asked picture) ⊎ ((e : TraceFault) × Says bytes (Err e) × (picture ≡ None))
