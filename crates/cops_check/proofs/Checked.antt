-- From a trace that was imported to what is said of its lines.
use Rattle.std.proofs.Common.{◌≡◌, ℕ, List, Option, Some, None, subst, inl, inr, sym, ◌∙◌, take, drop}
use Rattle.std.specs.Prelude.{Bool, IfSome}
use Rattle.std.specs.Global.{Vec}
use Rattle.std.specs.Io.KnownBytes.{Appends}
use Rattle.std.proofs.lemmas.List.{take-append-drop}
use Rattle.cops_types.specs.declared.selection.Selection.{Selection}
use Rattle.cops_audit.proofs.Consequences.{convergent}
use Rattle.cops_trace.specs.Text.{ATrace, sessions_of}
use Rattle.cops_explain.specs.declared.naming.Naming.{Naming}
use Rattle.cops_import.specs.Lines.{names_of, ops_of, trace_of}
use Rattle.cops_import.specs.Outcomes.{outcomes_of}
use Rattle.cops_import.specs.declared.outcome.Outcome.{Outcome}
use Rattle.cops_import.specs.declared.reported.Reported.{Reported}
use Rattle.cops_import.specs.declared.rules.Rules.{Rules}
use Rattle.cops_audit_commands.proofs.ReportedText.{accepts}
use Rattle.cops_audit_commands.specs.Explain.{IsDrawing, IsExplanation}
use Rattle.cops_audit_commands.specs.declared.audit.Answer.{Answer}
use Rattle.cops_audit_commands.specs.declared.audit.Answer.TheVariants.{Accepted}
use Rattle.cops_audit_commands.specs.declared.explain.Request.{Request}
use Rattle.cops_check.specs.Check.{CheckSays, Describes, DescribesConvergent, DrawsBy, SaysBy, WritesPrefixChecked, naming_in, naming_of}

-- what the lines call the operations of their trace
named : (rules : Rules) (bytes : List ℕ) (given : List Reported) (t : ATrace) (names : List (List ℕ)) (unknown : List Outcome) (naming : Naming) → trace_of rules.format given ≡ t → names ≡ names_of (ops_of given)
    → unknown ≡ outcomes_of given → naming ≡ naming_in bytes names unknown t → naming ≡ naming_of rules bytes given
named rules bytes given t names unknown naming same are these is = rw (← same, are, these) at is

pub says_trace : (rules : Rules) (bytes : List ℕ) (given : List Reported) (t : ATrace) (names : List (List ℕ)) (unknown : List Outcome) (naming : Naming) (request : Request) (answer : Answer) (text : List ℕ)
    → Describes rules bytes given → trace_of rules.format given ≡ t → names ≡ names_of (ops_of given) → unknown ≡ outcomes_of given → naming ≡ naming_in bytes names unknown t
    → IsExplanation t naming request answer text → SaysBy rules request bytes answer text
says_trace rules bytes given t names unknown naming request answer text describes same are these is explained =
    let at : IsExplanation (trace_of rules.format given) naming request answer text = subst (λ (u : ATrace). IsExplanation u naming request answer text) (sym same) explained in
    inl (given, describes, subst (λ (n : Naming). IsExplanation (trace_of rules.format given) n request answer text) (named rules bytes given t names unknown naming same are these is) at)

pub draws_trace : (rules : Rules) (bytes : List ℕ) (given : List Reported) (t : ATrace) (names : List (List ℕ)) (unknown : List Outcome) (naming : Naming) (asked : Selection) (picture : Option (Vec ℕ))
    → Describes rules bytes given → trace_of rules.format given ≡ t → names ≡ names_of (ops_of given) → unknown ≡ outcomes_of given → naming ≡ naming_in bytes names unknown t
    → IsDrawing t naming asked picture → DrawsBy rules asked bytes picture
draws_trace rules bytes given t names unknown naming asked picture describes same are these is drawn =
    let at : IsDrawing (trace_of rules.format given) naming asked picture = subst (λ (u : ATrace). IsDrawing u naming asked picture) (sym same) drawn in
    inl (given, describes, subst (λ (n : Naming). IsDrawing (trace_of rules.format given) n asked picture) (named rules bytes given t names unknown naming same are these is) at)

-- what holds of the bytes that were read holds of those that the reader had
pub known : (a : Option (List ℕ)) (P : List ℕ → Type 0) (bytes : List ℕ) → IfSome a (λ all. bytes ≡ all) → P bytes → IfSome a P
known None P bytes same p = tt
known (Some all) P bytes same p = subst P same p

-- lines that are accepted describe a history that converges
pub accepted_lines : (is_ranked : Bool) (request : Request) (bytes : List ℕ) (answer : Answer) (text : List ℕ) → CheckSays is_ranked request bytes answer text → answer ≡ Accepted
    → DescribesConvergent is_ranked bytes
accepted_lines is_ranked request bytes answer text (rules, are, inl (given, describes, e)) is = record {
  rules = rules;
  are_rules = are;
  given = given;
  describes = describes;
  convergent = convergent (sessions_of (trace_of rules.format given)) e.verdict e.is_verdict (accepts e.verdict (sym e.answer_is ∙ is));
}
accepted_lines is_ranked request bytes answer text (rules, are, inr (number, fault, first, faulty, line)) is = absurd cc

-- a prefix of the text was written
pub prefix_written : (is_ranked : Bool) (request : Request) (bytes : List ℕ) (answer : Answer) (text : List ℕ) (n : ℕ) (old new : Option (List ℕ))
    → CheckSays is_ranked request bytes answer text → Appends old new (take n text) → WritesPrefixChecked is_ranked request bytes old new
prefix_written is_ranked request bytes answer text n old new says appends =
    (answer, take n text, drop n text, subst (λ (x : List ℕ). CheckSays is_ranked request bytes answer x) (sym (take-append-drop n text)) says, appends)
