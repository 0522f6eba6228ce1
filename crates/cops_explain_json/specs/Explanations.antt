-- The explanation of a verdict in JSON.
use Rattle.std.specs.Prelude.{◌≡◌, ℕ, List, [], ◌∷◌, ◌++◌, codes, length, map, take, Option, Some, None, if◌then◌else◌}
use Rattle.serde_json.specs.Data.{Data}
use Rattle.cops_json.specs.Json.{number_json, text_json}
use Rattle.cops_types.specs.Counts.{count_of, put_count}
use Rattle.cops_types.specs.declared.selection.Selection.{Selection}
use Rattle.cops_types.specs.declared.selection.Selection.TheVariants.{First, All, One}
use Rattle.cops_audit.specs.declared.fault.Fault.{Fault}
use Rattle.cops_audit.specs.declared.verdict.Verdict.{Verdict}
use Rattle.cops_audit.specs.declared.verdict.Verdict.TheVariants.{Accepted, Refused}
use Rattle.cops_audit.specs.declared.verdict.Faults.{Faults}
use Rattle.cops_audit.specs.declared.verdict.Faults.TheVariants as class
use Rattle.cops_audit.specs.Faults.{fault_of_number, faults_of}
use Rattle.cops_outcomes.specs.declared.counts.OutcomeCounts.{OutcomeCounts}
use Rattle.cops_outcomes.specs.Words.{has_none}
use Rattle.cops_explain.specs.declared.limits.TheConstants.{FIRST_FAULTS}
use Rattle.cops_explain.specs.Naming.{ANamedHistory, outcomes_of}
use Rattle.cops_explain_json.specs.Objects.{Member, line_text, list_json, object_json}
use Rattle.cops_explain_json.specs.Faults.{AreFaults}

-- how many puts of unknown outcome took effect, and how many are left out
abbrev pub outcomes_json : OutcomeCounts → Data
outcomes_json counts =
    object_json ((codes "took_effect", number_json counts.took_effect) ∷ (codes "left_out", number_json counts.left_out) ∷ [])

-- the puts of unknown outcome, if there are any
abbrev pub outcome_members : OutcomeCounts → List Member
outcome_members counts = if has_none counts then [] else (codes "unknown_outcomes", outcomes_json counts) ∷ []

-- the verdict, the numbers of operations, puts and faults, and the puts of unknown outcome, if there are any
abbrev pub verdict_members : ANamedHistory → List ℕ → ℕ → List Member
verdict_members named verdict faults =
    (codes "verdict", text_json verdict) ∷ (codes "operations", number_json (count_of named.sessions))
    ∷ (codes "puts", number_json (put_count named.sessions)) ∷ (codes "faults", number_json faults)
    ∷ outcome_members (outcomes_of named.naming)

-- the name of the class of faults
abbrev pub class_text : Faults → List ℕ
class_text (class.Doubled names) = codes "doubled"
class_text (class.NoSource names) = codes "no source"
class_text (class.NotAbove faults) = codes "not above"
class_text (class.Stale faults) = codes "stale"

-- the classes that come after that of these faults, for which no audit looks while there are any of these
abbrev pub later_classes : Faults → List (List ℕ)
later_classes (class.Doubled names) = codes "no source" ∷ codes "not above" ∷ codes "stale" ∷ []
later_classes (class.NoSource names) = codes "not above" ∷ codes "stale" ∷ []
later_classes (class.NotAbove faults) = codes "stale" ∷ []
later_classes (class.Stale faults) = []

abbrev pub texts_json : List (List ℕ) → Data
texts_json texts = list_json (map text_json texts)

-- the class of faults, the objects of those that are asked for, and the classes that were not looked for
abbrev pub refusal_members : Faults → List Data → List Member
refusal_members faults explained =
    (codes "class", text_json (class_text faults)) ∷ (codes "explained", list_json explained)
    ∷ (codes "not_looked_for", texts_json (later_classes faults)) ∷ []

-- the object of the fault with a number, if there is one
abbrev pub IsOne : ANamedHistory → ℕ → Option Fault → List Data → Type 0
IsOne named number (Some fault) list = AreFaults named number (fault ∷ []) list
IsOne named number None list = list ≡ []

-- the objects of the faults that are asked for
abbrev pub AreAsked : ANamedHistory → List Fault → Selection → List Data → Type 0
AreAsked named faults First list = AreFaults named 1 (take FIRST_FAULTS faults) list
AreAsked named faults All list = AreFaults named 1 faults list
AreAsked named faults (One number) list = IsOne named number (fault_of_number faults number) list

-- the object of a verdict: of a refusal it has the faults that are asked for
abbrev pub IsVerdictJson : ANamedHistory → Verdict → Selection → Data → Type 0
IsVerdictJson named (Accepted puts) asked json = json ≡ object_json (verdict_members named (codes "accepted") 0)
IsVerdictJson named (Refused faults) asked json = (explained : List Data)
    × AreAsked named (faults_of faults) asked explained
    × (json ≡ object_json (verdict_members named (codes "refused") (length (faults_of faults)) ++ refusal_members faults explained))

-- the explanation: the text of the verdict's object, in a line
abbrev pub IsExplainedJson : ANamedHistory → Verdict → Selection → List ℕ → Type 0
IsExplainedJson named verdict asked text = (json : Data) × IsVerdictJson named verdict asked json × (text ≡ line_text json)
