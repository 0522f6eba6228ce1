-- The explanation of a verdict.
use Rattle.std.specs.Prelude.{◌≡◌, ◌==◌, ◌+◌, ◌-◌, if◌then◌else◌, ℕ, zero, suc, List, [], ◌∷◌, ◌++◌, length, take, codes, decimal, Option, Some, None}
use Rattle.cops_types.specs.Counts.{count_of, put_count}
use Rattle.cops_types.specs.Texts.{◌⧺◌}
use Rattle.cops_outcomes.specs.Words.{outcome_text}
use Rattle.cops_audit.specs.declared.verdict.Verdict.{Verdict}
use Rattle.cops_audit.specs.declared.verdict.Verdict.TheVariants.{Accepted, Refused}
use Rattle.cops_audit.specs.declared.verdict.Faults.{Faults}
use Rattle.cops_audit.specs.declared.verdict.Faults.TheVariants as class
use Rattle.cops_report.specs.Reports.{accepted_line}
use Rattle.cops_types.specs.declared.selection.Selection.{Selection}
use Rattle.cops_types.specs.declared.selection.Selection.TheVariants.{First, All, One}
use Rattle.cops_explain.specs.declared.limits.TheConstants.{FIRST_FAULTS}
use Rattle.cops_audit.specs.declared.fault.Fault.{Fault}
use Rattle.cops_audit.specs.Faults.{fault_of_number, faults_of}
use Rattle.cops_explain.specs.Naming.{ANamedHistory, outcomes_of}
use Rattle.cops_explain.specs.Paragraphs.{IsParagraph}

-- a paragraph for each fault, numbered from this number on
abbrev pub AreParagraphs : ANamedHistory → ℕ → List Fault → List ℕ → Type 0
AreParagraphs h number [] text = text ≡ []
AreParagraphs h number (fault ∷ faults) text = (reported : List ℕ) × (rest : List ℕ)
    × IsParagraph h number fault reported × (text ≡ reported ++ rest) × AreParagraphs h (number + 1) faults rest

-- the text gains the paragraphs of faults
abbrev pub AddsParagraphs : ANamedHistory → ℕ → List Fault → List ℕ → List ℕ → Type 0
AddsParagraphs h number faults old new = (reported : List ℕ) × AreParagraphs h number faults reported × (new ≡ old ++ reported)

-- a count with its noun, after other words: the noun has an s unless the count is one
abbrev pub counted : List ℕ → ℕ → List ℕ → List ℕ
counted before count word =
    if count == 1 then before ⧺ codes "1 " ⧺ word else before ⧺ decimal count ⧺ codes " " ⧺ word ⧺ codes "s"

-- the first line of a refusal: refused: 5 operations, 3 puts, 1 fault
abbrev pub first_line : ℕ → ℕ → ℕ → List ℕ
first_line operations puts faults =
    counted (codes "refused: ") operations (codes "operation") ⧺ counted (codes ", ") puts (codes "put")
    ⧺ counted (codes ", ") faults (codes "fault") ⧺ codes "\n"

-- the classes that come after that of these faults, for which no audit looks while there are any of these
abbrev pub later_text : Faults → List ℕ
later_text (class.Doubled names) =
    codes "\nnot looked for while duplicate versions remain: reads without a source, puts out of order, stale reads\n"
later_text (class.NoSource names) = codes "\nnot looked for while reads without a source remain: puts out of order, stale reads\n"
later_text (class.NotAbove faults) = codes "\nnot looked for while puts out of order remain: stale reads\n"
later_text (class.Stale faults) = []

-- how many faults are left out, if any are
abbrev pub more_text : ℕ → List ℕ
more_text zero = []
more_text (suc more) = codes "\nand " ⧺ decimal (suc more) ⧺ codes " more: --all explains every fault, --fault N the fault of that number\n"

abbrev pub none_text : ℕ → List ℕ
none_text number = codes "\nthere is no fault " ⧺ decimal number ⧺ codes "\n"

-- the paragraph of the fault with a number, or that there is none
abbrev pub ExplainsOne : ANamedHistory → ℕ → Option Fault → List ℕ → Type 0
ExplainsOne h number (Some fault) text = IsParagraph h number fault text
ExplainsOne h number None text = text ≡ none_text number

-- the explanation of the faults that are asked for
abbrev pub ExplainsAsked : ANamedHistory → List Fault → Selection → List ℕ → Type 0
ExplainsAsked h faults First text = (reported : List ℕ)
    × AreParagraphs h 1 (take FIRST_FAULTS faults) reported × (text ≡ reported ++ more_text (length faults - FIRST_FAULTS))
ExplainsAsked h faults All text = AreParagraphs h 1 faults text
ExplainsAsked h faults (One number) text = ExplainsOne h number (fault_of_number faults number) text

-- the text gains the explanation of the faults that are asked for
abbrev pub AddsAsked : ANamedHistory → List Fault → Selection → List ℕ → List ℕ → Type 0
AddsAsked h faults asked old new = (reported : List ℕ) × ExplainsAsked h faults asked reported × (new ≡ old ++ reported)

-- for an accepted history the line of the report; otherwise the numbers of operations, puts and faults, the explanation of the faults that are asked
-- for, and the classes that were not looked for. After the first line comes that of the puts of unknown outcome, if there are any
abbrev pub IsExplained : ANamedHistory → Verdict → Selection → List ℕ → Type 0
IsExplained h (Accepted puts) asked text = text ≡ accepted_line (count_of h.sessions) (put_count h.sessions) ⧺ outcome_text (outcomes_of h.naming)
IsExplained h (Refused faults) asked text = (reported : List ℕ)
    × ExplainsAsked h (faults_of faults) asked reported
    × (text ≡ first_line (count_of h.sessions) (put_count h.sessions) (length (faults_of faults))
    ⧺ outcome_text (outcomes_of h.naming) ⧺ reported ⧺ later_text faults)
