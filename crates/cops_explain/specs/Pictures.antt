-- The picture of one fault of a verdict.
use Rattle.std.specs.Prelude.{◌≡◌, ℕ, List, ◌++◌, codes, Option, Some, None}
use Rattle.cops_types.specs.Texts.{◌⧺◌}
use Rattle.cops_audit.specs.declared.verdict.Verdict.{Verdict}
use Rattle.cops_audit.specs.declared.verdict.Verdict.TheVariants.{Accepted, Refused}
use Rattle.cops_audit.specs.declared.fault.Fault.{Fault}
use Rattle.cops_explain.specs.declared.contents.Form.TheVariants.{Escaped}
use Rattle.cops_explain.specs.declared.naming.Naming.{Naming}
use Rattle.cops_explain.specs.Names.{fault_text}
use Rattle.cops_audit.specs.Faults.{fault_of_number, faults_of}

-- the fault with this number, in the order of the report: none for an accepted history, and none above the number of faults
abbrev pub fault_at : Verdict → ℕ → Option Fault
fault_at (Accepted puts) number = None
fault_at (Refused faults) number = fault_of_number (faults_of faults) number

-- the text gains more at its end
abbrev pub Extends : List ℕ → List ℕ → Type 0
Extends old new = (more : List ℕ) × (new ≡ old ++ more)

-- the text ends as a picture does
abbrev pub IsEnded : List ℕ → Type 0
IsEnded text = (body : List ℕ) × (text ≡ body ++ codes "</svg>\n")

-- a text that begins as the picture of the fault does, with the label by which it is read aloud, and ends as a picture does
abbrev pub IsPictureOf : Naming → Fault → List ℕ → Type 0
IsPictureOf naming fault text = (rest : List ℕ) × IsEnded rest
    × (text ≡ codes "<svg xmlns=\"http://www.w3.org/2000/svg\" role=\"img\" aria-label=\"" ⧺ fault_text Escaped naming fault ⧺ codes "\"" ⧺ rest)

-- a picture of the fault with this number
abbrev pub IsPicture : Naming → Verdict → ℕ → List ℕ → Type 0
IsPicture naming verdict number text = (fault : Fault) × (fault_at verdict number ≡ Some fault) × IsPictureOf naming fault text
