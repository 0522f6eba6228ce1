-- What is no trace, in JSON.
use Rattle.std.specs.Prelude.{ℕ, List, [], ◌∷◌, codes, Option, Some, None}
use Rattle.serde_json.specs.Data.{Data}
use Rattle.cops_json.specs.Json.{number_json, text_json}
use Rattle.cops_explain_json.specs.Objects.{Member, object_json}

-- the number of the line at fault, if it has one
abbrev pub at_line : Option ℕ → List Member
at_line (Some line) = (codes "line", number_json line) ∷ []
at_line None = []

-- why it is no trace, and where
abbrev pub faulty_json : List ℕ → Option ℕ → Data
faulty_json why line = object_json ((codes "verdict", text_json (codes "faulty")) ∷ (codes "fault", text_json why) ∷ at_line line)
