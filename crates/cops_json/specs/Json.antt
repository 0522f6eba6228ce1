-- The JSON of texts and whole numbers.
use Rattle.std.specs.Prelude.{ℕ, List}
use Rattle.serde_json.specs.Data.{Data, unsigned, number, string}

abbrev pub number_json : ℕ → Data
number_json n = number (unsigned n)

abbrev pub text_json : List ℕ → Data
text_json text = string text
