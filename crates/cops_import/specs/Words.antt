-- The line that reports a wrong line, and the text that an import prints.
use Rattle.std.specs.Prelude.{ℕ, ◌+◌, List, [], ◌∷◌, ◌++◌, codes, decimal, length}
use Rattle.cops_types.specs.Texts.{◌⧺◌}
use Rattle.cops_wire.specs.Shown.{bytes_text}
use Rattle.std.specs.Prelude.{if◌then◌else◌}
use Rattle.std.specs.Option.{is_some}
use Rattle.cops_outcomes.specs.Words.{outcome_text}
use Rattle.cops_import.specs.Outcomes.{outcome_counts}
use Rattle.cops_import.specs.declared.fault.JsonLineFault.{JsonLineFault}
use Rattle.cops_import.specs.declared.outcome.Outcome.{Outcome}
use Rattle.cops_import.specs.declared.fault.JsonLineFault.TheVariants.{NoJson, NoClient, NoOperation, BothOperations, BadKey, BadValue, BadVersion, NeedsFormat2, TooManyClients, TooManyOperations}

abbrev pub words_of : JsonLineFault → List ℕ
words_of NoJson = codes "no JSON"
words_of NoClient = codes "no client"
words_of NoOperation = codes "no operation"
words_of BothOperations = codes "both operations"
words_of BadKey = codes "bad key"
words_of BadValue = codes "bad value"
words_of BadVersion = codes "bad version"
words_of NeedsFormat2 = codes "needs format 2"
words_of TooManyClients = codes "too many clients"
words_of TooManyOperations = codes "too many operations"

-- the line's number, and what is wrong with it
abbrev pub faulty_line : ℕ → JsonLineFault → List ℕ
faulty_line number fault = codes "faulty: line " ⧺ decimal number ⧺ codes ": " ⧺ words_of fault ⧺ codes "\n"

-- a client's number and its name, whose bytes are shown as those of a key
abbrev pub client_line : ℕ → List ℕ → List ℕ
client_line number name = codes "client " ⧺ decimal number ⧺ codes " " ⧺ bytes_text name ⧺ codes "\n"

-- a line for each client, numbered from `number`
abbrev pub client_lines : ℕ → List (List ℕ) → List ℕ
client_lines number [] = []
client_lines number (name ∷ names) = client_line number name ++ client_lines (number + 1) names

-- the numbers of operations and clients
abbrev pub count_line : ℕ → ℕ → List ℕ
count_line operations clients = codes "imported: " ⧺ decimal operations ⧺ codes " operations, " ⧺ decimal clients ⧺ codes " clients\n"

-- the client of its own of a put of unknown outcome, which is called by the line of the put
abbrev pub own_line : ℕ → Outcome → List ℕ
own_line number o = codes "client " ⧺ decimal number ⧺ codes " " ⧺ bytes_text o.name ⧺ codes ", line " ⧺ decimal o.line ⧺ codes "\n"

-- a line for each of the puts that took effect, numbered from `number`
abbrev pub own_lines : ℕ → List Outcome → List ℕ
own_lines number [] = []
own_lines number (o ∷ os) = if is_some o.version then own_line number o ++ own_lines (number + 1) os else own_lines number os

-- the text that an import prints: the clients, the counts, and how many puts of unknown outcome took effect
abbrev pub reported_text : List (List ℕ) → List Outcome → ℕ → List ℕ
reported_text names unknown operations =
    client_lines 0 names ++ own_lines (length names) unknown
    ++ count_line operations (length names + (outcome_counts unknown).took_effect) ++ outcome_text (outcome_counts unknown)
