-- The operations of a text's lines, and the trace of them.
use Rattle.std.specs.Prelude.{◌≡◌, ◌==◌, ◌+◌, ℕ, false, List, [], ◌∷◌, ◌++◌, Option, None, Some, length, map, fold}
use Rattle.std.specs.List.{All, slice_split}
use Rattle.cops_types.specs.Histories.{Operation, write}
use Rattle.cops_types.specs.Operations.{operation_of}
use Rattle.cops_types.specs.declared.format.Format.{Format}
use Rattle.cops_trace.specs.Text.{ARecord, ATrace}
use Rattle.cops_outcomes.specs.Outcomes.{outcomes}
use Rattle.cops_import.specs.declared.rules.Rules.{Rules}
use Rattle.cops_import.specs.Line.{LineGives}
use Rattle.cops_import.specs.Names.{number_of, with_name}
use Rattle.cops_import.specs.declared.reported.LineOp.{LineOp}
use Rattle.cops_import.specs.declared.reported.Reported.{Reported}
use Rattle.cops_import.specs.declared.reported.Reported.TheVariants.{Known, Unknown}
use Rattle.cops_import.specs.declared.reported.UnknownPut.{UnknownPut}

-- bytes within a line: none is a line feed
abbrev pub IsWithin : List ℕ → Type 0
IsWithin line = All (λ b. (b == 10) ≡ false) line

-- the lines of a text: its parts between line feeds, so that the last one may be empty
abbrev pub lines : List ℕ → List (List ℕ)
lines bytes = slice_split (λ b. b == 10) bytes

-- what was reported, with that of one more line, if it has something
abbrev pub with_reported : List Reported → Option Reported → List Reported
with_reported given None = given
with_reported given (Some reported) = given ++ reported ∷ []

-- `given` is what was reported `earlier`, and then what these lines report, of which the first has this number: at most one operation for each line
abbrev pub GiveAfter : Rules → ℕ → List Reported → List (List ℕ) → List Reported → Type 0
GiveAfter rules number earlier [] given = given ≡ earlier
GiveAfter rules number earlier (line ∷ lines) given =
    (reported : Option Reported) × LineGives rules number line reported × GiveAfter rules (number + 1) (with_reported earlier reported) lines given

-- `given` are the operations of the lines, in their order
abbrev pub LinesGive : Rules → List (List ℕ) → List Reported → Type 0
LinesGive rules lines given = GiveAfter rules 1 [] lines given

-- the operations with known outcomes
abbrev pub ops_of : List Reported → List LineOp
ops_of [] = []
ops_of (Known reported ∷ given) = reported ∷ ops_of given
ops_of (Unknown put ∷ given) = ops_of given

-- the puts of unknown outcome
abbrev pub unknown_of : List Reported → List UnknownPut
unknown_of [] = []
unknown_of (Known reported ∷ given) = unknown_of given
unknown_of (Unknown put ∷ given) = put ∷ unknown_of given

-- the names of the clients in the order in which they first appear
abbrev pub names_of : List LineOp → List (List ℕ)
names_of ops = fold (λ names reported. with_name names reported.name) [] ops

-- the record of an operation, whose client's name is among these
abbrev pub record_of : List (List ℕ) → LineOp → ARecord
record_of names reported = record { client = number_of names reported.name; op = operation_of reported.op }

-- a record for each operation, in their order
abbrev pub records_of : List LineOp → List ARecord
records_of ops = map (record_of (names_of ops)) ops

-- as the trace has them
abbrev pub operations_of : List LineOp → List Operation
operations_of ops = map (λ reported. operation_of reported.op) ops

-- the versions of puts of unknown outcome, in their order: none of one that is left out
abbrev pub versions_in : List Operation → List UnknownPut → List (Option ℕ)
versions_in ops puts = outcomes ops [] (map (λ put. put.write) puts)

-- a put of unknown outcome that took effect, and its version
pub record AReturned : Type 0 where
  pub put : UnknownPut
  pub version : ℕ

-- those puts that have a version
abbrev pub with_versions : List UnknownPut → List (Option ℕ) → List AReturned
with_versions (put ∷ puts) (Some version ∷ versions) = record { put = put; version = version } ∷ with_versions puts versions
with_versions (put ∷ puts) (None ∷ versions) = with_versions puts versions
with_versions _ _ = []

-- the puts of unknown outcome that took effect, as these operations show
abbrev pub returned_in : List Operation → List UnknownPut → List AReturned
returned_in ops puts = with_versions puts (versions_in ops puts)

abbrev pub returned_of : List Reported → List AReturned
returned_of given = returned_in (operations_of (ops_of given)) (unknown_of given)

-- the records of puts that took effect, each of a client of its own: the first of these clients has this number
abbrev pub own_records : ℕ → List AReturned → List ARecord
own_records client [] = []
own_records client (r ∷ rs) = record { client = client; op = write r.put.write.key r.put.write.content r.version } ∷ own_records (client + 1) rs

-- the trace of operations with known outcomes, and then of other puts that took effect, each of a client of its own
abbrev pub trace_with : Format → List LineOp → List AReturned → ATrace
trace_with format ops returned =
    let names = length (names_of ops) in
    record { format = format; clients = names + length returned; records = records_of ops ++ own_records names returned }

-- the trace of all operations
abbrev pub trace_of : Format → List Reported → ATrace
trace_of format given = trace_with format (ops_of given) (returned_of given)
