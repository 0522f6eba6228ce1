-- Why a text of lines does not make a trace.
use Rattle.std.specs.Prelude.{◌≡◌, ◌≢◌, ◌⊎◌, ℕ, ◌+◌, ◌^◌, ◌<◌, ◌≤◌, List, [], ◌∷◌, ◌++◌, length, Option, Some}
use Rattle.cops_types.specs.Failures.{Failed}
use Rattle.cops_types.specs.declared.limits.TheConstants.{MAX_CLIENTS, MAX_CLIENT_OPS, MAX_OPS}
use Rattle.cops_trace.specs.Live.{IsCutShort}
use Rattle.cops_trace.specs.Text.{turn}
use Rattle.cops_import.specs.Line.{IsFaulty, LineGives, LineLacksRank}
use Rattle.std.specs.Prelude.{false}
use Rattle.std.specs.List.{list_any}
use Rattle.cops_outcomes.specs.Outcomes.{same_write}
use Rattle.cops_import.specs.Lines.{AReturned, LinesGive, lines, names_of, ops_of, records_of, returned_of}
use Rattle.cops_import.specs.Names.{number_of}
use Rattle.cops_import.specs.declared.fault.ImportFault.{ImportFault}
use Rattle.cops_import.specs.declared.fault.ImportFault.TheVariants.{Memory, Changed, Endless, Line, ReadFailed, WriteFailed}
use Rattle.cops_import.specs.declared.fault.JsonLineFault.{JsonLineFault}
use Rattle.cops_import.specs.declared.fault.JsonLineFault.TheVariants.{TooManyClients, TooManyOperations}
use Rattle.cops_import.specs.declared.reported.LineOp.{LineOp}
use Rattle.cops_import.specs.declared.reported.Reported.{Reported}
use Rattle.cops_import.specs.declared.reported.Reported.TheVariants.{Known, Unknown}
use Rattle.cops_import.specs.declared.reported.UnknownPut.{UnknownPut}
use Rattle.cops_import.specs.declared.rules.Expected.{Expected}
use Rattle.cops_import.specs.declared.rules.Rules.{Rules}
use Rattle.cops_outcomes.specs.declared.write.Write.{Write}

-- after these operations the client may have one record more, and so may the whole trace
abbrev pub HasRoomAfter : List LineOp → ℕ → Type 0
HasRoomAfter given client = (turn client (records_of given) < MAX_CLIENT_OPS) × (length given < MAX_OPS)

-- the next operation exceeds a limit after these
abbrev pub IsTooMany : List LineOp → LineOp → JsonLineFault → Type 0
IsTooMany given reported TooManyClients = MAX_CLIENTS < length (names_of (given ++ reported ∷ []))
IsTooMany given reported TooManyOperations =
    (length (names_of (given ++ reported ∷ [])) ≤ MAX_CLIENTS) × (HasRoomAfter given (number_of (names_of (given ++ reported ∷ [])) reported.name) → ⊥)
IsTooMany given reported _ = ⊥

-- what is wrong with the line of this number after lines with these operations: it is faulty itself, or its operation exceeds a limit
abbrev pub IsFaultyAfter : Rules → ℕ → List Reported → List ℕ → JsonLineFault → Type 0
IsFaultyAfter rules number given line fault =
    IsFaulty rules line fault ⊎ ((reported : LineOp) × LineGives rules number line (Some (Known reported)) × IsTooMany (ops_of given) reported fault)

-- the first wrong line, counted from 1
pub record IsFirstFaulty (rules : Rules) (bytes : List ℕ) (number : ℕ) (fault : JsonLineFault) : Type 0 where
  pub before : List (List ℕ)
  pub line : List ℕ
  pub after : List (List ℕ)
  pub split : lines bytes ≡ before ++ line ∷ after
  pub counted : number ≡ length before + 1
  pub given : List Reported
  pub report : LinesGive rules before given
  pub wrong : IsFaultyAfter rules number given line fault

-- a put of unknown outcome that took effect is the first that exceeds a limit, after operations with known outcomes and other such puts
abbrev pub IsOneTooMany : List LineOp → List AReturned → JsonLineFault → Type 0
IsOneTooMany ops earlier TooManyClients = length (names_of ops) + length earlier ≡ MAX_CLIENTS
IsOneTooMany ops earlier TooManyOperations = (length (names_of ops) + length earlier < MAX_CLIENTS) × (length ops + length earlier ≡ MAX_OPS)
IsOneTooMany ops earlier _ = ⊥

-- all lines are right, and the put of the line of this number is the first of those of unknown outcome that exceeds a limit
pub record IsFirstBeyond (rules : Rules) (bytes : List ℕ) (number : ℕ) (fault : JsonLineFault) : Type 0 where
  pub given : List Reported
  pub report : LinesGive rules (lines bytes) given
  pub before : List AReturned
  pub returned : AReturned
  pub after : List AReturned
  pub split : returned_of given ≡ before ++ returned ∷ after
  pub counted : number ≡ returned.put.line
  pub beyond : IsOneTooMany (ops_of given) before fault

-- the line that is reported as wrong
abbrev pub IsWrongLine : Rules → List ℕ → ℕ → JsonLineFault → Type 0
IsWrongLine rules bytes number fault = IsFirstFaulty rules bytes number fault ⊎ IsFirstBeyond rules bytes number fault

-- a prefix of the lines names more than `clients` clients
pub record NamesMore (rules : Rules) (clients : ℕ) (bytes : List ℕ) : Type 0 where
  pub first : List (List ℕ)
  pub rest : List (List ℕ)
  pub split : lines bytes ≡ first ++ rest
  pub given : List Reported
  pub report : LinesGive rules first given
  pub more : clients < length (names_of (ops_of given))

-- all lines together do not have exactly `clients` clients: those that they name, and those of puts of unknown outcome that took effect
abbrev pub NamesOthers : Rules → ℕ → List ℕ → Type 0
NamesOthers rules clients bytes =
    (given : List Reported) × LinesGive rules (lines bytes) given × (length (names_of (ops_of given)) + length (returned_of given) ≢ clients)

-- the version of a line has no rank, and the lines before it are right
pub record HasUnranked (rules : Rules) (bytes : List ℕ) : Type 0 where
  pub before : List (List ℕ)
  pub line : List ℕ
  pub after : List (List ℕ)
  pub split : lines bytes ≡ before ++ line ∷ after
  pub given : List Reported
  pub report : LinesGive rules before given
  pub unranked : LineLacksRank rules line

-- the line of this number has a put of unknown outcome whose write is none of these
abbrev pub LineIsUnlisted : Rules → List Write → ℕ → List ℕ → Type 0
LineIsUnlisted rules writes number line =
    (put : UnknownPut) × LineGives rules number line (Some (Unknown put)) × (list_any (same_write put.write) writes ≡ false)

-- a line has such a put, and the lines before it are right
pub record HasUnlisted (rules : Rules) (writes : List Write) (bytes : List ℕ) : Type 0 where
  pub before : List (List ℕ)
  pub line : List ℕ
  pub after : List (List ℕ)
  pub split : lines bytes ≡ before ++ line ∷ after
  pub given : List Reported
  pub report : LinesGive rules before given
  pub unlisted : LineIsUnlisted rules writes (length before + 1) line

-- what a fault says of the whole text, where the caller said what it is expected to have
abbrev pub IsFaultOf : Rules → Expected → List ℕ → ImportFault → Type 0
IsFaultOf rules expected bytes (Line number fault) = IsWrongLine rules bytes number fault
IsFaultOf rules expected bytes Changed =
    NamesMore rules expected.clients bytes ⊎ NamesOthers rules expected.clients bytes ⊎ HasUnranked rules bytes ⊎ HasUnlisted rules expected.unknown bytes
IsFaultOf rules expected bytes Endless = 2 ^ 40 ≤ length bytes
IsFaultOf rules expected bytes _ = Unit {0}

-- what a fault says of the writer's failures: it failed with `WriteFailed`, and otherwise did not; `Memory` says nothing about it
abbrev pub IsHeardBy : ImportFault → ℕ → ℕ → Type 0
IsHeardBy Memory old new = Unit {0}
IsHeardBy (WriteFailed written) old new = Failed old new
IsHeardBy _ old new = new ≡ old

-- what a fault says of the reader's failures
abbrev pub IsReadBy : ImportFault → ℕ → ℕ → Type 0
IsReadBy ReadFailed old new = Failed old new
IsReadBy _ old new = new ≡ old

-- a proper prefix of a trace's text was written; with `WriteFailed` its length is `written`
abbrev pub IsCutBy : ImportFault → Option (List ℕ) → Option (List ℕ) → Type 0
IsCutBy (WriteFailed written) old new = IsCutShort old new written
IsCutBy _ old new = (written : ℕ) × IsCutShort old new written
