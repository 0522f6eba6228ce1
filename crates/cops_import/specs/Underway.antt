-- An import in progress.
use Rattle.std.specs.Prelude.{◌≡◌, ◌≢◌, ◌⊎◌, ℕ, ◌<◌, List, [], ◌∷◌, ◌++◌, length, Option, Some, IfSome}
use Rattle.std.specs.Io.KnownBytes.{Appends}
use Rattle.cops_types.specs.Counted.{failures, inner}
use Rattle.cops_types.specs.declared.counted.Counted.{Counted}
use Rattle.cops_types.specs.declared.format.Format.{Format}
use Rattle.cops_trace.specs.Counts.{AreCountsOf}
use Rattle.cops_trace.specs.Text.{ATrace, IsTrace, beginning, text}
use Rattle.cops_trace.specs.declared.writer.TraceWriter.{TraceWriter}
use Rattle.std.specs.Prelude.{◌+◌, ◌≤◌, true}
use Rattle.std.specs.List.{All, list_any}
use Rattle.cops_types.specs.Format.{Fits}
use Rattle.cops_outcomes.specs.Outcomes.{same_write}
use Rattle.cops_outcomes.specs.Sightings.{AnOutcomes, IsAfter, IsSighted}
use Rattle.cops_import.specs.Outcomes.{outcomes_in}
use Rattle.cops_import.specs.declared.outcome.Outcome.{Outcome}
use Rattle.cops_import.specs.Faults.{IsCutBy, IsFaultOf, IsFaultyAfter, IsHeardBy, IsOneTooMany, IsTooMany, LineIsUnlisted}
use Rattle.cops_import.specs.Imports.{IsSummary}
use Rattle.cops_import.specs.Line.{LineGives, LineLacksRank}
use Rattle.cops_import.specs.Lines.{AReturned, IsWithin, LinesGive, lines, names_of, operations_of, ops_of, records_of, returned_in, returned_of, trace_of, trace_with, unknown_of, with_reported}
use Rattle.cops_import.specs.declared.fault.ImportFault.{ImportFault}
use Rattle.cops_import.specs.declared.fault.ImportFault.TheVariants.{Changed, Endless, Line, Memory}
use Rattle.cops_import.specs.declared.ending.Ending.{Ending}
use Rattle.cops_import.specs.declared.imported.Imported.{Imported}
use Rattle.cops_import.specs.declared.importer.Importer.{Importer}
use Rattle.cops_import.specs.declared.reported.LineOp.{LineOp}
use Rattle.cops_import.specs.declared.reported.Reported.{Reported}
use Rattle.cops_import.specs.declared.reported.Reported.TheVariants.{Known}
use Rattle.cops_import.specs.declared.reported.UnknownPut.{UnknownPut}
use Rattle.cops_import.specs.declared.rules.Expected.{Expected}
use Rattle.cops_import.specs.declared.rules.Rules.{Rules}
use Rattle.cops_outcomes.specs.declared.write.Write.{Write}

-- the format of the trace that is written
abbrev pub format_of : {W : Type 0} → Importer W → Format
format_of i = i.writer.counts.format

-- how lines are read
abbrev pub rules_of : {W : Type 0} → Importer W → Rules
rules_of i = record { format = format_of i; versions = i.versions }

-- what lines are expected to have
abbrev pub expected_of : {W : Type 0} → Importer W → Expected
expected_of i = record { clients = i.clients; unknown = i.sightings.writes }

-- the trace of these operations, with the number of clients that the caller said
abbrev pub known_to : Format → ℕ → List LineOp → ATrace
known_to format clients ops = record { format = format; clients = clients; records = records_of ops }

-- the trace of these operations, and of these other puts that took effect
abbrev pub trace_to : Format → ℕ → List LineOp → List AReturned → ATrace
trace_to format clients ops returned = record (trace_with format ops returned) { clients = clients }

-- the head and the records of a trace were written, and the writer did not fail
pub record HasWritten {W : Type 0} (contents : W → Option (List ℕ)) (from : Counted W) (t : ATrace) (w : TraceWriter W) : Type 0 where
  pub is_trace : IsTrace t
  pub counts : AreCountsOf t w.counts
  pub in_all : w.written ≡ length (beginning t)
  pub appends : Appends (contents (inner from)) (contents (inner w.writer)) (beginning t)
  pub heard : failures w.writer ≡ failures from

-- the importer took these operations: it has their names, and wrote their records
pub record HasOps {W : Type 0} (contents : W → Option (List ℕ)) (from : Counted W) (ops : List LineOp) (i : Importer W) : Type 0 where
  pub names : i.names ≡ names_of ops
  pub few : length (names_of ops) ≤ i.clients
  pub operations : i.operations ≡ length ops
  pub wrote : HasWritten contents from (known_to (format_of i) i.clients ops) i.writer

-- what this put of unknown outcome writes is one of these, and in the format
abbrev pub IsListed : Format → List Write → UnknownPut → Type 0
IsListed format writes put = (list_any (same_write put.write) writes ≡ true) × Fits format put.write.content

-- the importer took what lines reported: it wrote the operations with known outcomes and saw them, and it keeps the puts of unknown outcome
pub record HasTaken {W : Type 0} (contents : W → Option (List ℕ)) (from : Counted W) (given : List Reported) (i : Importer W) : Type 0 where
  pub ops : HasOps contents from (ops_of given) i
  pub sighted : IsSighted i.sightings (operations_of (ops_of given))
  pub unknown : i.unknown.items ≡ unknown_of given
  pub listed : All (IsListed (format_of i) i.sightings.writes) (unknown_of given)

-- the importer took the line's operation, if it has one
abbrev pub TakesLine : {W : Type 0} → (W → Option (List ℕ)) → Counted W → Rules → ℕ → List Reported → List ℕ → Importer W → Type 0
TakesLine contents from rules number given line i =
    (reported : Option Reported) × LineGives rules number line reported × HasTaken contents from (with_reported given reported) i

-- the importer took `fed`: all lines that ended, and the last line as far as it came, which it keeps
pub record IsUnderway {W : Type 0} (contents : W → Option (List ℕ)) (from : Counted W) (fed : List ℕ) (i : Importer W) : Type 0 where
  pub ended : List (List ℕ)
  pub given : List Reported
  pub report : LinesGive (rules_of i) ended given
  pub counted : i.ended ≡ length ended
  pub split : (more : List ℕ) → lines (fed ++ more) ≡ ended ++ lines (i.line.items ++ more)
  pub within : IsWithin i.line.items
  pub taken : HasTaken contents from given i

-- the records of these operations and of these other puts were written, and the next client of its own has this number
pub record HasOwn {W : Type 0} (contents : W → Option (List ℕ)) (from : Counted W) (ops : List LineOp) (returned : List AReturned) (e : Ending W) : Type 0 where
  pub next : e.client ≡ length (names_of ops) + length returned
  pub few : e.client ≤ e.clients
  pub wrote : HasWritten contents from (trace_to e.writer.counts.format e.clients ops returned) e.writer

-- the records of these operations were written, and the outcomes of these puts, which are listed, can be asked for
pub record IsBegun {W : Type 0} (contents : W → Option (List ℕ)) (from : Counted W) (ops : List LineOp) (puts : List UnknownPut) (outcomes : AnOutcomes) (e : Ending W) : Type 0 where
  pub own : HasOwn contents from ops [] e
  pub listed : All (IsListed e.writer.counts.format outcomes.writes) puts
  pub asked : IsAfter outcomes (operations_of ops) []

-- the records of those of the puts that took effect were written too, and these are the outcomes of all
pub record HasEnding {W : Type 0} (contents : W → Option (List ℕ)) (from : Counted W) (ops : List LineOp) (puts : List UnknownPut) (unknown : List Outcome) (e : Ending W) : Type 0 where
  pub own : HasOwn contents from ops (returned_in (operations_of ops) puts) e
  pub unknown_are : unknown ≡ outcomes_in (operations_of ops) puts

-- the end record was written after the records of these operations and of these other puts
pub record HasEndedWith {W : Type 0} (contents : W → Option (List ℕ)) (from : Counted W) (format : Format) (clients : ℕ) (ops : List LineOp) (returned : List AReturned) (outcomes : List Outcome) (done : Imported W) : Type 0 where
  pub clients_are : length (names_of ops) + length returned ≡ clients
  pub names : done.names ≡ names_of ops
  pub unknown : done.unknown.items ≡ outcomes
  pub operations : done.operations ≡ length ops + length returned
  pub is_trace : IsTrace (trace_with format ops returned)
  pub written : Appends (contents (inner from)) (contents (inner done.writer)) (text (trace_with format ops returned))
  pub heard : failures done.writer ≡ failures from

-- the end record was written after all records
pub record HasEnded {W : Type 0} (contents : W → Option (List ℕ)) (from : Counted W) (format : Format) (clients : ℕ) (given : List Reported) (done : Imported W) : Type 0 where
  pub clients_are : length (names_of (ops_of given)) + length (returned_of given) ≡ clients
  pub summary : IsSummary given done.names done.unknown.items done.operations
  pub is_trace : IsTrace (trace_of format given)
  pub written : Appends (contents (inner from)) (contents (inner done.writer)) (text (trace_of format given))
  pub heard : failures done.writer ≡ failures from

-- the importer took all bytes that the reader had, if those are known
abbrev pub HasReadAll : {W : Type 0} → (W → Option (List ℕ)) → Counted W → Option (List ℕ) → Importer W → Type 0
HasReadAll contents from known i = (fed : List ℕ) × IsUnderway contents from fed i × IfSome known (λ bytes. bytes ≡ fed)

-- the import ended with all operations of these bytes' lines
abbrev pub Finishes : {W : Type 0} → (W → Option (List ℕ)) → Counted W → Rules → ℕ → List ℕ → Imported W → Type 0
Finishes contents from rules clients fed done = (given : List Reported) × LinesGive rules (lines fed) given × HasEnded contents from rules.format clients given done

-- ---- stopping

-- the writer, `from` before the import, has a cut text of a trace after the fault
pub record HasLeft {W : Type 0} (contents : W → Option (List ℕ)) (from : Counted W) (fault : ImportFault) (w : Counted W) : Type 0 where
  pub cut : IsCutBy fault (contents (inner from)) (contents (inner w))
  pub heard : IsHeardBy fault (failures from) (failures w)

-- the fault that stops the import at this operation, of the line of this number, after the others
abbrev pub IsStopOf : ℕ → ℕ → List LineOp → LineOp → ImportFault → Type 0
IsStopOf clients number given reported (Line n fault) = (n ≡ number) × IsTooMany given reported fault
IsStopOf clients number given reported Changed = clients < length (names_of (given ++ reported ∷ []))
IsStopOf clients number given reported Endless = ⊥
IsStopOf clients number given reported _ = Unit {0}

-- the fault that stops the import at this line, of this number, after lines with these operations
abbrev pub IsStopAt : Rules → Expected → ℕ → List Reported → List ℕ → ImportFault → Type 0
IsStopAt rules expected number given line (Line n fault) = (n ≡ number) × IsFaultyAfter rules number given line fault
IsStopAt rules expected number given line Changed =
    ((reported : LineOp) × LineGives rules number line (Some (Known reported)) × (expected.clients < length (names_of (ops_of given ++ reported ∷ []))))
    ⊎ LineLacksRank rules line ⊎ LineIsUnlisted rules expected.unknown number line
IsStopAt rules expected number given line Endless = ⊥
IsStopAt rules expected number given line _ = Unit {0}

-- the fault that stops the import at this put of unknown outcome, after these operations and these other puts that took effect
abbrev pub IsStopOfOwn : ℕ → List LineOp → List AReturned → ℕ → ImportFault → Type 0
IsStopOfOwn clients ops earlier line (Line n fault) = (n ≡ line) × IsOneTooMany ops earlier fault
IsStopOfOwn clients ops earlier line Changed = clients ≤ length (names_of ops) + length earlier
IsStopOfOwn clients ops earlier line Endless = ⊥
IsStopOfOwn clients ops earlier line _ = Unit {0}

-- the fault that stops the import at this put of unknown outcome, which took effect if it has a version
abbrev pub IsStopOfNext : ℕ → List LineOp → List AReturned → UnknownPut → Option ℕ → ImportFault → Type 0
IsStopOfNext clients ops earlier put (Some version) e = IsStopOfOwn clients ops earlier put.line e
IsStopOfNext clients ops earlier put _ e = e ≡ Memory

-- the put of this line took effect, and comes after these others that did
pub record IsNextOwn (all before : List AReturned) (line : ℕ) : Type 0 where
  pub returned : AReturned
  pub after : List AReturned
  pub split : all ≡ before ++ returned ∷ after
  pub its_line : line ≡ returned.put.line

-- the fault that stops the import at the end, after all lines with these operations
abbrev pub IsStopAtEnd : ℕ → List LineOp → List AReturned → ImportFault → Type 0
IsStopAtEnd clients ops all (Line n fault) = (before : List AReturned) × IsNextOwn all before n × IsOneTooMany ops before fault
IsStopAtEnd clients ops all Changed = length (names_of ops) + length all ≢ clients
IsStopAtEnd clients ops all Endless = ⊥
IsStopAtEnd clients ops all _ = Unit {0}

-- the import stopped: whatever bytes follow, the fault is that of the whole text
pub record HasStopped {W : Type 0} (contents : W → Option (List ℕ)) (from : Counted W) (fed : List ℕ) (fault : ImportFault) (rules : Rules) (expected : Expected) (w : Counted W) : Type 0 where
  pub says : (more : List ℕ) → IsFaultOf rules expected (fed ++ more) fault
  pub left : HasLeft contents from fault w
