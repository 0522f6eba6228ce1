-- The statuses with which the program ends, and what they say about the input and about what the writers hold before and afterwards: `made` is what
-- the writer of a trace or a picture holds, and the others are what was printed.
use Rattle.std.specs.Prelude.{◌≡◌, ◌≢◌, ◌≤◌, ℕ, Bool, true, false, List, [], Option, Some, None, Result, Ok, Err}
use Rattle.std.specs.Global.{Vec}
use Rattle.std.specs.Io.KnownBytes.{Appends, Keeps}
use Rattle.std.specs.Option.{is_some}
use Rattle.cops_types.specs.declared.limits.TheConstants.{MAX_WORKERS}
use Rattle.cops_types.specs.declared.format.Format.{Format}
use Rattle.cops_command_line.specs.declared.job.Job.{Job}
use Rattle.cops_command_line.specs.declared.job.Job.TheVariants.{Audit, SoFar, Explain, Check, Follow, Show, Import, Convert, Run, Serve}
use Rattle.cops_command_line.specs.declared.job.Wanted.{Wanted}
use Rattle.cops_trace.specs.declared.fault.TraceFault.{TraceFault}
use Rattle.cops_trace.specs.declared.fault.TraceFault.TheVariants.{Cut}
use Rattle.cops_trace.specs.Live.{IsCutShort}
use Rattle.cops_trace.specs.Text.{ATrace}
use Rattle.cops_trace.specs.Answer.{Says}
use Rattle.cops_trace.specs.Lines.{fault_line}
use Rattle.cops_scenario.specs.Scenario.{AScenario}
use Rattle.cops_scenario.specs.File.{IsTextOf, IsNoScenario}
use Rattle.cops_command.specs.Status.{number}
use Rattle.cops_command.specs.declared.status.Status.TheVariants.{Accepted, Faulty}
use Rattle.cops_audit_commands.specs.declared.audit.Answer.{Answer}
use Rattle.cops_audit_commands.specs.declared.audit.StreamFault.{StreamFault}
use Rattle.cops_audit_commands.specs.declared.audit.StreamFault.TheVariants.{BadWorkers}
use Rattle.cops_audit_commands.specs.declared.explain.Explained.{Explained}
use Rattle.cops_audit_commands.specs.declared.explain.Request.{Request}
use Rattle.cops_check.specs.Check.{DescribesConvergent, DrawingSays, WritesChecked}
use Rattle.cops_audit_commands.specs.declared.audit.Answer.TheVariants as answer
use Rattle.cops_audit_commands.specs.Audit.{Writes}
use Rattle.cops_audit_commands.specs.Convert.{ConvertsAlike, converted_line}
use Rattle.cops_audit_commands.specs.Explain.{PictureSays, WritesExplained}
use Rattle.cops_audit_commands.specs.Show.{Shows}
use Rattle.cops_audit_commands.specs.SoFar.{IsSoundSoFar, WritesSoFar}
use Rattle.cops_audit_commands.specs.Convergent.{EncodesConvergent}
use Rattle.cops_import.specs.Faults.{IsWrongLine}
use Rattle.cops_import.specs.Imports.{IsImport}
use Rattle.cops_import.specs.Line.{AreRead}
use Rattle.cops_import.specs.Words.{faulty_line, reported_text}
use Rattle.cops_import.specs.declared.fault.ImportFault.{ImportFault}
use Rattle.cops_import.specs.declared.fault.ImportFault.TheVariants.{Line}
use Rattle.cops_import.specs.declared.fault.JsonLineFault.{JsonLineFault}
use Rattle.cops_import.specs.declared.outcome.Outcome.{Outcome}
use Rattle.cops_import.specs.declared.rules.Rules.{Rules}
use Rattle.cops_import.specs.declared.rules.Versions.{Versions}
use Rattle.cops_run_command.specs.Running.{EndsWell as HasRun}
use Rattle.cops_serve.specs.Serving.{EndsTraced, IsServed}

-- the bytes are a trace's text
abbrev pub IsTraceText : List ℕ → Type 0
IsTraceText bytes = (t : ATrace) × Says bytes (Ok t)

-- the bytes are no trace's text, because of a fault
abbrev pub IsNoTraceText : List ℕ → Type 0
IsNoTraceText bytes = (e : TraceFault) × Says bytes (Err e)

-- the bytes are no trace's text, because of a fault that is no cut
abbrev pub HasOtherFault : List ℕ → Type 0
HasOtherFault bytes = (e : TraceFault) × ((offset : ℕ) → e ≢ Cut offset) × Says bytes (Err e)

-- the bytes of a picture, none where there is no picture
abbrev pub drawn_text : Option (Vec ℕ) → List ℕ
drawn_text None = []
drawn_text (Some picture) = picture.items

-- where a picture is asked for its writer gained the picture of the fault that is asked for, which is nothing where there is no such fault; otherwise
-- it holds what it held
abbrev pub Draws : Bool → (Option (Vec ℕ) → Type 0) → Option (List ℕ) → Option (List ℕ) → Type 0
Draws false IsIt made_old made_new = Keeps made_old made_new
Draws true IsIt made_old made_new = (picture : Option (Vec ℕ)) × IsIt picture × Appends made_old made_new (drawn_text picture)

-- the writer of a picture gained it where it is asked for, and otherwise holds what it held
abbrev pub Gains : Bool → Option (Vec ℕ) → Option (List ℕ) → Option (List ℕ) → Type 0
Gains false picture made_old made_new = Keeps made_old made_new
Gains true picture made_old made_new = Appends made_old made_new (drawn_text picture)

-- an explanation has this answer, and the writer of its picture gained that picture
abbrev pub HasAnswered : {E : Type 0} → Bool → Answer → Result Explained E → Option (List ℕ) → Option (List ℕ) → Type 0
HasAnswered is_drawn answer (Ok explained) made_old made_new = (explained.answer ≡ answer) × Gains is_drawn explained.picture made_old made_new
HasAnswered is_drawn answer (Err fault) made_old made_new = ⊥

-- the explanation is of bytes that are no trace, or was asked for with a wrong number of workers
abbrev pub IsFaultyAnswer : Result Explained StreamFault → Type 0
IsFaultyAnswer (Ok explained) = explained.answer ≡ answer.Faulty
IsFaultyAnswer (Err fault) = fault ≡ BadWorkers

-- what the words want of an explanation
abbrev pub request_of : Wanted → Request
request_of wanted = record { faults = wanted.faults; is_drawn = is_some wanted.picture; is_json = wanted.is_json }

-- the explanation of the bytes was printed, and the picture drawn where it is asked for
abbrev pub Explains : Request → List ℕ → Answer → Option (List ℕ) → Option (List ℕ) → Option (List ℕ) → Option (List ℕ) → Type 0
Explains request bytes answer made_old made_new old new =
    WritesExplained request bytes answer old new × Draws request.is_drawn (PictureSays request.faults bytes) made_old made_new

-- the explanation of the lines was printed, and the picture drawn where it is asked for
abbrev pub Checks : Bool → Request → List ℕ → Answer → Option (List ℕ) → Option (List ℕ) → Option (List ℕ) → Option (List ℕ) → Type 0
Checks is_ranked request bytes answer made_old made_new old new =
    WritesChecked is_ranked request bytes answer old new × Draws request.is_drawn (DrawingSays is_ranked request.faults bytes) made_old made_new

-- only an import reads its input twice
abbrev pub IsReadOnce : Job → Type 0
IsReadOnce (Import lines trace format is_ranked) = ⊥
IsReadOnce job = Unit {0}

-- the lines of an import were surveyed as its words want
abbrev pub IsSurveyed : Job → Versions → Type 0
IsSurveyed (Import lines trace format is_ranked) versions = AreRead is_ranked versions
IsSurveyed job versions = Unit {0}

-- lines are read for a trace of this format, and their versions by their ranks or as they stand
abbrev pub AreRules : Format → Bool → Rules → Type 0
AreRules format is_ranked rules = (rules.format ≡ format) × AreRead is_ranked rules.versions

-- the lines of the bytes decode to one trace, whose text its writer gained, and its clients, their number and the outcomes of its puts were printed
pub record Imports (rules : Rules) (bytes : List ℕ) (made_old made_new old new : Option (List ℕ)) : Type 0 where
  pub names : List (List ℕ)
  pub unknown : List Outcome
  pub operations : ℕ
  pub is_import : IsImport rules bytes made_old made_new names unknown operations
  pub printed : Appends old new (reported_text names unknown operations)

-- the report of a line that is wrong was printed
abbrev pub PrintsLine : ImportFault → Option (List ℕ) → Option (List ℕ) → Type 0
PrintsLine e old new = (line : ℕ) × (fault : JsonLineFault) × (e ≡ Line line fault) × Appends old new (faulty_line line fault)

-- the report of the first line of the bytes that is wrong was printed; the writer of the trace gained a proper prefix of a trace's text
pub record StopsAtLine (rules : Rules) (bytes : List ℕ) (made_old made_new old new : Option (List ℕ)) : Type 0 where
  pub line : ℕ
  pub fault : JsonLineFault
  pub is_wrong : IsWrongLine rules bytes line fault
  pub printed : Appends old new (faulty_line line fault)
  pub written : ℕ
  pub cut : IsCutShort made_old made_new written

-- the bytes are a trace's text, its writer gained that of the same trace in format 2, and how many operations it has was printed
abbrev pub HasConverted : List ℕ → Option (List ℕ) → Option (List ℕ) → Option (List ℕ) → Option (List ℕ) → Type 0
HasConverted bytes made_old made_new old new = (count : ℕ) × ConvertsAlike bytes count made_old made_new × Appends old new (converted_line count)

-- the bytes are no trace's text, the line of their fault was printed, and the writer of the trace holds what it held
abbrev pub IsUnconverted : List ℕ → Option (List ℕ) → Option (List ℕ) → Option (List ℕ) → Option (List ℕ) → Type 0
IsUnconverted bytes made_old made_new old new = (e : TraceFault) × Says bytes (Err e) × Keeps made_old made_new × Appends old new (fault_line e)

-- the bytes decode to a scenario, and a report on this number of sessions of clients of its world, which is accepted, was printed
abbrev pub HasServed : ℕ → List ℕ → Option (List ℕ) → Option (List ℕ) → Type 0
HasServed sessions bytes old new = (s : AScenario) × IsTextOf bytes s × ((text : List ℕ) × IsServed sessions s text × Appends old new text)

-- What holds where a job ends as accepted, for its input and for what the writers gained. A job that makes nothing leaves `made` as it was. Of what a
-- follow prints nothing is said.
abbrev pub EndsWell : Job → List ℕ → Option (List ℕ) → Option (List ℕ) → Option (List ℕ) → Option (List ℕ) → Type 0
EndsWell (Audit trace workers) bytes made_old made_new old new = EncodesConvergent bytes × Writes bytes answer.Accepted old new × (made_new ≡ made_old)
EndsWell (SoFar trace) bytes made_old made_new old new = IsSoundSoFar bytes × WritesSoFar bytes answer.Accepted old new × (made_new ≡ made_old)
EndsWell (Explain trace wanted) bytes made_old made_new old new =
    EncodesConvergent bytes × Explains (request_of wanted) bytes answer.Accepted made_old made_new old new
EndsWell (Check lines is_ranked wanted) bytes made_old made_new old new =
    DescribesConvergent is_ranked bytes × Checks is_ranked (request_of wanted) bytes answer.Accepted made_old made_new old new
EndsWell (Follow lines is_ranked) bytes made_old made_new old new = made_new ≡ made_old
EndsWell (Show trace) bytes made_old made_new old new = IsTraceText bytes × Shows bytes (number Accepted) old new × (made_new ≡ made_old)
EndsWell (Import lines trace format is_ranked) bytes made_old made_new old new =
    (rules : Rules) × AreRules format is_ranked rules × Imports rules bytes made_old made_new old new
EndsWell (Convert trace made) bytes made_old made_new old new = HasConverted bytes made_old made_new old new
EndsWell (Run scenario trace) bytes made_old made_new old new = HasRun bytes made_old made_new old new
EndsWell (Serve port scenario sessions idle None is_announced) bytes made_old made_new old new = HasServed sessions bytes old new × (made_new ≡ made_old)
EndsWell (Serve port scenario sessions idle (Some trace) is_announced) bytes made_old made_new old new = EndsTraced bytes sessions made_old made_new old new

-- what holds where a job ends as refused, which only audits and explanations do
abbrev pub EndsRefused : Job → List ℕ → Option (List ℕ) → Option (List ℕ) → Option (List ℕ) → Option (List ℕ) → Type 0
EndsRefused (Audit trace workers) bytes made_old made_new old new = Writes bytes answer.Refused old new × (made_new ≡ made_old)
EndsRefused (SoFar trace) bytes made_old made_new old new = WritesSoFar bytes answer.Refused old new × (made_new ≡ made_old)
EndsRefused (Explain trace wanted) bytes made_old made_new old new = Explains (request_of wanted) bytes answer.Refused made_old made_new old new
EndsRefused (Check lines is_ranked wanted) bytes made_old made_new old new =
    Checks is_ranked (request_of wanted) bytes answer.Refused made_old made_new old new
EndsRefused (Follow lines is_ranked) bytes made_old made_new old new = made_new ≡ made_old
EndsRefused job bytes made_old made_new old new = ⊥

-- What holds where a job ends as faulty: the bytes are no trace's text, or no scenario's, or one of their lines is wrong; a cut is no fault for a
-- verdict so far. No trace is written whole.
abbrev pub EndsFaulty : Job → List ℕ → Option (List ℕ) → Option (List ℕ) → Option (List ℕ) → Option (List ℕ) → Type 0
EndsFaulty (Audit trace workers) bytes made_old made_new old new = IsNoTraceText bytes × Writes bytes answer.Faulty old new × (made_new ≡ made_old)
EndsFaulty (SoFar trace) bytes made_old made_new old new = HasOtherFault bytes × WritesSoFar bytes answer.Faulty old new × (made_new ≡ made_old)
EndsFaulty (Explain trace wanted) bytes made_old made_new old new = IsNoTraceText bytes × (made_new ≡ made_old)
EndsFaulty (Check lines is_ranked wanted) bytes made_old made_new old new =
    WritesChecked is_ranked (request_of wanted) bytes answer.Faulty old new × (made_new ≡ made_old)
EndsFaulty (Follow lines is_ranked) bytes made_old made_new old new = made_new ≡ made_old
EndsFaulty (Show trace) bytes made_old made_new old new = IsNoTraceText bytes × Shows bytes (number Faulty) old new × (made_new ≡ made_old)
EndsFaulty (Import lines trace format is_ranked) bytes made_old made_new old new =
    (rules : Rules) × AreRules format is_ranked rules × StopsAtLine rules bytes made_old made_new old new
EndsFaulty (Convert trace made) bytes made_old made_new old new = IsUnconverted bytes made_old made_new old new
EndsFaulty (Run scenario trace) bytes made_old made_new old new = IsNoScenario bytes × Keeps made_old made_new
EndsFaulty (Serve port scenario sessions idle trace is_announced) bytes made_old made_new old new = IsNoScenario bytes × (made_new ≡ made_old)

-- the number of workers of an audit is allowed
abbrev pub MayWork : Job → Type 0
MayWork (Audit trace workers) = (1 ≤ workers) × (workers ≤ MAX_WORKERS)
MayWork job = Unit {0}
