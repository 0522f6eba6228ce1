-- What running a scenario produces: the trace of what its clients saw, the lines that report what happened, and the report.
use Rattle.std.specs.Prelude.{◌≡◌, ◌⊎◌, ℕ, List, [], ◌∷◌, ◌++◌, length, Option, None, Some}
use Rattle.std.specs.Io.KnownBytes.{Appends, Keeps}
use Rattle.cops_types.specs.Histories.{write, read, missed}
use Rattle.cops_node.specs.declared.outcome.Outcome.{Outcome}
use Rattle.cops_node.specs.declared.outcome.Outcome.TheVariants.{Got as Answered, Gone, Missed as Nothing}
use Rattle.cops_node.specs.Acts.{version_given}
use Rattle.cops_core.specs.declared.event.Event.{Event}
use Rattle.cops_core.specs.Acts.{Act, WriteBy, GetBy, act_of}
use Rattle.cops_core.specs.World.{World, opening}
use Rattle.cops_core.specs.Memory.{AnswersEach}
use Rattle.cops_types.specs.Verdicts.{HasAcceptedVerdict}
use Rattle.cops_trace.specs.Live.{IsCutShort}
use Rattle.cops_trace.specs.Text.{ARecord, ATrace, IsTrace, sessions_of, text}
use Rattle.cops_audit.specs.declared.verdict.Verdict.{Verdict}
use Rattle.cops_scenario.specs.Scenario.{AScenario, setting_of}
use Rattle.cops_scenario.specs.File.{IsTextOf, IsNoScenario}
use Rattle.cops_node.specs.declared.entry.Entry.{Entry}
use Rattle.cops_tie.specs.declared.outcome.ClientOutcome.{ClientOutcome}
use Rattle.cops_tie.specs.Runs.{IsRun}
use Rattle.cops_command.specs.Status.{number}
use Rattle.cops_report.specs.Reported.{IsReportOf}
use Rattle.cops_command.specs.declared.status.Status.TheVariants.{Accepted, Faulty}
use Rattle.cops_run_command.specs.Lines.{outcome_lines, client_lines}

-- the record of a client's write at this version, if it was given one
abbrev pub written_by : ℕ → List ℕ → Option (List ℕ) → Option ℕ → List ARecord
written_by client key content None = []
written_by client key content (Some version) = record { client = client; op = write key content version } ∷ []

-- what a client saw of an act with this outcome: its write if it was done, or its get
abbrev pub saw : Act → Outcome → List ARecord
saw (WriteBy client key content) outcome = written_by client key content (version_given outcome)
saw (GetBy client key) (Answered value version) = record { client = client; op = read key (Some value) version } ∷ []
saw (GetBy client key) (Gone version) = record { client = client; op = read key None version } ∷ []
saw (GetBy client key) Nothing = record { client = client; op = missed key } ∷ []
saw act outcome = []

-- what the clients saw, in the order of the events
abbrev pub all_seen : List Event → List Outcome → List ARecord
all_seen [] outcomes = []
all_seen (event ∷ events) [] = []
all_seen (event ∷ events) (outcome ∷ outcomes) = saw (act_of event) outcome ++ all_seen events outcomes

-- these events happen in order in the scenario's world, refused with `Memory` only where an answer allocates, and the trace is what its clients saw
pub record IsEventRun (s : AScenario) (events : List Event) (lines : List ℕ) (t : ATrace) : Type 0 where
  pub outcomes : List Outcome
  pub end : World
  pub ran : AnswersEach (setting_of s) (opening (setting_of s)) events outcomes end
  pub trace_is : t ≡ record { format = (setting_of s).format; clients = length s.clients; records = all_seen events outcomes }
  pub saw_these : end.sessions ≡ sessions_of t
  pub lines_are : lines ≡ outcome_lines outcomes

-- the scripts of the scenario's clients ran on threads: the logs of all nodes are one run of its world, whose clients saw the trace
pub record IsScriptRun (s : AScenario) (lines : List ℕ) (t : ATrace) : Type 0 where
  pub books : List (List Entry)
  pub events : List Event
  pub outcomes : List ClientOutcome
  pub ran : IsRun (setting_of s) s.clients books (sessions_of t) events outcomes
  pub lines_are : lines ≡ client_lines outcomes

-- the run of the scenario's events if it has them, and otherwise of its scripts
abbrev pub IsRunOf : AScenario → Option (List Event) → List ℕ → ATrace → Type 0
IsRunOf s None lines t = IsScriptRun s lines t
IsRunOf s (Some events) lines t = IsEventRun s events lines t

-- a run of the scenario with its trace, which is accepted, and its text: the lines, and then the report
pub record IsLeft (s : AScenario) (t : ATrace) (reported : List ℕ) : Type 0 where
  pub lines : List ℕ
  pub verdict : Verdict
  pub report : List ℕ
  pub is_trace : IsTrace t
  pub ran : IsRunOf s s.events lines t
  pub accepted : HasAcceptedVerdict (sessions_of t)
  pub is_report : IsReportOf (sessions_of t) verdict report
  pub reported_is : reported ≡ lines ++ report

-- how it ends successfully: the bytes decode to a scenario, one writer gained the text of a run's trace, and the other the run's text
pub record EndsWell (bytes : List ℕ) (trace_old trace_new old new : Option (List ℕ)) : Type 0 where
  pub scenario : AScenario
  pub trace : ATrace
  pub reported : List ℕ
  pub is_text : IsTextOf bytes scenario
  pub left : IsLeft scenario trace reported
  pub traced : Appends trace_old trace_new (text trace)
  pub printed : Appends old new reported

-- how it ends, by the status: `EndsWell` where it is accepted, and faulty where the bytes do not decode to a scenario; there is no other status
abbrev pub EndsAs : List ℕ → ℕ → Option (List ℕ) → Option (List ℕ) → Option (List ℕ) → Option (List ℕ) → Type 0
EndsAs bytes status trace_old trace_new old new =
    ((status ≡ number Accepted) × EndsWell bytes trace_old trace_new old new)
    ⊎ ((status ≡ number Faulty) × IsNoScenario bytes × Keeps trace_old trace_new)

-- a proper prefix of a trace's text was written
abbrev pub IsCut : Option (List ℕ) → Option (List ℕ) → Type 0
IsCut old new = (written : ℕ) × IsCutShort old new written
