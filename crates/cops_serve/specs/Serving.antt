-- What is reported when serving ends.
use Rattle.std.specs.Prelude.{◌≡◌, ◌⊎◌, ◌+◌, ℕ, List, ◌++◌, length, map, Option}
use Rattle.std.specs.Global.{Vec}
use Rattle.std.specs.Io.KnownBytes.{Appends}
use Rattle.std.specs.List.Sorted.{IsPermutation}
use Rattle.cops_place.specs.Place.{APlace}
use Rattle.cops_core.specs.declared.event.Event.{Event}
use Rattle.cops_core.specs.World.{Setting}
use Rattle.cops_types.specs.Verdicts.{HasAcceptedVerdict}
use Rattle.cops_trace.specs.Text.{ATrace, sessions_of, text}
use Rattle.cops_audit.specs.declared.verdict.Verdict.{Verdict}
use Rattle.cops_scenario.specs.File.{IsNoScenario, IsTextOf}
use Rattle.cops_command.specs.Status.{number}
use Rattle.cops_report.specs.Reported.{IsReportOf}
use Rattle.cops_command.specs.declared.status.Status.TheVariants.{Accepted, Faulty}
use Rattle.cops_scenario.specs.Scenario.{AScenario, setting_of}
use Rattle.cops_node.specs.declared.entry.Entry.{Entry}
use Rattle.cops_tie.specs.Untied.{IsTied}
use Rattle.cops_cluster.specs.Close.{made_in, reported}
use Rattle.cops_cluster.specs.declared.client.Client.{Client}
use Rattle.cops_cluster.specs.declared.share.Made.{Made}
use Rattle.cops_net.specs.Listening.{AreSessions, AreServed}
use Rattle.cops_replication.specs.declared.receiver.Receiver.{Receiver}
use Rattle.cops_serve.specs.declared.front_end.FrontEnd.{FrontEnd}
use Rattle.cops_serve.specs.FrontEnd.{Ends}
use Rattle.cops_serve.specs.Opening.{IsOpened}

-- the number of data centres, and of nodes in each, is as wanted
abbrev pub HasNodesOf : APlace → APlace → Type 0
HasNodesOf wanted place = (place.dcs ≡ wanted.dcs) × (length place.splits ≡ length wanted.splits)

-- the entries in the shares of a front end's clients and receivers
abbrev pub reported_to : FrontEnd → List Made
reported_to f = reported (map (λ (c : Client). c.share) f.clients.items ++ map (λ (r : Receiver). r.share) f.receivers.items)

-- the report of a trace of what the clients saw, which is accepted, where these books are one run of the world with its sessions
pub record IsTiedReport (s : Setting) (books : List (Vec Entry)) (t : ATrace) (text : List ℕ) : Type 0 where
  pub events : List Event
  pub tied : IsTied s (map (λ (b : Vec Entry). b.items) books) (sessions_of t) events
  pub accepted : HasAcceptedVerdict (sessions_of t)
  pub verdict : Verdict
  pub is_report : IsReportOf (sessions_of t) verdict text

-- such a report in a scenario's world, where the books have exactly the entries in the shares of a front end's clients and receivers
pub record IsReportOn (s : AScenario) (f : FrontEnd) (t : ATrace) (text : List ℕ) : Type 0 where
  pub books : List (Vec Entry)
  pub same : IsPermutation (made_in (length s.place.splits + 1) 0 books) (reported_to f)
  pub report : IsTiedReport (setting_of s) books t text

-- The trace and the report of a front end that was opened for this scenario, and that served exactly `sessions` sessions: they came one after the
-- other, each ended before the next began, and the front end's calls are theirs.
pub record IsServedAs (sessions : ℕ) (s : AScenario) (t : ATrace) (text : List ℕ) : Type 0 where
  pub opened : FrontEnd
  pub is_opened : IsOpened s opened
  pub front_end : FrontEnd
  pub served : AreServed s.format (λ (f : FrontEnd). f.calls.items) Ends sessions opened front_end
  pub count : front_end.ended ≡ sessions
  pub calls : AreSessions s.format sessions front_end.calls.items
  pub report : IsReportOn s front_end t text

-- such a report of some trace
abbrev pub IsServed : ℕ → AScenario → List ℕ → Type 0
IsServed sessions s text = (t : ATrace) × IsServedAs sessions s t text

-- how serving `sessions` sessions ends, by the status: accepted, of a scenario's text, where the writer gained such a report; or faulty
abbrev pub EndsAs : List ℕ → ℕ → ℕ → Option (List ℕ) → Option (List ℕ) → Type 0
EndsAs bytes sessions status old new =
    ((status ≡ number Accepted) × ((s : AScenario) × IsTextOf bytes s × ((text : List ℕ) × IsServed sessions s text × Appends old new text)))
    ⊎ ((status ≡ number Faulty) × IsNoScenario bytes)

-- how it ends as accepted where the trace is kept: one writer gained the trace's text, and the other its report
pub record EndsTraced (bytes : List ℕ) (sessions : ℕ) (made_old made_new old new : Option (List ℕ)) : Type 0 where
  pub scenario : AScenario
  pub trace : ATrace
  pub report : List ℕ
  pub is_text : IsTextOf bytes scenario
  pub served : IsServedAs sessions scenario trace report
  pub traced : Appends made_old made_new (text trace)
  pub printed : Appends old new report
