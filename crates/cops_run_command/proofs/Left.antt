-- What a run produces, from what its parts return.
use Rattle.std.specs.Prelude.{IfOk}
use Rattle.std.proofs.Common.{Result, Ok, Err, ◌≡◌, ℕ, List, [], ◌++◌, length, map, replicate, sym, ap, subst, ◌∙◌}
use Rattle.std.proofs.lemmas.List.{length-map, length-replicate}
use Rattle.cops_node.specs.declared.outcome.Outcome.{Outcome}
use Rattle.cops_core.specs.declared.event.Event.{Event}
use Rattle.cops_core.specs.World.{Setting, opening}
use Rattle.cops_core.specs.Memory.{AnswersEach}
use Rattle.cops_types.specs.Format.{AreInFormat}
use Rattle.cops_types.specs.Histories.{Sessions}
use Rattle.cops_types.specs.Verdicts.{HasAcceptedVerdict}
use Rattle.cops_core.specs.Opened.{AWorld, opened_world}
use Rattle.cops_trace.specs.Kept.{trace_of, IsOrder}
use Rattle.cops_trace.specs.Text.{ATrace, IsTrace, sessions_after, sessions_of}
use Rattle.cops_trace.proofs.Allocation.{with_records}
use Rattle.cops_trace.proofs.Keeping.{AreInside, order_again, trace_again}
use Rattle.cops_scenario.specs.declared.script.ScriptedClient.{ScriptedClient}
use Rattle.cops_audit.specs.declared.verdict.Verdict.{Verdict}
use Rattle.cops_report.specs.Reported.{IsReportOf}
use Rattle.cops_scenario.specs.Scenario.{AScenario, homes_of, setting_of}
use Rattle.cops_run_command.specs.declared.leaving.Left.{Left}
use Rattle.cops_run_command.specs.Lines.{outcome_lines}
use Rattle.cops_run_command.specs.Parts.{AreAnswers, IsRunLeft}
use Rattle.cops_run_command.specs.Running.{all_seen, IsEventRun, IsRunOf, IsLeft}
use Rattle.cops_run_command.proofs.Recording.{run_inside, run_of, run_saw}

-- a new world that takes the events
pub answered : (s : Setting) (old new : AWorld) (events : List Event) (outcomes : List Outcome) (h : Sessions) → old ≡ opened_world s → new.setting ≡ old.setting
    → AnswersEach old.setting old.world events outcomes new.world → h ≡ new.world.sessions → HasAcceptedVerdict h → AreInFormat new.setting.format h → AreAnswers s events outcomes h
answered s old new events outcomes h opened same ran is accepted fits = (
  new.world,
  subst (λ (k : AWorld). AnswersEach k.setting k.world events outcomes new.world) opened ran,
  sym is,
  accepted,
  subst (λ (t : Setting). AreInFormat t.format h) (same ∙ ap (λ (k : AWorld). k.setting) opened) fits,
)

seen_inside : (s : Setting) (events : List Event) (outcomes : List Outcome) (h : Sessions) → AreAnswers s events outcomes h → AreInside (length s.homes) (all_seen events outcomes)
seen_inside s events outcomes h (end, ran, is, accepted, fits) =
    subst (λ (n : ℕ). AreInside n (all_seen events outcomes)) (length-replicate (length s.homes) []) (run_inside s (opening s) events outcomes end (run_of s (opening s) events outcomes end ran))

seen_sessions : (s : Setting) (events : List Event) (outcomes : List Outcome) (h : Sessions) → AreAnswers s events outcomes h → h ≡ sessions_after (replicate (length s.homes) []) (all_seen events outcomes)
seen_sessions s events outcomes h (end, ran, is, accepted, fits) = sym is ∙ run_saw s (opening s) events outcomes end (run_of s (opening s) events outcomes end ran)

-- the clients of what was seen are an order of the world's operations
pub answers_order : (s : Setting) (events : List Event) (outcomes : List Outcome) (h : Sessions) (cs : List ℕ) → AreAnswers s events outcomes h → cs ≡ map (λ r. r.client) (all_seen events outcomes)
    → IsOrder h cs × AreInFormat s.format h
answers_order s events outcomes h cs a is = (
  rw (seen_sessions s events outcomes h a, is) (order_again (length s.homes) (all_seen events outcomes) (seen_inside s events outcomes h a)),
  a.4,
)

-- the trace of such events has the world's sessions
pub event_run : (s : AScenario) (events : List Event) (outcomes : List Outcome) (lines : List ℕ) (h : Sessions) (cs : List ℕ) (t : ATrace) → AreAnswers (setting_of s) events outcomes h
    → cs ≡ map (λ r. r.client) (all_seen events outcomes) → t ≡ trace_of s.format h cs → lines ≡ outcome_lines outcomes
    → IsEventRun s events lines t × HasAcceptedVerdict (sessions_of t)
event_run s events outcomes lines h cs t a is made reported =
    let records = all_seen events outcomes in
    let n = length (homes_of s) in
    let sessions = seen_sessions (setting_of s) events outcomes h a in
    let again : t ≡ with_records s.format n records =
    made ∙ ap (λ (g : Sessions). trace_of s.format g cs) sessions ∙ ap (trace_of s.format (sessions_after (replicate n []) records)) is
    ∙ trace_again s.format n records (seen_inside (setting_of s) events outcomes h a) in
    let same : h ≡ sessions_of t = sessions ∙ ap (λ (u : ATrace). sessions_of u) (sym again) in (
      record {
        outcomes = outcomes;
        end = a.0;
        ran = a.1;
        trace_is = again ∙ ap (λ (k : ℕ). with_records s.format k records) (length-map s.clients (λ (k : ScriptedClient). k.at));
        saw_these = a.2 ∙ same;
        lines_are = reported;
      },
      subst HasAcceptedVerdict same a.3,
    )

pub if_ok_both : {X E : Type 0} {P Q R : X → Type 0} (r : Result X E) → ((x : X) → P x → Q x → R x) → IfOk r P → IfOk r Q → IfOk r R
if_ok_both (Ok x) both p q = both x p q
if_ok_both (Err e) both p q = tt

-- what a run produced, once its report was appended to its lines
pub left_of : (s : AScenario) (left : Left) (t : ATrace) (lines : List ℕ) → IsRunOf s s.events lines t → HasAcceptedVerdict (sessions_of t) → (left.trace ≡ t) × IsTrace t
    → ((verdict : Verdict) × (report : List ℕ) × IsReportOf (sessions_of t) verdict report × (left.text.items ≡ lines ++ report)) → IsRunLeft s left
left_of s left t lines ran accepted (same, legal) (verdict, report, is_report, reported) =
    subst (λ (u : ATrace). IsLeft s u left.text.items) (sym same) (record {
      lines = lines;
      verdict = verdict;
      report = report;
      is_trace = legal;
      ran = ran;
      accepted = accepted;
      is_report = is_report;
      reported_is = reported;
    })
