-- What clients saw of a world's events is what its sessions gain.
use Rattle.std.proofs.Common.{◌≡◌, ℕ, zero, suc, ◌+◌, ◌<◌, List, [], ◌∷◌, ◌++◌, length, map, take, slice_index_or, Option, None, Some, inl, inr, refl, sym, ap, subst, ◌∙◌, arith, append_assoc, append-nil}
use Rattle.std.proofs.lemmas.Bool.{cases_Bool, ltb-true}
use Rattle.std.proofs.lemmas.List.{map-append}
use Rattle.cops_types.specs.Histories.{Sessions, with_op}
use Rattle.cops_node.specs.Acts.{version_given, Act as NodeAct}
use Rattle.cops_node.specs.declared.outcome.Outcome.{Outcome}
use Rattle.cops_node.specs.declared.outcome.Outcome.TheVariants.{Got, Gone, Missed, Yes, Refused}
use Rattle.cops_node.specs.Node.{Node, act_step}
use Rattle.cops_types.specs.declared.refusal.Refusal.{Refusal}
use Rattle.cops_types.specs.declared.refusal.Refusal.TheVariants.{NeverSent, UnknownClient, Memory}
use Rattle.cops_core.specs.declared.event.Event.{Event}
use Rattle.cops_core.specs.Acts.{Act, WriteBy, GetBy, AskAt, act_of}
use Rattle.cops_core.specs.World.{Setting, World, Happens, asks, checks, done, keeps, knows, node_at, refusal, unless, with_node, wrote, Run}
use Rattle.cops_core.specs.Memory.{AnswersEach}
use Rattle.cops_trace.specs.Text.{ARecord, sessions_after}
use Rattle.cops_core.proofs.Asking.{done_asks}
use Rattle.cops_trace.proofs.Keeping.{AreInside, after_width}
use Rattle.cops_trace.proofs.Lists.{all_both}
use Rattle.cops_run_command.specs.Running.{saw, all_seen, written_by}

-- two lists of records, one after the other
after_all : (h : Sessions) (xs ys : List ARecord) → sessions_after h (xs ++ ys) ≡ sessions_after (sessions_after h xs) ys
after_all h [] ys = refl
after_all h (r ∷ rs) ys = after_all (with_op h r.client r.op) rs ys

-- what the world records of an outcome
keeps_saw : (w : World) (dc place : ℕ) (act : Act) (outcome : Outcome) (n : Node)
    → (keeps w dc place act outcome n).sessions ≡ sessions_after w.sessions (saw act outcome)
keeps_saw w dc place (WriteBy c k x) outcome n = by_version (version_given outcome)
  where
    by_version : (o : Option ℕ) → (wrote (with_node w dc place n) c k x o).sessions ≡ sessions_after w.sessions (written_by c k x o)
    by_version None = refl
    by_version (Some version) = refl
keeps_saw w dc place (GetBy c k) Missed n = refl
keeps_saw w dc place (GetBy c k) (Got value version) n = refl
keeps_saw w dc place (GetBy c k) (Gone version) n = refl
keeps_saw w dc place (AskAt d k version) Yes n = refl
keeps_saw w dc place act outcome n = refl

-- a refusal shows no client anything
refused_saw : (act : Act) (code : Refusal) → saw act (Refused code) ≡ []
refused_saw (WriteBy c k x) code = refl
refused_saw act code = refl

-- a world that an act does not change, which is refused
refused_stays : (w mid : World) (act : Act) (code : Refusal) (outcome : Outcome) → ◌≡◌ {A = Outcome × World} (Refused code, w) (outcome, mid)
    → mid.sessions ≡ sessions_after w.sessions (saw act outcome)
refused_stays w mid act code outcome e =
    let none : saw act outcome ≡ [] = ap (λ (p : Outcome × World). saw act p.0) (sym e) ∙ refused_saw act code in
    ap (λ (p : Outcome × World). p.1.sessions) (sym e) ∙ ap (λ (rs : List ARecord). sessions_after w.sessions rs) (sym none)

asked_saw : (w mid : World) (act : Act) (dc place : ℕ) (asked : NodeAct) (outcome : Outcome) → asks w act dc place asked ≡ (outcome, mid)
    → mid.sessions ≡ sessions_after w.sessions (saw act outcome)
asked_saw w mid act dc place asked outcome e =
    let r = act_step (node_at w dc place) asked in
    ap (λ (p : Outcome × World). p.1.sessions) (sym e) ∙ keeps_saw w dc place act r.0 r.1
    ∙ ap (λ (p : Outcome × World). sessions_after w.sessions (saw act p.0)) e

done_saw : (s : Setting) (w mid : World) (act : Act) (outcome : Outcome) → done s w act ≡ (outcome, mid)
    → mid.sessions ≡ sessions_after w.sessions (saw act outcome)
done_saw s w mid act outcome =
    done_asks (λ r. r ≡ (outcome, mid) → mid.sessions ≡ sessions_after w.sessions (saw act outcome)) s w act
    (λ dc place asked. asked_saw w mid act dc place asked outcome) (refused_stays w mid act NeverSent outcome)

checked_saw : (s : Setting) (w mid : World) (act : Act) (code : Option Refusal) (outcome : Outcome) → unless w code (done s w act) ≡ (outcome, mid)
    → mid.sessions ≡ sessions_after w.sessions (saw act outcome)
checked_saw s w mid act None outcome e = done_saw s w mid act outcome e
checked_saw s w mid act (Some code) outcome e = refused_stays w mid act code outcome e

-- one act
happened_saw : (s : Setting) (w mid : World) (act : Act) (outcome : Outcome) → Happens s w act outcome mid
    → mid.sessions ≡ sessions_after w.sessions (saw act outcome)
happened_saw s w mid act outcome (inl e) = checked_saw s w mid act (refusal (checks s w act)) outcome e
happened_saw s w mid act outcome (inr (e, same)) =
    let none : saw act outcome ≡ [] = ap (λ (o : Outcome). saw act o) e ∙ refused_saw act Memory in
    ap (λ (v : World). v.sessions) same ∙ ap (λ (rs : List ARecord). sessions_after w.sessions rs) (sym none)

-- events with these outcomes are a run
pub run_of : (s : Setting) (old : World) (events : List Event) (outcomes : List Outcome) (new : World) → AnswersEach s old events outcomes new
    → Run s old events outcomes new
run_of s old [] [] new e = e
run_of s old (event ∷ events) (outcome ∷ outcomes) new (mid, (first, rest)) = (mid, (first.0, run_of s mid events outcomes new rest))
run_of s old [] (outcome ∷ outcomes) new none = absurd none
run_of s old (event ∷ events) [] new none = absurd none

-- a whole run
pub run_saw : (s : Setting) (old : World) (events : List Event) (outcomes : List Outcome) (new : World) → Run s old events outcomes new
    → new.sessions ≡ sessions_after old.sessions (all_seen events outcomes)
run_saw s old [] [] new e = ap (λ (v : World). v.sessions) e
run_saw s old (event ∷ events) (outcome ∷ outcomes) new (mid, (first, rest)) =
    run_saw s mid events outcomes new rest
    ∙ ap (λ (h : Sessions). sessions_after h (all_seen events outcomes)) (happened_saw s old mid (act_of event) outcome first)
    ∙ sym (after_all old.sessions (saw (act_of event) outcome) (all_seen events outcomes))
run_saw s old [] (outcome ∷ outcomes) new none = absurd none
run_saw s old (event ∷ events) [] new none = absurd none

-- ---- the clients of what was seen are there

unknown_inside : (s : Setting) (w mid : World) (act : Act) (outcome : Outcome) → refusal (checks s w act) ≡ Some UnknownClient → unless w (refusal (checks s w act)) (done s w act) ≡ (outcome, mid)
    → AreInside (length w.sessions) (saw act outcome)
unknown_inside s w mid act outcome none e =
    let refused : ◌≡◌ {A = Outcome × World} (Refused UnknownClient, w) (outcome, mid) = ap (λ (r : Option Refusal). unless w r (done s w act)) (sym none) ∙ e in
    let nothing : saw act outcome ≡ [] = ap (λ (p : Outcome × World). saw act p.0) (sym refused) ∙ refused_saw act UnknownClient in
    subst (AreInside (length w.sessions)) (sym nothing) tt

written_inside : (n c : ℕ) (k : List ℕ) (x : Option (List ℕ)) (o : Option ℕ) → c < n → AreInside n (written_by c k x o)
written_inside n c k x None there = tt
written_inside n c k x (Some version) there = (there, tt)

got_inside : (n c : ℕ) (k : List ℕ) (outcome : Outcome) → c < n → AreInside n (saw (GetBy c k) outcome)
got_inside n c k (Got value version) there = (there, tt)
got_inside n c k (Gone version) there = (there, tt)
got_inside n c k Missed there = (there, tt)
got_inside n c k outcome there = tt

checked_inside : (s : Setting) (w mid : World) (act : Act) (outcome : Outcome) → unless w (refusal (checks s w act)) (done s w act) ≡ (outcome, mid) → AreInside (length w.sessions) (saw act outcome)
checked_inside s w mid (WriteBy c k x) outcome e = elim (cases_Bool (knows w c)) [
  | inl there ↦ written_inside (length w.sessions) c k x (version_given outcome) (ltb-true _ _ there)
  | inr none ↦ unknown_inside s w mid (WriteBy c k x) outcome (rw none refl) e
]
checked_inside s w mid (GetBy c k) outcome e = elim (cases_Bool (knows w c)) [
  | inl there ↦ got_inside (length w.sessions) c k outcome (ltb-true _ _ there)
  | inr none ↦ unknown_inside s w mid (GetBy c k) outcome (rw none refl) e
]
checked_inside s w mid act outcome e = tt

happened_inside : (s : Setting) (w mid : World) (act : Act) (outcome : Outcome) → Happens s w act outcome mid → AreInside (length w.sessions) (saw act outcome)
happened_inside s w mid act outcome (inl e) = checked_inside s w mid act outcome e
happened_inside s w mid act outcome (inr (e, same)) =
    subst (AreInside (length w.sessions)) (sym (ap (λ (o : Outcome). saw act o) e ∙ refused_saw act Memory)) tt

pub run_inside : (s : Setting) (old : World) (events : List Event) (outcomes : List Outcome) (new : World) → Run s old events outcomes new
    → AreInside (length old.sessions) (all_seen events outcomes)
run_inside s old [] [] new e = tt
run_inside s old (event ∷ events) (outcome ∷ outcomes) new (mid, (first, rest)) =
    let act = act_of event in
    let width : length mid.sessions ≡ length old.sessions = ap length (happened_saw s old mid act outcome first) ∙ after_width old.sessions (saw act outcome) in
    all_both (λ (r : ARecord). r.client < length old.sessions) (saw act outcome) (all_seen events outcomes) (happened_inside s old mid act outcome first)
    (subst (λ (n : ℕ). AreInside n (all_seen events outcomes)) width (run_inside s mid events outcomes new rest))
run_inside s old [] (outcome ∷ outcomes) new none = absurd none
run_inside s old (event ∷ events) [] new none = absurd none

-- ---- the events one after the other

-- there is one outcome for each event
pub run_len : (s : Setting) (old : World) (events : List Event) (outcomes : List Outcome) (new : World) → Run s old events outcomes new → length outcomes ≡ length events
run_len s old [] [] new e = refl
run_len s old (event ∷ events) (outcome ∷ outcomes) new (mid, (first, rest)) = ap suc (run_len s mid events outcomes new rest)
run_len s old [] (outcome ∷ outcomes) new none = absurd none
run_len s old (event ∷ events) [] new none = absurd none

seen_suc : (events : List Event) (outcomes : List Outcome) (n : ℕ) (event : Event) (outcome : Outcome) → n < length events → n < length outcomes
    → all_seen (take (suc n) events) (take (suc n) outcomes) ≡ all_seen (take n events) (take n outcomes) ++ saw (act_of (slice_index_or events n event)) (slice_index_or outcomes n outcome)
seen_suc [] outcomes n event outcome p q = absurd (omega (arith, p))
seen_suc (e ∷ es) [] n event outcome p q = absurd (omega (arith, q))
seen_suc (e ∷ es) (o ∷ os) zero event outcome p q = append-nil (saw (act_of e) o)
seen_suc (e ∷ es) (o ∷ os) (suc n) event outcome p q =
    ap (λ (rs : List ARecord). saw (act_of e) o ++ rs) (seen_suc es os n event outcome (omega (arith, p)) (omega (arith, q)))
    ∙ sym (append_assoc (saw (act_of e) o) (all_seen (take n es) (take n os)) (saw (act_of (slice_index_or es n event)) (slice_index_or os n outcome)))

-- the clients of what was seen
abbrev pub clients_of : List ARecord → List ℕ
clients_of rs = map (λ r. r.client) rs

-- one more event, whose outcome some clients saw
pub clients_next : (events : List Event) (outcomes : List Outcome) (n : ℕ) (event : Event) (outcome : Outcome) (cs more : List ℕ) → n < length events → length outcomes ≡ length events
    → cs ≡ clients_of (all_seen (take n events) (take n outcomes)) → event ≡ slice_index_or events n event → outcome ≡ slice_index_or outcomes n outcome
    → clients_of (saw (act_of event) outcome) ≡ more → cs ++ more ≡ clients_of (all_seen (take (n + 1) events) (take (n + 1) outcomes))
clients_next events outcomes n event outcome cs more lt len is at_event at_outcome seen =
    let e : suc n ≡ n + 1 = omega arith in
    let before = all_seen (take n events) (take n outcomes) in
    ap (λ (l : List ℕ). l ++ more) is ∙ ap (λ (l : List ℕ). clients_of before ++ l) (sym seen)
    ∙ ap (λ (v : Event). clients_of before ++ clients_of (saw (act_of v) outcome)) at_event
    ∙ ap (λ (o : Outcome). clients_of before ++ clients_of (saw (act_of (slice_index_or events n event)) o)) at_outcome
    ∙ sym (map-append (λ (r : ARecord). r.client) before (saw (act_of (slice_index_or events n event)) (slice_index_or outcomes n outcome)))
    ∙ ap clients_of (sym (seen_suc events outcomes n event outcome lt (omega (arith, lt, len))))
    ∙ ap (λ (k : ℕ). clients_of (all_seen (take k events) (take k outcomes))) e
