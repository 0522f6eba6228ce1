-- The state of a reader of a trace's text.
use Rattle.std.proofs.Common.{◌≡◌, ℕ, zero, suc, ◌+◌, ◌*◌, ◌<◌, ◌≤◌, Bool, true, false, List, [], ◌∷◌, ◌++◌, length, Option, Some, None, Ok, Err, refl, sym, ap, subst, ◌∙◌, arith, inl, inr, eq-eqb, get_or-set_same, get_or-set_other}
use Rattle.std.specs.Prelude.{◌⊎◌, option_map, unwrap_or}
use Rattle.std.proofs.lemmas.List.{length-append, length-replicate, length-set}
use Rattle.cops_types.specs.declared.format.Format.{Format}
use Rattle.cops_types.specs.declared.format.Format.TheVariants.{One, Two}
use Rattle.cops_types.specs.declared.limits.TheConstants.{MAX_OPS}
use Rattle.cops_types.specs.Format.{longest_body}
use Rattle.cops_wire.specs.Answer.{IsBytes}
use Rattle.cops_trace.specs.declared.fault.TraceFault.{TraceFault}
use Rattle.cops_trace.specs.declared.fault.TraceFault.TheVariants.{Memory}
use Rattle.cops_trace.specs.declared.found.Found.TheVariants.{Fails, Gives, Waits}
use Rattle.cops_trace.specs.declared.found.Item.{Item}
use Rattle.cops_trace.specs.declared.found.Item.TheVariants.{Head, Op as Entry, End}
use Rattle.cops_trace.specs.Answer.{IsCutAfter, TakesFrom}
use Rattle.cops_trace.specs.Counts.{ACounts, AreCountsOf, counted, next_of, nothing, progress_from}
use Rattle.cops_trace.specs.Kept.{grown}
use Rattle.cops_trace.specs.Next.{Stands, format_next}
use Rattle.cops_types.specs.Operations.{operation_of}
use Rattle.cops_trace.specs.Parsing.{FailsAt, FedInto, IsBegunAs, IsSettled, IsSettledAt, IsTakenAs, IsUnderway, ItemHasRoom, SettledInto, StepGives, StepsInto, Stops, stage_of, with_item}
use Rattle.cops_trace.specs.Reading.{FailsIn, GivesNext, IsStoppedBy, IsWithinReach, ItemHasTurn, Reading, WaitsIn, counts_with, is_end, past, progress_so_far}
use Rattle.cops_trace.specs.Text.{ARecord, ATrace, turn}
use Rattle.cops_trace.proofs.Feeding.{fed_more, fed_none, fed_so_far, fed_whole, none_settled, not_ended, step_fails, step_less, step_takes, step_waits}
use Rattle.cops_trace.proofs.Founds.{item_room, item_turn, stands_after}
use Rattle.cops_trace.proofs.Allocation.{with_records}
use Rattle.cops_trace.proofs.Items.{Allows, stands_still}
use Rattle.cops_trace.proofs.Lists.{nothing_before, same_or_other, turn-other, turn-same}

-- a fault at the front of the rest stays, whatever follows
pub stopped_more : (r : Reading) (piece : List ℕ) (f : Option TraceFault) → IsStoppedBy r f → IsStoppedBy (record r { rest = r.rest ++ piece }) f
stopped_more r piece None h = tt
stopped_more r piece (Some e) h = go r.ended h
  where
    go : (b : Bool) → FailsIn b r e → FailsIn b (record r { rest = r.rest ++ piece }) e
    go false st = stands_still (progress_so_far r) r.rest piece (Fails e) (λ q. cc) st
    go true f = (nothing_before r.rest piece f.0, f.1)

-- the length of `frames` frames of a format is far below the greatest number
frames_most : (format : Format) (frames at : ℕ) → frames ≤ MAX_OPS + 2 → at ≤ (4 + longest_body format) * frames → at ≤ 2097216262152
frames_most One frames at few h = omega (arith, few, h)
frames_most Two frames at few h = omega (arith, few, h)

frames_more : (format : Format) (frames next at used : ℕ) → next ≡ frames + 1 → at ≤ (4 + longest_body format) * frames → used ≤ 4 + longest_body format → at + used ≤ (4 + longest_body format) * next
frames_more One frames next at used one h fits = omega (arith, one, h, fits)
frames_more Two frames next at used one h fits = omega (arith, one, h, fits)

-- the offset stays far below the greatest number
pub within_reach : (c : Option ACounts) (e : Bool) (at : ℕ) → IsWithinReach c e at → at ≤ 2097216262152
within_reach None e at h = omega (arith, h.0)
within_reach (Some c) false at h = frames_most c.format (c.total + 1) at (omega (arith, h.0)) h.1
within_reach (Some c) true at h = frames_most c.format (c.total + 2) at (omega (arith, h.0)) h.1

-- the offset is within reach after an item
pub reach_after : (at used : ℕ) (c : Option ACounts) (i : Item) → let p = option_map (progress_from at) c in Allows p i → IsWithinReach c false at → used ≤ 4 + longest_body (format_next p) → IsWithinReach (counts_with i c) (is_end i) (at + used)
reach_after at used None (Head One clients) allowed h fits = (omega arith, omega (arith, h.0, fits))
reach_after at used None (Head Two clients) allowed h fits = (omega arith, omega (arith, h.0, fits))
reach_after at used None (Entry client op) allowed h fits = absurd allowed
reach_after at used None End allowed h fits = absurd allowed
reach_after at used (Some c) (Head format clients) allowed h fits = absurd allowed
reach_after at used (Some c) (Entry client op) allowed h fits = (omega (arith, allowed.2), frames_more c.format (c.total + 1) (c.total + 1 + 1) at used refl h.1 fits)
reach_after at used (Some c) End allowed h fits = (h.0, frames_more c.format (c.total + 1) (c.total + 2) at used (omega arith) h.1 fits)

-- equal states have the same item next
pub stands_too : (r old : Reading) (i : Item) (used : ℕ) → r ≡ old → Stands (progress_so_far old) old.rest (Gives i used) → Stands (progress_so_far r) r.rest (Gives i used)
stands_too r old i used same s = subst (λ (x : Reading). Stands (progress_so_far x) x.rest (Gives i used)) (sym same) s

-- a fault at the front of the rest is kept
pub stopped_here : (r old : Reading) (kept : Option TraceFault) (e : TraceFault) → r ≡ old → r.ended ≡ false → Stands (progress_so_far old) old.rest (Fails e) → FailsIn r.ended (record r { fault = kept }) e
stopped_here r old kept e same going s =
    subst (λ (b : Bool). FailsIn b (record r { fault = kept }) e) (sym going) (subst (λ (x : Reading). Stands (progress_so_far x) x.rest (Fails e)) (sym same) s)

-- without a returned fault there is nothing to show
pub stopped_none : (r : Reading) (f : Option TraceFault) → f ≡ None → IsStoppedBy r f
stopped_none r f none = subst (λ (x : Option TraceFault). IsStoppedBy r x) (sym none) tt

-- ---- a trace and its counts

nothing_there : (format : Format) (n i : ℕ) → next_of (nothing format n) i ≡ 0
nothing_there format zero i = refl
nothing_there format (suc n) zero = refl
nothing_there format (suc n) (suc i) = nothing_there format n i

pub counts_none : (format : Format) (clients : ℕ) → AreCountsOf (with_records format clients []) (nothing format clients)
counts_none format clients = record { format = refl; clients = length-replicate clients 0; next = nothing_there format clients; total = refl }

pub counts_grown : (t : ATrace) (c : ACounts) (r : ARecord) → AreCountsOf t c → r.client < length c.next → AreCountsOf (grown t r) (counted c r.client)
counts_grown t c r h inside = record {
  format = h.format;
  clients = length-set c.next r.client (next_of c r.client + 1) ∙ h.clients;
  next = λ d. elim (same_or_other r.client d) [
    | inl p ↦ subst (λ (n : ℕ). next_of (counted c r.client) n ≡ turn n (t.records ++ r ∷ [])) p
        (get_or-set_same c.next r.client (next_of c r.client + 1) 0 inside ∙ ap (λ (n : ℕ). n + 1) (h.next r.client) ∙ sym (turn-same t.records r))
    | inr p ↦ get_or-set_other c.next r.client d (next_of c r.client + 1) 0 (λ q. let bad = eq-eqb r.client d (sym q) in cc) ∙ h.next d ∙ sym (turn-other t.records r d p)
  ];
  total = omega (arith, h.total, length-append t.records (r ∷ []));
}

-- after an item the counts are still those of the trace
pub begun_after : (b : Option ATrace) (c : Option ACounts) (i : Item) → IsBegunAs b c → ItemHasTurn i c → IsBegunAs (with_item i b) (counts_with i c)
begun_after b c (Head format clients) h turn = counts_none format clients
begun_after None None (Entry client op) h turn = absurd turn
begun_after (Some t) (Some c) (Entry client op) h turn = counts_grown t c (record { client = client; op = operation_of op }) h turn.0
begun_after None (Some c) (Entry client op) h turn = absurd h
begun_after (Some t) None (Entry client op) h turn = absurd h
begun_after b c End h turn = h

-- ---- the state of a reader and that of parsing with the trace

fails_too : (b : Option ATrace) (r : Reading) (e : TraceFault) → IsBegunAs b r.counts → FailsIn r.ended r e → FailsAt r.ended (stage_of b r) e
fails_too b r e h f = go r.ended f
  where
    go : (ended : Bool) → FailsIn ended r e → FailsAt ended (stage_of b r) e
    go false s = stands_after r.at b r.counts r.rest (Fails e) h s
    go true f = f

waits_too : (b : Option ATrace) (r : Reading) → IsBegunAs b r.counts → WaitsIn r.ended r → IsSettled (stage_of b r)
waits_too b r h w = go r.ended w
  where
    go : (ended : Bool) → WaitsIn ended r → IsSettledAt ended (stage_of b r)
    go false s = stands_after r.at b r.counts r.rest Waits h s
    go true none = none

-- a step where the reader returns a fault
pub step_err : (b : Option ATrace) (old new : Reading) (e : TraceFault) → IsBegunAs b old.counts → GivesNext old (Err e) new → (e ≡ Memory) ⊎ FailsAt old.ended (stage_of b old) e
step_err b old new e h (inl m) = inl m.0
step_err b old new e h (inr f) = inr (fails_too b old e h f.0)

-- a step where the reader returns nothing
pub step_waited : (b : Option ATrace) (old new : Reading) → IsBegunAs b old.counts → GivesNext old (Ok None) new → IsBegunAs b new.counts × StepGives (stage_of b old) (Ok false) (stage_of b new)
step_waited b old new h (fine, waits, same) = (subst (λ (r : Reading). IsBegunAs b r.counts) (sym same) h, (waits_too b old h waits, ap (stage_of b) same))

-- a step where the reader returns an item
pub step_room : (b : Option ATrace) (old new : Reading) (i : Item) → IsBegunAs b old.counts → GivesNext old (Ok (Some i)) new → ItemHasRoom i b
step_room b old new i h (fine, going, (used, stands, same)) = item_room old.at b old.rest i used (stands_after old.at b old.counts old.rest (Gives i used) h stands)

pub step_begun : (b : Option ATrace) (old new : Reading) (i : Item) → IsBegunAs b old.counts → GivesNext old (Ok (Some i)) new → IsBegunAs (with_item i b) new.counts
step_begun b old new i h (fine, going, (used, stands, same)) =
    subst (λ (r : Reading). IsBegunAs (with_item i b) r.counts) (sym same) (begun_after b old.counts i h (item_turn old.at old.counts old.rest i used stands))

pub step_took : (b : Option ATrace) (old new : Reading) (i : Item) → IsBegunAs b old.counts → GivesNext old (Ok (Some i)) new → StepGives (stage_of b old) (Ok true) (stage_of (with_item i b) new)
step_took b old new i h (fine, going, (used, stands, same)) = (going, (i, used, stands_after old.at b old.counts old.rest (Gives i used) h stands, ap (stage_of (with_item i b)) same))

-- the rest begins with an item of `used` bytes, before the end, and no fault was returned
pub record IsNextIn (r : Reading) (item : Item) (used : ℕ) : Type 0 where
  pub fine : r.fault ≡ None
  pub going : r.ended ≡ false
  pub stands : Stands (progress_so_far r) r.rest (Gives item used)

-- the item that comes next is returned next
pub next_given : (r : Reading) (i : Item) (used : ℕ) → IsNextIn r i used → GivesNext r (Ok (Some i)) (past i used r)
next_given r i used n = (n.fine, n.going, (used, n.stands, refl))

-- ---- a sink

module _ {S : Type 0} (took : S → ATrace → Type 0) where
  -- what the sink took is the trace so far
  pub taken_as : (begun : Option S) (sink : S) (b : Option ATrace) → begun ≡ Some sink → IsTakenAs took begun b → (t : ATrace) × (b ≡ Some t) × took sink t
  taken_as begun sink b same h = go b (subst (λ (o : Option S). IsTakenAs took o b) same h)
    where
      go : (b : Option ATrace) → IsTakenAs took (Some sink) b → (t : ATrace) × (b ≡ Some t) × took sink t
      go None h = absurd h
      go (Some t) h = (t, refl, h)

  pub none_taken : (begun : Option S) (b : Option ATrace) → begun ≡ None → IsTakenAs took begun b → b ≡ None
  none_taken begun b none h = go b (subst (λ (o : Option S). IsTakenAs took o b) none h)
    where
      go : (b : Option ATrace) → IsTakenAs took None b → b ≡ None
      go None h = refl
      go (Some t) h = absurd h

  -- a reader and a sink at the beginning
  pub into_none : (begun : Option S) (r : Reading) → r ≡ record { counts = None; at = 0; ended = false; rest = []; fault = None } → begun ≡ None → SettledInto took [] begun r
  into_none begun r fresh none =
      subst (λ (o : Option S). SettledInto took [] o r) (sym none)
      (subst (λ (x : Reading). SettledInto took [] None x) (sym fresh)
      (record { into = record { underway = record { trace = None; taken = tt; counts = tt }; state = fed_none }; settled = none_settled }))

  -- after one more piece
  pub underway_more : (begun : Option S) (old new : Reading) (piece : List ℕ) → new ≡ record old { rest = old.rest ++ piece } → IsUnderway took begun old → IsUnderway took begun new
  underway_more begun old new piece same h =
      subst (IsUnderway took begun) (sym same) (record { trace = h.trace; taken = h.taken; counts = h.counts })

  pub into_more : (fed piece : List ℕ) (begun : Option S) (old new : Reading) → IsBytes piece → new ≡ record old { rest = old.rest ++ piece } → FedInto took fed begun old → FedInto took (fed ++ piece) begun new
  into_more fed piece begun old new fits same h =
      subst (FedInto took (fed ++ piece) begun) (sym same) (record {
        underway = record { trace = h.underway.trace; taken = h.underway.taken; counts = h.underway.counts };
        state = fed_more fed piece (stage_of h.underway.trace old) fits h.state;
      })

  -- after the sink prepared for coming operations
  pub underway_ready : (from to : Option S) (old new : Reading) → new ≡ old → ((t : Option ATrace) → IsTakenAs took from t → IsTakenAs took to t) → IsUnderway took from old → IsUnderway took to new
  underway_ready from to old new same ready h =
      subst (IsUnderway took to) (sym same) (record { trace = h.trace; taken = ready h.trace h.taken; counts = h.counts })

  pub into_ready : (fed : List ℕ) (from to : Option S) (old new : Reading) → new ≡ old → ((t : Option ATrace) → IsTakenAs took from t → IsTakenAs took to t) → FedInto took fed from old → FedInto took fed to new
  into_ready fed from to old new same ready h =
      let u = h.underway in
      subst (FedInto took fed to) (sym same) (record { underway = record { trace = u.trace; taken = ready u.trace u.taken; counts = u.counts }; state = h.state })

  -- a step
  pub into_less : (old new : Reading) (from to : Option S) → IsUnderway took from old → ((t : Option ATrace) → IsTakenAs took from t → IsBegunAs t old.counts → StepsInto took (stage_of t old) (Ok true) to new)
      → length new.rest < length old.rest
  into_less old new from to h steps = let next = steps h.trace h.taken h.counts in step_less (stage_of h.trace old) (stage_of next.0.trace new) next.1

  pub into_next : (old new : Reading) (from to : Option S) → IsUnderway took from old → ((t : Option ATrace) → IsTakenAs took from t → IsBegunAs t old.counts → StepsInto took (stage_of t old) (Ok true) to new)
      → IsUnderway took to new
  into_next old new from to h steps = (steps h.trace h.taken h.counts).0

  pub into_takes : (fed : List ℕ) (old new : Reading) (from to : Option S) → FedInto took fed from old → ((t : Option ATrace) → IsTakenAs took from t → IsBegunAs t old.counts → StepsInto took (stage_of t old) (Ok true) to new)
      → FedInto took fed to new
  into_takes fed old new from to h steps =
      let u = h.underway in
      let next = steps u.trace u.taken u.counts in
      record { underway = next.0; state = step_takes fed (stage_of u.trace old) (stage_of next.0.trace new) h.state next.1 }

  pub into_waits : (fed : List ℕ) (old new : Reading) (from to : Option S) → FedInto took fed from old → ((t : Option ATrace) → IsTakenAs took from t → IsBegunAs t old.counts → StepsInto took (stage_of t old) (Ok false) to new)
      → SettledInto took fed to new
  into_waits fed old new from to h steps =
      let u = h.underway in
      let next = steps u.trace u.taken u.counts in
      let both = step_waits fed (stage_of u.trace old) (stage_of next.0.trace new) h.state next.1 in
      record { into = record { underway = next.0; state = both.0 }; settled = both.1 }

  pub into_fails : (fed : List ℕ) (old new : Reading) (from to : Option S) (e : TraceFault) → FedInto took fed from old → ((t : Option ATrace) → IsTakenAs took from t → IsBegunAs t old.counts → StepsInto took (stage_of t old) (Err e) to new)
      → Stops fed e
  into_fails fed old new from to e h steps = let u = h.underway in step_fails fed (stage_of u.trace old) e h.state (steps u.trace u.taken u.counts)

  -- ---- when no more bytes come

  -- the sink took a whole trace
  pub closed_whole : (fed : List ℕ) (begun : Option S) (r : Reading) (sink : S) → begun ≡ Some sink → r.ended ≡ true → SettledInto took fed begun r → TakesFrom took fed (record { sink = sink; cut = None })
  closed_whole fed begun r sink same ended h =
      let u = h.into.underway in
      let t = taken_as begun sink u.trace same u.taken in
      record { bytes_fit = h.into.state.fits; trace = t.0; took_it = t.2; begins = fed_whole fed (stage_of u.trace r) t.0 h.into.state ended t.1 h.settled }

  -- the sink took the records before a cut
  pub closed_cut : (fed : List ℕ) (begun : Option S) (r : Reading) (sink : S) → begun ≡ Some sink → r.ended ≡ false → SettledInto took fed begun r → TakesFrom took fed (record { sink = sink; cut = Some r.at })
  closed_cut fed begun r sink same going h =
      let u = h.into.underway in
      let t = taken_as begun sink u.trace same u.taken in
      let cut = fed_so_far fed (stage_of u.trace r) h.into.state going h.settled in
      record { bytes_fit = h.into.state.fits; trace = t.0; took_it = t.2; begins = subst (λ (b : Option ATrace). IsCutAfter fed (unwrap_or b (record { format = One; clients = 0; records = [] })) r.at) t.1 cut }

  -- the sink took nothing, since the head was cut
  pub closed_none : (fed : List ℕ) (begun : Option S) (r : Reading) (sink : S) → begun ≡ None → took sink (record { format = One; clients = 0; records = [] }) → SettledInto took fed begun r → TakesFrom took fed (record { sink = sink; cut = Some r.at })
  closed_none fed begun r sink none fresh h =
      let u = h.into.underway in
      let nothing = none_taken begun u.trace none u.taken in
      let cut = fed_so_far fed (stage_of u.trace r) h.into.state (not_ended fed (stage_of u.trace r) h.into.state nothing) h.settled in
      record { bytes_fit = h.into.state.fits; trace = record { format = One; clients = 0; records = [] }; took_it = fresh; begins = subst (λ (b : Option ATrace). IsCutAfter fed (unwrap_or b (record { format = One; clients = 0; records = [] })) r.at) nothing cut }
