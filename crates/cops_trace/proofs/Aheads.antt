-- Records that are read ahead, as they are taken one after the other.
use Rattle.std.proofs.Common.{◌≡◌, ◌<◌, ◌≤◌, ◌+◌, ◌-◌, ℕ, take, zero, suc, List, [], ◌∷◌, ◌++◌, length, drop, get_or, Bool, Option, Some, Result, Ok, Err, false, true, refl, sym, ap, subst, ◌∙◌, arith, inl, inr}
use Rattle.std.specs.Prelude.{IfOk, IfErr, IsTrue}
use Rattle.std.proofs.Math.Nat.{eq-or-lt_of_le}
use Rattle.std.proofs.lemmas.List.{drop-drop, length-append, length-drop}
use Rattle.cops_types.specs.declared.format.Format.{Format}
use Rattle.cops_types.specs.declared.op.Op.{Op}
use Rattle.cops_types.specs.declared.op_view.OpView.{OpView}
use Rattle.cops_types.specs.OpViews.{op_viewed}
use Rattle.cops_trace.specs.declared.ahead.RecordPlace.{RecordPlace}
use Rattle.cops_trace.specs.declared.fault.TraceFault.{TraceFault}
use Rattle.cops_trace.specs.declared.found.Found.TheVariants.{Gives}
use Rattle.cops_trace.specs.declared.found.Item.TheVariants.{Op as Entry}
use Rattle.cops_trace.specs.Ahead.{AreSeen, GoesOn, IsSeenAt, reading_at}
use Rattle.cops_trace.specs.Counts.{ACounts, HasTurn, counted, progress_from}
use Rattle.cops_trace.specs.Next.{Stands, record_found}
use Rattle.cops_trace.specs.Parsing.{IsBegunAs, IsTakenAs, FedInto, IsUnderway, ItemHasRoom, SettledInto, StepsInto, Stops, stage_of, with_item}
use Rattle.cops_trace.specs.Reading.{IsWithinReach, Reading, past}
use Rattle.cops_trace.specs.Text.{ATrace}
use Rattle.cops_trace.proofs.Founds.{item_turn, seen_stands}
use Rattle.cops_trace.proofs.Items.{given, stands_used}
use Rattle.cops_trace.proofs.Underway.{into_fails, into_less, into_next, into_ready, into_takes, into_waits, next_given, reach_after, step_begun, step_room, step_took}

-- ---- reading ahead

take_whole : {A : Type 0} (xs : List A) (n : ℕ) → length xs ≡ n → take n xs ≡ xs
take_whole [] zero same = refl
take_whole [] (suc n) same = refl
take_whole (x ∷ xs) zero same = absurd (omega (arith, same))
take_whole {A = A} (x ∷ xs) (suc n) same = ap (λ (l : List A). x ∷ l) (take_whole xs n (omega (arith, same)))

-- the bytes from an offset on
pub from_place : (bytes : List ℕ) (at : ℕ) → take (length bytes - at) (drop at bytes) ≡ drop at bytes
from_place bytes at = take_whole (drop at bytes) (length bytes - at) (length-drop at bytes)

get_at_end : {A : Type 0} (xs : List A) (x d : A) → get_or (xs ++ x ∷ []) (length xs) d ≡ x
get_at_end [] x d = refl
get_at_end (y ∷ xs) x d = get_at_end xs x d

get_before : {A : Type 0} (xs : List A) (x d : A) (k : ℕ) → k < length xs → get_or (xs ++ x ∷ []) k d ≡ get_or xs k d
get_before [] x d k less = absurd (omega (arith, less))
get_before (y ∷ xs) x d zero less = refl
get_before (y ∷ xs) x d (suc k) less = get_before xs x d k (omega (arith, less))

pub seen_too : (format : Format) (bytes : List ℕ) (places : List RecordPlace) (ops : List OpView) (op : OpView) → AreSeen format bytes places ops → AreSeen format bytes places (ops ++ op ∷ [])
seen_too format bytes places ops op seen = record {
  few = omega (arith, seen.few, length-append ops (op ∷ []));
  each = λ k d e less. subst (IsSeenAt format bytes (get_or places k d)) (sym (get_before ops op e k (omega (arith, less, seen.few)))) (seen.each k d e less);
}

pub seen_next : (format : Format) (bytes : List ℕ) (places : List RecordPlace) (ops : List OpView) (place : RecordPlace) (op : OpView) → length places ≡ length ops → AreSeen format bytes places ops → IsSeenAt format bytes place op → AreSeen format bytes (places ++ place ∷ []) (ops ++ op ∷ [])
seen_next format bytes places ops place op same seen here = record {
  few = omega (arith, same, length-append ops (op ∷ []), length-append places (place ∷ []));
  each = λ k d e less. elim (eq-or-lt_of_le (let le : k ≤ length places = omega (arith, less, length-append places (place ∷ [])) in le)) [
    | inl end ↦
        let at_place : get_or (places ++ place ∷ []) k d ≡ place = ap (λ (n : ℕ). get_or (places ++ place ∷ []) n d) end ∙ get_at_end places place d in
        let at_op : get_or (ops ++ op ∷ []) k e ≡ op = ap (λ (n : ℕ). get_or (ops ++ op ∷ []) n e) (end ∙ same) ∙ get_at_end ops op e in
        subst (λ (p : RecordPlace). IsSeenAt format bytes p (get_or (ops ++ op ∷ []) k e)) (sym at_place) (subst (IsSeenAt format bytes place) (sym at_op) here)
    | inr before ↦
        let at_place = get_before places place d k before in
        let at_op = get_before ops op e k (omega (arith, before, same)) in
        subst (λ (p : RecordPlace). IsSeenAt format bytes p (get_or (ops ++ op ∷ []) k e)) (sym at_place) (subst (IsSeenAt format bytes (get_or places k d)) (sym at_op) (seen.each k d e before))
  ];
}

-- ---- taking one more record

module _ {S : Type 0} (took : S → ATrace → Type 0) where
  pub goes_still : (begun : Option S) (r : Reading) → IsUnderway took begun r → GoesOn took begun r begun r
  goes_still begun r u = record { underway = u; fed = λ fed h. h }

  pub goes_next : (from : Option S) (old : Reading) (begun to : Option S) (c : ACounts) (at used : ℕ) (rest : List ℕ) (client : ℕ) (op : Op)
      → GoesOn took from old begun (reading_at c at rest) → Stands (Some (progress_from at c)) rest (Gives (Entry client op) used)
      → ((t : Option ATrace) → IsTakenAs took begun t → IsTakenAs took to (with_item (Entry client op) t))
      → GoesOn took from old to (reading_at (counted c client) (at + used) (drop used rest))
  goes_next from old begun to c at used rest client op on stands takes =
      let item = Entry client op in
      let r = reading_at c at rest in
      let new = past item used r in
      let given_next = next_given r item used (record { fine = refl; going = refl; stands = stands }) in
      let steps : (t : Option ATrace) → IsTakenAs took begun t → IsBegunAs t r.counts → StepsInto took (stage_of t r) (Ok true) to new =
      λ t taken counts. (record { trace = with_item item t; taken = takes t taken; counts = step_begun t r new item counts given_next }, step_took t r new item counts given_next) in
      record {
        underway = into_next took r new begun to on.underway steps;
        fed = λ fed h. into_takes took fed r new begun to (on.fed fed h) steps;
      }

  -- a sink that prepared took the same as before
  pub goes_ready : (from ready to : Option S) (old new : Reading) → ((t : Option ATrace) → IsTakenAs took from t → IsTakenAs took ready t) → GoesOn took ready old to new → GoesOn took from old to new
  goes_ready from ready to old new getting on = record { underway = on.underway; fed = λ fed h. on.fed fed (into_ready took fed from ready old old refl getting h) }

  -- the sink may take the record that comes next
  pub room_next : (begun : Option S) (c : ACounts) (at used : ℕ) (rest : List ℕ) (client : ℕ) (op : Op) → IsUnderway took begun (reading_at c at rest) → Stands (Some (progress_from at c)) rest (Gives (Entry client op) used)
      → (t : Option ATrace) × IsTakenAs took begun t × ItemHasRoom (Entry client op) t
  room_next begun c at used rest client op u stands =
      let item = Entry client op in
      let r = reading_at c at rest in
      (u.trace, u.taken, step_room u.trace r (past item used r) item u.counts (next_given r item used (record { fine = refl; going = refl; stands = stands })))

-- the record's client may have one more
pub turn_next : (c : ACounts) (at used : ℕ) (rest : List ℕ) (client : ℕ) (op : Op) → Stands (Some (progress_from at c)) rest (Gives (Entry client op) used) → HasTurn c client
turn_next c at used rest client op stands = item_turn at (Some c) rest (Entry client op) used stands

-- the offset stays within reach
pub reach_next : (c : ACounts) (at used : ℕ) (rest : List ℕ) (client : ℕ) (op : Op) → Stands (Some (progress_from at c)) rest (Gives (Entry client op) used) → IsWithinReach (Some c) false at → IsWithinReach (Some (counted c client)) false (at + used)
reach_next c at used rest client op stands reach =
    let item = Entry client op in
    let allowed = (given (Some (progress_from at c)) stands.frame item used stands.found_is).0 in
    reach_after at used (Some c) item allowed reach (stands_used (Some (progress_from at c)) rest item used stands).2

-- the record that was read ahead comes next
pub seen_there : (c : ACounts) (at : ℕ) (bytes : List ℕ) (place : RecordPlace) (op : OpView) → IsSeenAt c.format bytes place op
    → record_found (progress_from at c) (record { client = place.client; index = place.index; op = op_viewed op }) place.used ≡ Gives (Entry place.client (op_viewed op)) place.used
    → Stands (Some (progress_from at c)) (drop place.at bytes) (Gives (Entry place.client (op_viewed op)) place.used)
seen_there c at bytes place op seen found =
    seen_stands (progress_from at c) (drop place.at bytes) (record { client = place.client; index = place.index; op = op; used = place.used }) seen found

-- the record that was read ahead at the current offset
module _ (c : ACounts) (at used : ℕ) (bytes : List ℕ) (places : List RecordPlace) (ops : List OpView) (seen : AreSeen c.format bytes places ops) (k : ℕ) (less : k < length places) (place : RecordPlace) (is_place : place ≡ get_or places k place)
    (op : OpView) (is_op : op ≡ get_or ops k op) (come : place.at ≡ used)
    (found : (o : Op) (n : ℕ) → record_found (progress_from (at + used) c) (record { client = place.client; index = place.index; op = o }) n ≡ Gives (Entry place.client o) n) where
  pub stands_here : Stands (Some (progress_from (at + used) c)) (drop used bytes) (Gives (Entry place.client (op_viewed op)) place.used)
  stands_here =
      let here : IsSeenAt c.format bytes place op = subst (λ (p : RecordPlace). IsSeenAt c.format bytes p op) (sym is_place) (subst (IsSeenAt c.format bytes (get_or places k place)) (sym is_op) (seen.each k place op less)) in
      subst (λ (n : ℕ). Stands (Some (progress_from (at + used) c)) (drop n bytes) (Gives (Entry place.client (op_viewed op)) place.used)) come
      (seen_there c (at + used) bytes place op here (found (op_viewed op) place.used))

  pub within_here : used ≤ length bytes → used + place.used ≤ length bytes
  within_here within =
      let bounds = stands_used (Some (progress_from (at + used) c)) (drop used bytes) (Entry place.client (op_viewed op)) place.used stands_here in
      omega (arith, within, bounds.2, length-drop used bytes)

  pub reach_here : IsWithinReach (Some c) false (at + used) → IsWithinReach (Some (counted c place.client)) false (at + (used + place.used))
  reach_here reach =
      let next = reach_next c (at + used) place.used (drop used bytes) place.client (op_viewed op) stands_here reach in
      (next.0, omega (arith, next.1))

  pub goes_here : {S : Type 0} (took : S → ATrace → Type 0) (from : Option S) (old : Reading) (begun to : Option S) → GoesOn took from old begun (reading_at c (at + used) (drop used bytes))
      → ((t : Option ATrace) → IsTakenAs took begun t → IsTakenAs took to (with_item (Entry place.client (op_viewed op)) t))
      → GoesOn took from old to (reading_at (counted c place.client) (at + (used + place.used)) (drop (used + place.used) bytes))
  goes_here took from old begun to on takes =
      let next = goes_next took from old begun to c (at + used) place.used (drop used bytes) place.client (op_viewed op) on stands_here takes in
      let sum : (at + used) + place.used ≡ at + (used + place.used) = omega arith in
      subst (λ (n : ℕ). GoesOn took from old to (reading_at (counted c place.client) n (drop (used + place.used) bytes))) sum
      (subst (λ (l : List ℕ). GoesOn took from old to (reading_at (counted c place.client) ((at + used) + place.used) l)) (drop-drop place.used used bytes) next)

-- ---- the item after them

module _ {S : Type 0} (took : S → ATrace → Type 0) (from mid to : Option S) (old now new : Reading) (on : GoesOn took from old mid now) where
  pub item_on : (result : Result Bool TraceFault) → ((t : Option ATrace) → IsTakenAs took mid t → IsBegunAs t now.counts → StepsInto took (stage_of t now) result to new) → IfOk result (λ went. IsTrue went → GoesOn took from old to new)
  item_on (Ok true) steps = λ _. record {
    underway = into_next took now new mid to on.underway steps;
    fed = λ fed h. into_takes took fed now new mid to (on.fed fed h) steps;
  }
  item_on (Ok false) steps = λ went. absurd cc
  item_on (Err e) steps = tt

  pub item_less : length now.rest ≤ length old.rest → (result : Result Bool TraceFault) → ((t : Option ATrace) → IsTakenAs took mid t → IsBegunAs t now.counts → StepsInto took (stage_of t now) result to new)
      → IfOk result (λ went. IsTrue went → length new.rest < length old.rest)
  item_less no_more (Ok true) steps = λ _. omega (arith, no_more, into_less took now new mid to on.underway steps)
  item_less no_more (Ok false) steps = λ went. absurd cc
  item_less no_more (Err e) steps = tt

  pub item_settled : (result : Result Bool TraceFault) → ((t : Option ATrace) → IsTakenAs took mid t → IsBegunAs t now.counts → StepsInto took (stage_of t now) result to new)
      → IfOk result (λ went. ¬ IsTrue went → (fed : List ℕ) → FedInto took fed from old → SettledInto took fed to new)
  item_settled (Ok true) steps = λ not. absurd (not refl)
  item_settled (Ok false) steps = λ _ fed h. into_waits took fed now new mid to (on.fed fed h) steps
  item_settled (Err e) steps = tt

  pub item_fails : (result : Result Bool TraceFault) → ((t : Option ATrace) → IsTakenAs took mid t → IsBegunAs t now.counts → StepsInto took (stage_of t now) result to new)
      → IfErr result (λ fault. (fed : List ℕ) → FedInto took fed from old → Stops fed fault)
  item_fails (Ok went) steps = tt
  item_fails (Err e) steps = λ fed h. into_fails took fed now new mid to e (on.fed fed h) steps
