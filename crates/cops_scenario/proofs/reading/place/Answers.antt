use Rattle.std.proofs.Common.{◌≡◌, ◌≢◌, ◌∙◌, ℕ, List, map, arith, refl, rules, sym}
use Rattle.std.specs.Prelude.{◌↔◌, Result, Ok, Err, IsErrOf}
use Rattle.std.specs.Result.{result_or}
use Rattle.std.proofs.lemmas.Grind.{common_steps}
use Rattle.std.proofs.lemmas.List.{take_all}
use Rattle.serde_json.specs.View.{view}
use Rattle.cops_place.specs.Place.{APlace, AreAscending, IsInRange}
use Rattle.cops_place.specs.declared.fault.PlaceFault.{PlaceFault}
use Rattle.cops_place.specs.declared.fault.PlaceFault.TheVariants.{BadCount, SplitsNotAscending}
use Rattle.cops_types.specs.KeyValue.{IsKey}
use Rattle.cops_json.specs.declared.unread.Unread.{Unread}
use Rattle.cops_json.specs.Json.{text_json}
use Rattle.cops_scenario.proofs.Forms.{no_such_item, same_list, same_texts}
use Rattle.cops_scenario.proofs.reading.place.Goals as goal

-- if everything is within its limits, there is a place
placed : (dcs : ℕ) (splits : List (List ℕ)) (r : Result APlace PlaceFault) (e : Unread) → IsInRange dcs splits → AreAscending splits → (IsErrOf r BadCount ↔ (IsInRange dcs splits → ⊥))
    → (IsErrOf r SplitsNotAscending ↔ (IsInRange dcs splits × (AreAscending splits → ⊥))) → result_or r (Err e) ≢ Err e
placed dcs splits (Ok p) e range ascending bad_count not_ascending reported = cc
placed dcs splits (Err BadCount) e range ascending bad_count not_ascending reported = bad_count.0 refl range
placed dcs splits (Err SplitsNotAscending) e range ascending bad_count not_ascending reported = (not_ascending.0 refl).1 ascending

pub loop-item-preserved : goal.loop-item-preserved
loop-item-preserved c = (grind (arith, common_steps), grind (arith, common_steps))

pub returns-in_err-key-clause-none : goal.returns-in_err-key-clause-none
returns-in_err-key-clause-none c = λ err keys are reported.
    let items = c.in_ok-item-items.item-items.now in
    let none : (key : List ℕ) → IsKey key → view c.item-item.result ≢ text_json key = search rules in
    let listed = rw c.in-Some.is at reported in
    no_such_item text_json IsKey items c.loop-item.item-index c.item-item.result keys c.loop-item-test.true c.item-item.is none
    (same_list (map view items) (map text_json keys) (sym c.in_ok-item-items.ensures.json ∙ listed)) are.2

pub returns-clause-none : goal.returns-clause-none
returns-clause-none c = λ err keys are reported.
    let items = c.in_ok-item-items.item-items.now in
    let read = c.loop-item.keys.items in
    let listed = rw c.in-Some.is at reported in
    let whole = take_all c.loop-item.item-index items (omega arith) in
    let all : map view items ≡ map text_json read = rw whole at c.loop-item.invariant.0 in
    let same : keys ≡ read = same_texts keys read (sym (same_list (map view items) (map text_json keys) (sym c.in_ok-item-items.ensures.json ∙ listed)) ∙ all) in
    let range : IsInRange c.args.dcs keys = (c.requires.0, c.requires.1, are.0) in
    placed c.args.dcs read c.new.result _ (rw same at range) (rw same at are.1) c.new.ensures.bad_count c.new.ensures.not_ascending (sym c.or.ensures ∙ err)
