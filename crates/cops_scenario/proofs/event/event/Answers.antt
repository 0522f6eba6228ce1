use Rattle.std.proofs.Common.{◌∙◌, map, sym}
use Rattle.serde_json.specs.View.{view}
use Rattle.cops_scenario.proofs.Events.{no_ask, no_del, no_deliver, no_get, no_mark, no_put, no_settle, same_event}
use Rattle.cops_scenario.proofs.event.event.Goals as goal

pub returns-in-put-clause-none : goal.returns-in-put-clause-none
returns-in-put-clause-none c = λ err event legal e.
    let parts = map view c.in_ok-parts.parts.now in
    let same = same_event (view c.args.json.now) (view c.in_ok-name.of.now) c.in_ok-name.name.now parts event c.in_ok-name.ensures.json c.in_ok-parts.ensures.json e in
    no_put c.args.format parts (c.put.ensures.none err) event legal (sym c.in-put.is ∙ same.0) same.1

pub returns-in-get-clause-none : goal.returns-in-get-clause-none
returns-in-get-clause-none c = λ err event legal e.
    let parts = map view c.in_ok-parts.parts.now in
    let same = same_event (view c.args.json.now) (view c.in_ok-name.of.now) c.in_ok-name.name.now parts event c.in_ok-name.ensures.json c.in_ok-parts.ensures.json e in
    no_get parts (c.get.ensures.none err) c.args.format event legal (sym c.in-get.is ∙ same.0) same.1

pub returns-in_err-dc-in-deliver-clause-none : goal.returns-in_err-dc-in-deliver-clause-none
returns-in_err-dc-in-deliver-clause-none c = λ err event legal e.
    let parts = map view c.in_ok-parts.parts.now in
    let same = same_event (view c.args.json.now) (view c.in_ok-name.of.now) c.in_ok-name.name.now parts event c.in_ok-name.ensures.json c.in_ok-parts.ensures.json e in
    no_deliver parts c.in_err-dc-in-deliver.ensures.none c.args.format event legal (sym c.in-deliver.is ∙ same.0) same.1

pub returns-in-ask-clause-none : goal.returns-in-ask-clause-none
returns-in-ask-clause-none c = λ err event legal e.
    let parts = map view c.in_ok-parts.parts.now in
    let same = same_event (view c.args.json.now) (view c.in_ok-name.of.now) c.in_ok-name.name.now parts event c.in_ok-name.ensures.json c.in_ok-parts.ensures.json e in
    no_ask parts (c.ask.ensures.none err) c.args.format event legal (sym c.in-ask.is ∙ same.0) same.1

pub returns-in-mark-clause-none : goal.returns-in-mark-clause-none
returns-in-mark-clause-none c = λ err event legal e.
    let parts = map view c.in_ok-parts.parts.now in
    let same = same_event (view c.args.json.now) (view c.in_ok-name.of.now) c.in_ok-name.name.now parts event c.in_ok-name.ensures.json c.in_ok-parts.ensures.json e in
    no_mark parts (c.mark.ensures.none err) c.args.format event legal (sym c.in-mark.is ∙ same.0) same.1

pub returns-in_err-dc-in-settle-clause-none : goal.returns-in_err-dc-in-settle-clause-none
returns-in_err-dc-in-settle-clause-none c = λ err event legal e.
    let parts = map view c.in_ok-parts.parts.now in
    let same = same_event (view c.args.json.now) (view c.in_ok-name.of.now) c.in_ok-name.name.now parts event c.in_ok-name.ensures.json c.in_ok-parts.ensures.json e in
    no_settle parts c.in_err-dc-in-settle.ensures.none c.args.format event legal (sym c.in-settle.is ∙ same.0) same.1

pub returns-in-del-clause-none : goal.returns-in-del-clause-none
returns-in-del-clause-none c = λ err event legal e.
    let parts = map view c.in_ok-parts.parts.now in
    let same = same_event (view c.args.json.now) (view c.in_ok-name.of.now) c.in_ok-name.name.now parts event c.in_ok-name.ensures.json c.in_ok-parts.ensures.json e in
    no_del parts (c.del.ensures.none err) c.args.format event legal (sym c.in-del.is ∙ same.0) same.1
