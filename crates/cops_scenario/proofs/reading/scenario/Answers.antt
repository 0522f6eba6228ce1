use Rattle.std.proofs.Common.{◌≡◌, ◌≤◌, List, length, rules, subst}
use Rattle.std.specs.Prelude.{Option, IfSome, option_map}
use Rattle.serde_json.specs.Data.{Data}
use Rattle.serde_json.specs.View.{view}
use Rattle.cops_core.specs.declared.event.Event.{Event}
use Rattle.cops_scenario.specs.File.{AreRightBefore, AreUnscripted, IsRight, GiveClients, list_json}
use Rattle.cops_scenario.specs.declared.fault.Field.TheVariants.{Root, Format as FormatField, DataCentres, Splits, Link, Turns, Retries, Repeat, Hold, Clients, Events}
use Rattle.cops_scenario.proofs.Order.{before_clients, before_events}
use Rattle.cops_scenario.proofs.Scripts.{are_events}
use Rattle.cops_scenario.proofs.reading.scenario.Goals as goal

pub returns-in_err-clients-clause-first : goal.returns-in_err-clients-clause-first
returns-in_err-clients-clause-first c = λ field e.
    let root = view c.args.root.now in
    let whole : IsRight root Root = search rules in
    let format : IsRight root FormatField = search rules in
    let dcs : IsRight root DataCentres = search rules in
    let splits : IsRight root Splits = search rules in
    let link : IsRight root Link = search rules in
    let turns : IsRight root Turns = search rules in
    let retries : IsRight root Retries = search rules in
    let repeat : IsRight root Repeat = search rules in
    let hold : IsRight root Hold = search rules in
    let is : Clients ≡ field = search rules in
    subst (AreRightBefore root) is (before_clients root whole format dcs splits link turns retries repeat hold)

pub returns-in_err-events-clause-first : goal.returns-in_err-events-clause-first
returns-in_err-events-clause-first c = λ field e.
    let root = view c.args.root.now in
    let reported : (ds : List Data) × (view c.in-Some.listed.now ≡ list_json ds) × GiveClients ds c.in_ok-clients.clients.items = search rules in
    let right : IsRight root Clients = (reported.0, c.in_ok-clients.clients.items, search rules, reported.2, search rules, search rules) in
    let whole : IsRight root Root = search rules in
    let format : IsRight root FormatField = search rules in
    let dcs : IsRight root DataCentres = search rules in
    let splits : IsRight root Splits = search rules in
    let link : IsRight root Link = search rules in
    let turns : IsRight root Turns = search rules in
    let retries : IsRight root Retries = search rules in
    let repeat : IsRight root Repeat = search rules in
    let hold : IsRight root Hold = search rules in
    let earlier = before_clients root whole format dcs splits link turns retries repeat hold in
    let is : Events ≡ field = search rules in
    before_events root field is earlier right

pub new-requires-clause-events : goal.new-requires-clause-events
new-requires-clause-events c =
    let reported : (ds : List Data) × (view c.in-Some.listed.now ≡ list_json ds) × GiveClients ds c.in_ok-clients.clients.items = search rules in
    let events : Option (List Event) = option_map (λ e. e.items) c.in_ok-events.events in
    let few : IfSome (option_map (λ e. e.items) c.in_ok-events.events) (λ es. length es ≤ 100000) = search rules in
    let beside : (ds : List Data) → view c.in-Some.listed.now ≡ list_json ds → AreUnscripted ds (option_map (λ e. e.items) c.in_ok-events.events) = search rules in
    are_events reported.0 c.in_ok-clients.clients.items events reported.2 (beside reported.0 reported.1) few

pub returns-clause-reported : goal.returns-clause-reported
returns-clause-reported c =
    let reported : (ds : List Data) × (view c.in-Some.listed.now ≡ list_json ds) × GiveClients ds c.in_ok-clients.clients.items = search rules in
    let beside : (ds : List Data) → view c.in-Some.listed.now ≡ list_json ds → AreUnscripted ds (option_map (λ e. e.items) c.in_ok-events.events) = search rules in
    rw c.new.ensures.parts (record {
      numbers = search rules;
      splits = search rules;
      clients = (reported.0, search rules, reported.2, beside reported.0 reported.1);
      events = search rules;
    })

pub returns-clause-legal : goal.returns-clause-legal
returns-clause-legal c =
    rw c.new.ensures.parts (record {
      is_scenario = rw c.new.ensures.parts at c.new.ensures.scenario;
      splits = search rules;
      clients = search rules;
      events = search rules;
    })
