use Rattle.std.proofs.Common.{◌≡◌, ◌≤◌, ◌<◌, ◌+◌, ◌∙◌, ◌++◌, ◌∷◌, [], ℕ, List, All, length, map, take, sym, ap, subst, arith}
use Rattle.std.proofs.lemmas.List.{take_more, take_all, map-append, length-map}
use Rattle.std.proofs.lemmas.List.Elements.{All-map}
use Rattle.cops_place.specs.Place.{APlace}
use Rattle.cops_place.specs.Clients.{AreClients}
use Rattle.cops_scenario.specs.declared.script.ScriptedClient.{ScriptedClient}
use Rattle.cops_scenario.specs.Scenario.{AScenario, homes_of}
use Rattle.cops_scenario.specs.Limits.{IsClientOf}
use Rattle.cops_scenario.proofs.scenario.Scenario.homes.Goals as goal

all_homes : (items : List ScriptedClient) (i : ℕ) (homes : List ℕ) → length items ≤ i → homes ≡ map (λ c. c.at) (take i items) → homes ≡ map (λ c. c.at) items
all_homes items i homes done are = are ∙ ap (map (λ (c : ScriptedClient). c.at)) (take_all i items done)

are_clients : (place : APlace) (clients : List ScriptedClient) → All (IsClientOf place.dcs) clients → length clients ≤ 64 → AreClients place (map (λ c. c.at) clients)
are_clients place clients each few =
    (All-map (λ dc. dc < place.dcs) (λ (c : ScriptedClient). c.at) clients (λ i d less. (each i d less).0), omega (arith, length-map {A = ScriptedClient} {B = ℕ}, few))

pub loop-client-preserved : goal.loop-client-preserved
loop-client-preserved c =
    let i = c.loop-client.client-index in
    let items = c.deref-client-items.result.now in
    let more : take (i + 1) items ≡ take i items ++ c.client-item.result ∷ [] =
    take_more items i c.client-item.result c.loop-client-test.true ∙ ap (λ (e : ScriptedClient). take i items ++ e ∷ []) (sym c.client-item.is) in
    c.in_ok-push.ensures.items ∙ ap (λ (xs : List ℕ). xs ++ c.client-item.result.at ∷ []) c.loop-client.invariant
    ∙ sym (ap (map (λ (x : ScriptedClient). x.at)) more ∙ map-append (λ (x : ScriptedClient). x.at) (take i items) (c.client-item.result ∷ []))

pub returns-clause-homes : goal.returns-clause-homes
returns-clause-homes c =
    all_homes c.self.inside.clients.items c.loop-client.client-index c.loop-client.homes.items (omega (arith, c.loop-client-test.false, c.deref-client-items.ensures.value)) (subst (λ (l : List ScriptedClient). c.loop-client.homes.items ≡ map (λ x. x.at) (take c.loop-client.client-index l)) c.deref-client-items.ensures.value c.loop-client.invariant)
    ∙ ap homes_of c.self.view_is

pub returns-clause-there : goal.returns-clause-there
returns-clause-there c =
    let here = all_homes c.self.inside.clients.items c.loop-client.client-index c.loop-client.homes.items (omega (arith, c.loop-client-test.false, c.deref-client-items.ensures.value)) (subst (λ (l : List ScriptedClient). c.loop-client.homes.items ≡ map (λ x. x.at) (take c.loop-client.client-index l)) c.deref-client-items.ensures.value c.loop-client.invariant) in
    let are = are_clients c.self.inside.place c.self.inside.clients.items c.self.invariant.each_client c.self.invariant.few_clients in
    subst (λ (s : AScenario). AreClients s.place c.loop-client.homes.items) c.self.view_is (rw here are)
