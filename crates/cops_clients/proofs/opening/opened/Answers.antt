use Rattle.std.proofs.Common.{ℕ, List, All, subst, sym, ◌∙◌}
use Rattle.cops_scenario.specs.declared.script.ScriptedClient.{ScriptedClient}
use Rattle.cops_replication.specs.Wiring.{AreReceivers as AreWired}
use Rattle.cops_clients.specs.Opening.{HasItsScript}
use Rattle.cops_clients.proofs.Seats.{tasks_of, receivers_of}
use Rattle.cops_clients.proofs.opening.opened.Goals as goal

pub returns-clause-tasks : goal.returns-clause-tasks
returns-clause-tasks c = tasks_of c.args.setting.now c.in_ok-cluster.field-0.clients.items c.in-Ok.tasks.items c.dcs.ensures.setting c.in_ok-cluster.ensures.clients c.in-Ok.ensures.clients

pub returns-clause-scripts : goal.returns-clause-scripts
returns-clause-scripts c = subst (λ (l : List ScriptedClient). All (HasItsScript l) c.in-Ok.tasks.items) c.clients.ensures.clients c.in-Ok.ensures.scripts

pub returns-clause-receivers : goal.returns-clause-receivers
returns-clause-receivers c =
    let setting = c.args.setting.now in
    let shares = c.in_ok-cluster.field-0.shares.items in
    let receivers = c.in-Ok-wired.replicas.receivers.items in
    let wired : AreWired setting.place.dcs shares receivers =
    subst (λ (n : ℕ). AreWired n shares receivers) c.dcs.ensures.count (c.in-Ok-wired.ensures.receivers (c.in_ok-cluster.ensures.shares.0 ∙ sym c.dcs.ensures.count)) in
    receivers_of setting shares receivers c.in_ok-cluster.ensures.shares wired
