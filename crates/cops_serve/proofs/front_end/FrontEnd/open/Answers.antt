use Rattle.std.proofs.Common.{ℕ, sym, subst, ◌∙◌}
use Rattle.cops_cluster.specs.Opening.{AreClientsAt, AreReceivers as AreSharesOfReceivers}
use Rattle.cops_replication.specs.Wiring.{AreReceivers}
use Rattle.cops_serve.proofs.Seats.{opened}
use Rattle.cops_serve.proofs.front_end.FrontEnd.open.Goals as goal

pub invariant_of-result-clause-seated : goal.invariant_of-result-clause-seated
invariant_of-result-clause-seated c =
    let o = c.in_ok-cluster.field-0 in
    let homes = c.in_ok-setting.field-0.homes in
    let of_clients : AreClientsAt homes o.cluster.clients o.clients.items = subst (λ (n : ℕ). AreClientsAt homes n o.clients.items) (sym c.in_ok-cluster.ensures.count) c.in_ok-cluster.ensures.clients in
    let of_shares : AreSharesOfReceivers o.cluster.place.dcs o.shares.items = rw c.in_ok-cluster.ensures.place c.in_ok-cluster.ensures.shares in
    let wired : AreReceivers o.cluster.place.dcs o.shares.items c.in_ok-senders.field-0.receivers.items =
    subst (λ (n : ℕ). AreReceivers n o.shares.items c.in_ok-senders.field-0.receivers.items) c.dcs.ensures.value (c.in_ok-senders.ensures.receivers (of_shares.0 ∙ sym c.dcs.ensures.value)) in
    opened homes o.cluster.clients o.cluster.place.dcs o.clients.items o.shares.items c.in_ok-senders.field-0.receivers.items of_clients of_shares wired
