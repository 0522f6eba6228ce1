-- Where a step of a run may be held.
use Rattle.std.proofs.Common.{◌≡◌, ℕ, ◌+◌, ◌≤◌, List, [], inl, inr, length, refl, subst, sym, arith}
use Rattle.std.proofs.lemmas.List.Sums.{count_by-le-length}
use Rattle.cops_types.specs.declared.gate.Point.{Point}
use Rattle.cops_core.specs.World.{Setting, primary}
use Rattle.cops_cluster.specs.declared.client.Client.{Client}
use Rattle.cops_cluster.specs.declared.cluster.Cluster.{Cluster}
use Rattle.cops_cluster.specs.declared.receiving.TheConstants.{RECEIVER}
use Rattle.cops_cluster.specs.Cluster.{MayHoldStep, node_of}
use Rattle.cops_clients.specs.Gates.{MayHold, MayHoldIn, MayHoldReceiving}
use Rattle.cops_clients.specs.Callers.{IsClientOf}

-- a step at a key's node
pub at_key : (c whole : Cluster) (may_hold : Point → Type 0) (dc client : ℕ) (key : List ℕ) → c ≡ whole → MayHoldStep may_hold (node_of c dc key) client → MayHoldIn may_hold (length whole.place.splits + 1) dc client
at_key c whole may_hold dc client key same may =
    let s : Setting = record { format = c.format; place = c.place; homes = [] } in
    let few : primary s key ≤ length c.place.splits = count_by-le-length _ c.place.splits in
    subst (λ (w : Cluster). MayHoldIn may_hold (length w.place.splits + 1) dc client) same (primary s key, omega (arith, few), may)

-- a step of a client
pub of_client : (s : Setting) (c : Cluster) (may_hold : Point → Type 0) (client : Client) → c.place ≡ s.place → IsClientOf s client → MayHoldIn may_hold (length c.place.splits + 1) client.dc client.number → MayHold s may_hold
of_client s c may_hold client same is may =
    let there : MayHoldIn may_hold (length s.place.splits + 1) client.dc client.number = subst (λ (p : _). MayHoldIn may_hold (length p.splits + 1) client.dc client.number) same may in
    (client.dc, is.2, (client.number, inl (is.0, sym is.1), there))

pub of_receiving : (s : Setting) (c : Cluster) (may_hold : Point → Type 0) → c.place ≡ s.place → MayHoldReceiving c may_hold → MayHold s may_hold
of_receiving s c may_hold same may =
    subst (λ (p : _). MayHold (record s { place = p }) may_hold) same (may.0, may.1, (RECEIVER, inr refl, may.2))
