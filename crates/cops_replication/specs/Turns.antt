-- The result of a turn by how much it did, and why turns ended.
use Rattle.std.specs.Prelude.{◌≡◌, ℕ, ◌<◌, min}
use Rattle.cops_types.specs.declared.gate.Point.{Point}
use Rattle.cops_types.specs.NodeNumber.{node_number}
use Rattle.cops_cluster.specs.declared.receiving.TheConstants.{RECEIVER}
use Rattle.cops_cluster.specs.Cluster.{IsNode, MayHoldStep}
use Rattle.cops_cluster.specs.declared.cluster.Cluster.{Cluster}
use Rattle.cops_replication.specs.declared.turn.Turn.{Turn}
use Rattle.cops_replication.specs.declared.turn.Turn.TheVariants.{Did, Idle}
use Rattle.cops_replication.specs.declared.turn.TurnFault.{TurnFault}
use Rattle.cops_replication.specs.declared.turn.TurnFault.TheVariants.{Memory, Held, TurnLimit}

-- the count is `all`, capped at the greatest number of 64 bits
abbrev pub IsCountOf : ℕ → ℕ → Type 0
IsCountOf all count = count ≡ min all 18446744073709551615

-- the turn's result is how much was done, capped at the greatest number of 32 bits
abbrev pub IsTurnOf : ℕ → Turn → Type 0
IsTurnOf done Idle = done ≡ 0
IsTurnOf done (Did reported) = (0 < done) × (reported ≡ min done 4294967295)

-- the gate may hold a step of a receiver at some node of this data centre
abbrev pub MayHoldReceiver : (Point → Type 0) → Cluster → ℕ → Type 0
MayHoldReceiver may_hold cluster dc = (place : ℕ) × IsNode cluster dc place × MayHoldStep may_hold (node_number dc place) RECEIVER

-- why a turn failed
abbrev pub IsFaultAt : (Point → Type 0) → Cluster → ℕ → TurnFault → Type 0
IsFaultAt may_hold cluster dc Memory = Unit {0}
IsFaultAt may_hold cluster dc Held = MayHoldReceiver may_hold cluster dc
IsFaultAt may_hold cluster dc TurnLimit = ⊥

-- why a sequence of turns failed
abbrev pub IsEndAt : (Point → Type 0) → Cluster → ℕ → TurnFault → Type 0
IsEndAt may_hold cluster dc Memory = Unit {0}
IsEndAt may_hold cluster dc Held = MayHoldReceiver may_hold cluster dc
IsEndAt may_hold cluster dc TurnLimit = Unit {0}
