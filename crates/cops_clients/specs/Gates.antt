-- Where the gate of a run may hold a step.
use Rattle.std.specs.Prelude.{◌≡◌, ℕ, ◌+◌, ◌<◌, ◌⊎◌, length}
use Rattle.cops_types.specs.NodeNumber.{node_number}
use Rattle.cops_types.specs.declared.gate.Point.{Point}
use Rattle.cops_core.specs.World.{Setting, home}
use Rattle.cops_cluster.specs.declared.cluster.Cluster.{Cluster}
use Rattle.cops_cluster.specs.declared.receiving.TheConstants.{RECEIVER}
use Rattle.cops_cluster.specs.Cluster.{MayHoldStep}

-- the gate may hold a step of this client at one of the first `nodes` nodes of this data centre
abbrev pub MayHoldIn : (Point → Type 0) → ℕ → ℕ → ℕ → Type 0
MayHoldIn may_hold nodes dc client = (place : ℕ) × (place < nodes) × MayHoldStep may_hold (node_number dc place) client

-- this is a client of this data centre, or its receiver
abbrev pub ActsIn : Setting → ℕ → ℕ → Type 0
ActsIn s dc client = ((client < length s.homes) × (home s client ≡ dc)) ⊎ (client ≡ RECEIVER)

-- the gate may hold a step of a client of some data centre, or of its receiver, at a node there
abbrev pub MayHold : Setting → (Point → Type 0) → Type 0
MayHold s may_hold = (dc : ℕ) × (dc < s.place.dcs) × ((client : ℕ) × ActsIn s dc client × MayHoldIn may_hold (length s.place.splits + 1) dc client)

-- the gate may hold a step of some receiver of a cluster
abbrev pub MayHoldReceiving : Cluster → (Point → Type 0) → Type 0
MayHoldReceiving c may_hold = (dc : ℕ) × (dc < c.place.dcs) × MayHoldIn may_hold (length c.place.splits + 1) dc RECEIVER
