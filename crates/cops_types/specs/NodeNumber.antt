-- The numbers of nodes, 64 to a data centre, and the versions that a node gives.
use Rattle.std.specs.Prelude.{ℕ, ◌+◌, ◌*◌, ◌/◌, ◌%◌}
use Rattle.cops_types.specs.declared.limits.TheConstants.{PLACES}
use Rattle.cops_types.specs.Version.{node_of}

-- the number of the node at a place of a data centre
abbrev pub node_number : ℕ → ℕ → ℕ
node_number dc place = dc * PLACES + place

-- the clock in the high bits, the node in the low 16
abbrev pub version_of : ℕ → ℕ → ℕ
version_of clock node = clock * 65536 + node

-- the data centre of the node that gave a version
abbrev pub data_centre_of : ℕ → ℕ
data_centre_of version = node_of version / PLACES

-- that node's place there
abbrev pub place_of : ℕ → ℕ
place_of version = node_of version % PLACES
