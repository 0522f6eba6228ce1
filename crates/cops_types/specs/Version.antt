-- Versions as numbers.
use Rattle.std.specs.Prelude.{ℕ, ◌<◌, ◌≤◌, ◌/◌, ◌%◌, ◌^◌}
use Rattle.cops_types.specs.declared.limits.TheConstants.{NODES}

-- the clock is in the high bits, the node in the low 16
abbrev pub clock_of : ℕ → ℕ
clock_of raw = raw / 65536

abbrev pub node_of : ℕ → ℕ
node_of raw = raw % 65536

-- a version has a clock from 1 on, of 48 bits, and a node below the limit
abbrev pub IsVersion : ℕ → Type 0
IsVersion raw = (1 ≤ clock_of raw) × (node_of raw < NODES) × (raw < 2 ^ 64)
