-- Keys and values.
use Rattle.std.specs.Prelude.{ℕ, ◌<◌, ◌≤◌, List, length}
use Rattle.cops_types.specs.declared.limits.TheConstants.{MAX_KEY, MAX_VALUE}

-- a key has 1 to 64 bytes
abbrev pub IsKey : List ℕ → Type 0
IsKey bytes = (0 < length bytes) × (length bytes ≤ MAX_KEY)

-- a value of any format has at most 16,384 bytes
abbrev pub IsValue : List ℕ → Type 0
IsValue bytes = length bytes ≤ MAX_VALUE
