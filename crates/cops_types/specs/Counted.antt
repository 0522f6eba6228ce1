-- The parts of a counted device, for clauses.
use Rattle.std.specs.Prelude.{ℕ}
use Rattle.cops_types.specs.declared.counted.Counted.{Counted}

-- how many times it has failed
abbrev pub failures : {T : Type 0} → Counted T → ℕ
failures c = c.failures

-- the device inside
abbrev pub inner : {T : Type 0} → Counted T → T
inner c = c.inner
