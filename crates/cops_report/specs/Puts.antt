-- The puts by their versions.
use Rattle.std.specs.Prelude.{ℕ, List, Contains}
use Rattle.cops_types.specs.declared.op.OpName.{OpName}
use Rattle.cops_types.specs.declared.versioned_put.VersionedPut.{VersionedPut}
use Rattle.cops_audit.specs.declared.verdict.Verdict.{Verdict}
use Rattle.cops_audit.specs.declared.verdict.Verdict.TheVariants.{Refused}
use Rattle.cops_audit.specs.declared.verdict.Faults.TheVariants as class

-- the list has the put with its version
abbrev pub HasPut : List VersionedPut → OpName → ℕ → Type 0
HasPut puts n v = Contains puts (record { version = v; name = n })

-- the verdict is that gets are stale: a report of it needs the puts
abbrev pub FindsStale : Verdict → Type 0
FindsStale (Refused (class.Stale faults)) = Unit {0}
FindsStale _ = ⊥
