-- A history's operations in order of names, and its puts in order of versions.
use Rattle.std.specs.Prelude.{List}
use Rattle.cops_types.specs.declared.op.OpName.{OpName}
use Rattle.cops_types.specs.Histories.{Sessions, IsNamed}
use Rattle.cops_types.specs.Faults.{Lists}
use Rattle.cops_types.specs.Recorded.{IsWithinLimits}
use Rattle.cops_types.specs.declared.versioned_put.VersionedPut.{VersionedPut}
use Rattle.cops_audit.specs.Tables.{IsPutTable}

-- a history with its names and its puts
pub record Sorted : Type 0 where
  pub sessions : Sessions
  pub names : List OpName
  pub table : List VersionedPut

-- all names in order, and all puts in order of versions
pub record IsSorted (s : Sorted) : Type 0 where
  pub names : Lists (λ n. n) (IsNamed s.sessions) s.names
  pub table : IsPutTable s.sessions s.table
  pub limits : IsWithinLimits s.sessions
