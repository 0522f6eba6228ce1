-- The past of an operation.
use Rattle.std.specs.Prelude.{◌⊎◌}
use Rattle.cops_types.specs.declared.op.OpName.{OpName}
use Rattle.cops_types.specs.Histories.{Sessions, SessionStep, SourceStep}

abbrev pub Step : Sessions → OpName → OpName → Type 0
Step h from to = SessionStep h from to ⊎ SourceStep h from to

-- one or more steps lead from the one to the other: the first is in the past of the second
pub data Past (h : Sessions) (from : OpName) : OpName → Type 0 where
  step : {to : OpName} → Step h from to → Past h from to
  more : {by to : OpName} → Past h from by → Step h by to → Past h from to
