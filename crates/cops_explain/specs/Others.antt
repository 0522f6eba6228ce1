-- The other puts with an operation's version.
use Rattle.std.specs.Prelude.{◌≢◌, List}
use Rattle.cops_types.specs.declared.op.OpName.{OpName}
use Rattle.cops_types.specs.Histories.{Sessions, PutsVersion}
use Rattle.cops_types.specs.Faults.{Lists}
use Rattle.cops_report.specs.Reports.{version_at}

-- another put has the version of the operation with this name
abbrev pub IsOther : Sessions → OpName → OpName → Type 0
IsOther h name other = PutsVersion h other (version_at h name) × (other ≢ name)

-- all other puts with the version, in order of names
abbrev pub AreOthers : Sessions → OpName → List OpName → Type 0
AreOthers h name others = Lists (λ n. n) (IsOther h name) others
