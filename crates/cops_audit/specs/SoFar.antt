-- Verdicts on a history that may go on.
use Rattle.std.specs.Prelude.{◌≡◌, ◌<◌, ◌⊎◌, ℕ, List, length, Some}
use Rattle.cops_types.specs.declared.op.OpName.{OpName}
use Rattle.cops_types.specs.Histories.{Sessions, op_at, PutsVersion, SourceStep, Operation}
use Rattle.cops_types.specs.Operations.{GetsVersion}
use Rattle.cops_types.specs.Faults.{HasNoSource, IsNotAbove, IsStale, Lists}
use Rattle.cops_types.specs.VersionOrder.{IsDoubled}
use Rattle.cops_audit.specs.declared.verdict.SoFar.{SoFar}
use Rattle.cops_audit.specs.declared.verdict.SoFar.TheVariants.{Clean, Waiting, Refused}

-- a put has the get's version, with another key or value
pub record IsMismatched (h : Sessions) (got put : OpName) : Type 0 where
  pub version : ℕ
  pub gets : GetsVersion h got version
  pub puts : PutsVersion h put version
  pub no_source : ¬ SourceStep h put got

-- no put has the get's version yet
pub record IsWaiting (h : Sessions) (got : OpName) : Type 0 where
  pub version : ℕ
  pub gets : GetsVersion h got version
  pub none : (put : OpName) → ¬ PutsVersion h put version

-- each get without a source waits for its put
abbrev pub HaveSourcesOrWait : Sessions → Type 0
HaveSourcesOrWait h = (name : OpName) → HasNoSource h name → IsWaiting h name

-- a fault that no further operation removes
abbrev pub HasLastingFault : Sessions → Type 0
HasLastingFault h =
    ((name : OpName) × IsDoubled h name)
    ⊎ ((name : OpName) × (earlier : OpName) × IsNotAbove h name earlier)
    ⊎ ((name : OpName) × (newer : OpName) × IsStale h name newer)
    ⊎ ((got : OpName) × (put : OpName) × IsMismatched h got put)

-- each operation of the one is in the other, with the same name
abbrev pub Continues : Sessions → Sessions → Type 0
Continues h longer = (name : OpName) (op : Operation) → op_at h name ≡ Some op → op_at longer name ≡ Some op

-- no lasting fault and no get that waits, no lasting fault and this number of gets that wait, or a lasting fault
abbrev pub IsSoFar : Sessions → SoFar → Type 0
IsSoFar h Clean = (¬ HasLastingFault h) × ((name : OpName) → ¬ IsWaiting h name)
IsSoFar h (Waiting n) = (¬ HasLastingFault h) × (0 < n) × (names : List OpName) × Lists (λ m. m) (IsWaiting h) names × (length names ≡ n)
IsSoFar h Refused = HasLastingFault h
