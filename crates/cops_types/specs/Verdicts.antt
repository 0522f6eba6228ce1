-- The verdict: the faults of the first class that has any, or accepted if no class has any.
use Rattle.std.specs.Prelude.{◌≢◌, List, []}
use Rattle.cops_types.specs.declared.op.OpName.{OpName}
use Rattle.cops_types.specs.Histories.{Sessions}
use Rattle.cops_types.specs.VersionOrder.{IsDoubled, NoneDoubled, IsVersionOrder}
use Rattle.cops_types.specs.Faults.{HasNoSource, IsNotAbove, IsStale, Lists}

abbrev pub AllHaveSources : Sessions → Type 0
AllHaveSources h = (name : OpName) → ¬ HasNoSource h name

abbrev pub AllAbove : Sessions → Type 0
AllAbove h = (name earlier : OpName) → ¬ IsNotAbove h name earlier

abbrev pub NoneStale : Sessions → Type 0
NoneStale h = (name newer : OpName) → ¬ IsStale h name newer

-- no class has a fault, and these are the puts in order of versions
pub record IsAccepted (h : Sessions) (puts : List OpName) : Type 0 where
  pub doubled : NoneDoubled h
  pub sources : AllHaveSources h
  pub above : AllAbove h
  pub stale : NoneStale h
  pub version_order : IsVersionOrder h puts

-- the verdict of the history is Accepted
abbrev pub HasAcceptedVerdict : Sessions → Type 0
HasAcceptedVerdict h = (puts : List OpName) × IsAccepted h puts

-- A class is looked at only if those before it are empty. Its list has all its faults, in the order of names, and is not empty.
abbrev pub RefusesDoubled : Sessions → List OpName → Type 0
RefusesDoubled h names = (names ≢ []) × Lists (λ n. n) (IsDoubled h) names

abbrev pub RefusesNoSource : Sessions → List OpName → Type 0
RefusesNoSource h names = NoneDoubled h × (names ≢ []) × Lists (λ n. n) (HasNoSource h) names

-- puts, each with the first earlier operation that it is not above
abbrev pub RefusesNotAbove : {A : Type 0} → Sessions → (A → OpName) → (A → OpName) → List A → Type 0
RefusesNotAbove h op_of earlier_of faults =
    NoneDoubled h × AllHaveSources h × (faults ≢ []) × Lists op_of (λ f. IsNotAbove h (op_of f) (earlier_of f)) faults

-- gets, each with the newest put on its key in its past
abbrev pub RefusesStale : {A : Type 0} → Sessions → (A → OpName) → (A → OpName) → List A → Type 0
RefusesStale h op_of newer_of faults =
    NoneDoubled h × AllHaveSources h × AllAbove h × (faults ≢ []) × Lists op_of (λ f. IsStale h (op_of f) (newer_of f)) faults
