-- The four classes of faults.
use Rattle.std.specs.Prelude.{◌≡◌, ◌<◌, ◌≤◌, ◌⊎◌, ◌↔◌, ℕ, List, Option, Contains, AllPairs}
use Rattle.cops_types.specs.declared.op.OpName.{OpName}
use Rattle.cops_types.specs.Histories.{Sessions, IsGot, IsMissed, PutsKey, PutsVersion, SourceStep}
use Rattle.cops_types.specs.Past.{Past}

-- a get that has no source among the puts
pub record HasNoSource (h : Sessions) (name : OpName) : Type 0 where
  pub key : List ℕ
  pub content : Option (List ℕ)
  pub version : ℕ
  pub got : IsGot h name key content version
  pub none : (put : OpName) → ¬ SourceStep h put name

-- a put or a get with this version
abbrev pub HasVersion : Sessions → OpName → ℕ → Type 0
HasVersion h name version = PutsVersion h name version ⊎ ((key : List ℕ) × (content : Option (List ℕ)) × IsGot h name key content version)

-- an earlier put or get of its session has a version that is not below the put's own
pub record IsNotBelow (h : Sessions) (earlier name : OpName) : Type 0 where
  pub version : ℕ
  pub own : ℕ
  pub put : PutsVersion h name own
  pub has : HasVersion h earlier version
  pub same_client : earlier.client ≡ name.client
  pub before : earlier.index < name.index
  pub not_below : own ≤ version

-- the first operation of the session whose version is not below the put's own
pub record IsNotAbove (h : Sessions) (name earlier : OpName) : Type 0 where
  pub is_not_below : IsNotBelow h earlier name
  pub first : (e : OpName) → IsNotBelow h e name → earlier.index ≤ e.index

-- a put in the past of the get, with this version, is newer than what the get returned
pub record IsNewer (h : Sessions) (name newer : OpName) (version : ℕ) : Type 0 where
  pub key : List ℕ
  pub put : PutsKey h newer key version
  pub past : Past h newer name
  pub returned : ((content : Option (List ℕ)) × (old : ℕ) × IsGot h name key content old × (old < version)) ⊎ IsMissed h name key

-- the newest put on the key in the past of the get is newer than what the get returned
pub record IsStale (h : Sessions) (name newer : OpName) : Type 0 where
  pub version : ℕ
  pub is_newer : IsNewer h name newer version
  pub newest : (q : OpName) (w : ℕ) → IsNewer h name q w → w ≤ version

-- the order of names: by client first
abbrev pub IsBefore : OpName → OpName → Type 0
IsBefore a b = (a.client < b.client) ⊎ (a.client ≡ b.client × a.index < b.index)

-- exactly the faults of a class, in order of names
pub record Lists {A : Type 0} (name_of : A → OpName) (IsFault : A → Type 0) (faults : List A) : Type 0 where
  pub members : (x : A) → Contains faults x ↔ IsFault x
  pub in_order : AllPairs (λ x y. IsBefore (name_of x) (name_of y)) faults
