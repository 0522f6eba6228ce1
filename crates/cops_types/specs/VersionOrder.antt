-- Versions that identify puts, and the order that they give.
use Rattle.std.specs.Prelude.{◌≢◌, ◌<◌, ◌↔◌, ℕ, List, Contains}
use Rattle.cops_types.specs.declared.op.OpName.{OpName}
use Rattle.cops_types.specs.Histories.{Sessions, Puts, PutsVersion}
use Rattle.cops_types.specs.Convergence.{StandsBefore}

-- a put whose version another put has too
pub record IsDoubled (h : Sessions) (name : OpName) : Type 0 where
  pub version : ℕ
  pub put : PutsVersion h name version
  pub other : OpName
  pub other_put : PutsVersion h other version
  pub differs : other ≢ name

-- no two puts have the same version
abbrev pub NoneDoubled : Sessions → Type 0
NoneDoubled h = (name : OpName) → ¬ IsDoubled h name

-- all puts, with rising versions
pub record IsVersionOrder (h : Sessions) (names : List OpName) : Type 0 where
  pub members : (p : OpName) → Contains names p ↔ Puts h p
  pub rising : (p q : OpName) (v w : ℕ) → StandsBefore names p q → PutsVersion h p v → PutsVersion h q w → v < w
