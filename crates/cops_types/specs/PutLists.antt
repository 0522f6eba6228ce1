-- Lists of a history's puts.
use Rattle.std.specs.Prelude.{◌≢◌, ◌↔◌, List, Contains, AllPairs}
use Rattle.cops_types.specs.Histories.{Sessions, PutsVersion}
use Rattle.cops_types.specs.declared.versioned_put.VersionedPut.{VersionedPut}

-- all puts with their versions, each once
pub record AreAllPuts (h : Sessions) (puts : List VersionedPut) : Type 0 where
  pub members : (p : VersionedPut) → Contains puts p ↔ PutsVersion h p.name p.version
  pub once : AllPairs (λ p q. p.name ≢ q.name) puts
