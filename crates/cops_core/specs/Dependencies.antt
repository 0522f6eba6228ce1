-- The dependencies of puts.
use Rattle.std.specs.Prelude.{◌≡◌, ◌<◌, List, [], ◌∷◌, Contains}
use Rattle.cops_types.specs.declared.dep.Dep.{Dep}
use Rattle.cops_types.specs.declared.put_record.PutRecord.{PutRecord}
use Rattle.cops_node.specs.Node.{put_pair}

-- one of the puts has this key and version
pub record HasPut (puts : List PutRecord) (pair : Dep) : Type 0 where
  pub put : PutRecord
  pub among : Contains puts put
  pub pair_is : put_pair put ≡ pair

-- `dep` is a dependency of the put with this key and version
pub record Needs (puts : List PutRecord) (pair dep : Dep) : Type 0 where
  pub put : PutRecord
  pub among : Contains puts put
  pub pair_is : put_pair put ≡ pair
  pub needs : Contains put.deps dep

-- `via` is a path from `pair` to `last`, on which each pair is a dependency of the one before; the empty path leads from a pair to itself
abbrev pub LeadsBack : List PutRecord → Dep → List Dep → Dep → Type 0
LeadsBack puts pair [] last = pair ≡ last
LeadsBack puts pair (dep ∷ via) last = Needs puts pair dep × LeadsBack puts dep via last

-- `last` is the pair, or is reached from it through dependencies
abbrev pub Reaches : List PutRecord → Dep → Dep → Type 0
Reaches puts pair last = (via : List Dep) × LeadsBack puts pair via last

-- versions identify the puts; a put's dependencies are pairs of puts in the list, with smaller versions than the put
pub record IsConsistent (puts : List PutRecord) : Type 0 where
  pub unique : (p q : PutRecord) → Contains puts p → Contains puts q → p.version ≡ q.version → p ≡ q
  pub above : (p : PutRecord) (d : Dep) → Contains puts p → Contains p.deps d → d.version < p.version
  pub has_puts : (p : PutRecord) (d : Dep) → Contains puts p → Contains p.deps d → HasPut puts d

-- each dependency of a put is the pair of a put in the list
abbrev pub IsClosed : List PutRecord → Type 0
IsClosed puts = (p : PutRecord) (d : Dep) → Contains puts p → Contains p.deps d → HasPut puts d
