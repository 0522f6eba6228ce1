-- The puts by their keys.
use Rattle.std.specs.Prelude.{◌≤◌, ℕ, List, vec_capacity}
use Rattle.cops_types.specs.Recorded.{Recorded}
use Rattle.cops_audit.specs.declared.key_index.KeyIndex.{KeyIndex}
use Rattle.cops_types.specs.declared.versioned_put.VersionedPut.{VersionedPut}
use Rattle.cops_audit.specs.Keys.{AreFirsts, AreNexts, KnowsFirsts}

-- for each put the next one and the first one on its key; for each key the first put on it
pub record IsKeyIndex (r : Recorded) (table : List VersionedPut) (index : KeyIndex) : Type 0 where
  pub nexts : AreNexts r.sessions table index.nexts.items
  pub by_key : KnowsFirsts r table index.by_key.items
  pub firsts : AreFirsts r.sessions table index.firsts.items

-- capacity for the puts and keys of `count` operations
pub record HasCapacity (count : ℕ) (index : KeyIndex) : Type 0 where
  pub nexts : count ≤ vec_capacity index.nexts
  pub by_key : count ≤ vec_capacity index.by_key
  pub firsts : count ≤ vec_capacity index.firsts
