-- What a receiver's share gains.
use Rattle.std.specs.Prelude.{◌≡◌, List, ◌++◌}
use Rattle.cops_cluster.specs.declared.share.Made.{Made}
use Rattle.cops_cluster.specs.declared.share.Share.{Share}

-- the share of the same holder, with more entries after those that it had
pub record Gains (before after : Share) : Type 0 where
  pub holder : after.holder ≡ before.holder
  pub more : List Made
  pub entries : after.entries.items ≡ before.entries.items ++ more
