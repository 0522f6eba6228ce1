use Rattle.std.proofs.Common.{◌≡◌, ◌++◌, take, map}
use Rattle.cops_cluster.specs.Differing.{shown}
use Rattle.cops_cluster.proofs.differing.add_share.Given as goal

abbrev pub invariant-loop-made : goal.invariant-loop-made
invariant-loop-made l = record {
  same : l.made-items ≡ l.share.entries.items;
  all : map shown l.all.items ≡ map shown l.fn.all.items ++ take l.made-index l.share.entries.items;
}
