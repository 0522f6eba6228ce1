use Rattle.std.proofs.Common.{◌≡◌, take, map, length}
use Rattle.std.specs.List.Sorted.{IsNonDecreasingBy, IsPermutation}
use Rattle.cops_cluster.specs.Differing.{shown, ticket_of}
use Rattle.cops_cluster.proofs.differing.first_difference.Given as goal

abbrev pub invariant-loop-i : goal.invariant-loop-i
invariant-loop-i l = record {
  len : length l.heard ≡ length l.fn.heard;
  order : IsPermutation l.fn.heard l.heard;
  sorted : IsNonDecreasingBy ticket_of l.heard;
  same : take l.i (map shown l.heard) ≡ take l.i (map shown l.kept);
}
