use Rattle.std.proofs.Common.{◌≡◌, length, vec_len}
use Rattle.std.specs.Prelude.{vec_capacity}
use Rattle.cops_cluster.specs.Close.{AllReplay, made_in, made_by}
use Rattle.cops_cluster.proofs.closing.listed.Given as goal

abbrev pub invariant-loop-book : goal.invariant-loop-book
invariant-loop-book l = record {
  len : vec_len l.lists ≡ length l.yielded;
  room : vec_capacity l.lists ≡ vec_capacity l.fn.room;
  replays : AllReplay l.places l.lists.items;
  made : made_in l.places 0 l.lists.items ≡ made_by l.places 0 l.yielded;
}
