use Rattle.std.proofs.Common.{◌≡◌, ◌<◌, ℕ, true, take}
use Rattle.std.specs.Prelude.{slice_index_or, vec_len}
use Rattle.std.specs.List.{list_any}
use Rattle.cops_cluster.specs.declared.share.Share.{Share}
use Rattle.cops_cluster.specs.Close.{is_seat}
use Rattle.cops_cluster.proofs.closing.has_all.Given as goal

abbrev pub invariant-loop-share : goal.invariant-loop-share
invariant-loop-share l = record {
  len : vec_len l.taken ≡ l.seats;
  seat : (seat : ℕ) → seat < l.seats → slice_index_or l.taken.items seat true ≡ list_any (λ (s : Share). is_seat l.clients seat s.holder) (take l.share-index l.shares);
}
