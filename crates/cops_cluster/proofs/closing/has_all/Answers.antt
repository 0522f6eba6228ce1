use Rattle.std.proofs.Common.{◌≡◌, ◌<◌, ◌+◌, ◌∙◌, ℕ, Bool, List, true, sym, ap, length, take, arith}
use Rattle.std.proofs.lemmas.List.{take_all}
use Rattle.std.specs.Prelude.{slice_index_or}
use Rattle.std.specs.List.{list_any}
use Rattle.cops_cluster.specs.declared.share.Share.{Share}
use Rattle.cops_cluster.specs.Close.{is_seat}
use Rattle.cops_cluster.proofs.closing.has_all.Goals as goal

pub returns : goal.returns
returns c =
    let shares = c.args.shares.now in
    let f = λ (seat : ℕ) (s : Share). is_seat c.args.clients seat s.holder in
    let seats : length shares ≡ c.args.clients + c.args.dcs = omega (arith, c.if-shares-seats.false, c.from.ensures, c.from-2.ensures) in
    let ends : take c.loop-share.share-index shares ≡ shares = take_all c.loop-share.share-index shares (omega (arith, c.loop-share-test.false)) in
    let is : (seat : ℕ) → seat < c.args.clients + c.args.dcs → slice_index_or c.loop-share.taken.items seat true ≡ list_any (f seat) shares =
    λ seat below. c.loop-share.invariant.seat seat (omega (arith, below, c.from.ensures, c.from-2.ensures)) ∙ ap (λ (l : List Share). list_any (f seat) l) ends in
    let len : length c.deref.result.now ≡ c.args.clients + c.args.dcs = omega (arith, c.loop-share.invariant.len, c.from.ensures, c.from-2.ensures, c.deref.ensures.len) in (
      λ t. (seats, λ seat below. sym (is seat below) ∙ (ap (λ (l : List Bool). slice_index_or l seat true) (sym c.deref.ensures.value) ∙ c.are_taken.ensures.0 t seat (omega (arith, below, len)))),
      λ all. c.are_taken.ensures.1 (λ seat below. ap (λ (l : List Bool). slice_index_or l seat true) c.deref.ensures.value ∙ (is seat (omega (arith, below, len)) ∙ all.1 seat (omega (arith, below, len)))),
    )
