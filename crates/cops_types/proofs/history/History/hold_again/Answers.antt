use Rattle.std.proofs.Common.{map, refl, arith}
use Rattle.std.proofs.lemmas.List.{length-map}
use Rattle.cops_types.specs.Entries.{reported}
use Rattle.cops_types.proofs.Holding.{flags-le, room_kept, flag_kept}
use Rattle.cops_types.proofs.history.History.hold_again.Goals as goal

pub invariant_of-self : goal.invariant_of-self
invariant_of-self c =
    room_kept c.self.inside.keys c.self.inside.keys c.self.inside.entries c.reserve.new.self c.self.inside.maxima c.self.inside.reserved.items c.self.inside.reservations c.self.inside.len
    refl (omega arith) c.in_err-reserve.ensures.keeps c.self.invariant

pub overflow_add-more : goal.overflow_add-more
overflow_add-more c =
    let all = c.self.inside.entries.all in
    omega (arith, c.self.invariant.held, c.self.invariant.flags, flags-le c.self.inside.reserved.items, length-map all (map (reported c.self.inside.keys.keys all)), c.self.invariant.limits.clients)

pub invariant_of-self-in_err-reserve-2 : goal.invariant_of-self-in_err-reserve-2
invariant_of-self-in_err-reserve-2 c =
    room_kept c.self.inside.keys c.reserve-2.new.self c.self.inside.entries c.reserve.new.self c.self.inside.maxima c.self.inside.reserved.items c.self.inside.reservations c.self.inside.len
    c.in_err-reserve-2.ensures.same c.in_err-reserve-2.ensures.kept c.in_ok-reserve.ensures.keeps c.self.invariant

pub invariant_of-self-2 : goal.invariant_of-self-2
invariant_of-self-2 c =
    let was = rw (← c.self.view_is) at c.requires.none in
    flag_kept c.self.inside.keys c.reserve-2.new.self c.self.inside.entries c.reserve.new.self c.self.inside.maxima c.self.inside.reserved.items c.self.inside.reservations c.self.inside.len
    c.in_ok-reserve-2.ensures.same c.in_ok-reserve-2.ensures.kept c.in_ok-reserve.ensures.keeps c.self.invariant
    c.args.client (rw (← c.self.view_is) at c.requires.inside) was c.in_ok-reserve.ensures.room c.in_ok-reserve-2.ensures.ok c.in_ok-reserve.ensures.more_puts c.in_ok-reserve.ensures.more_gets
