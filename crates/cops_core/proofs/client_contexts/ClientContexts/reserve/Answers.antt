use Rattle.std.proofs.Common.{◌≡◌, ◌<◌, length, arith, true, false, map, get_or, set}
use Rattle.std.proofs.lemmas.List.{length-map}
use Rattle.cops_core.proofs.Pairs.{pairs, room, same_pairs, own_room, on_ok}
use Rattle.cops_core.proofs.client_contexts.ClientContexts.reserve.Goals as goal

pub returns-clause-same : goal.returns-clause-same
returns-clause-same c =
    rw (← c.self.view_is) (same_pairs c.self.inside.contexts.items c.args.client c.index_mut-context.result.now c.reserve.new.self c.index_mut-context.ensures.value c.reserve.ensures.same)

pub returns-clause-room : goal.returns-clause-room
returns-clause-room c =
    let known = rw (← c.self.view_is) at c.requires in
    let inside : c.args.client < length c.self.inside.contexts.items = omega (arith, known, length-map c.self.inside.contexts.items pairs) in
    on_ok c.reserve.result (c.reserve.new.self.room ≡ true) (get_or (map room (set c.self.inside.contexts.items c.args.client c.reserve.new.self)) c.args.client false ≡ true)
    (own_room c.self.inside.contexts.items c.args.client c.reserve.new.self inside) c.reserve.ensures.room
