use Rattle.std.proofs.Common.{◌<◌, length, arith, ap, ◌∙◌}
use Rattle.std.proofs.Math.Seq.{map-set_same}
use Rattle.std.proofs.lemmas.List.{length-map}
use Rattle.cops_types.proofs.Sessions.{kept_room, own_room}
use Rattle.cops_types.proofs.slots.Slots.reserve.Goals as goal

pub returns-clause-same : goal.returns-clause-same
returns-clause-same c =
    rw (← c.self.view_is) (map-set_same (λ b. b.items) c.self.inside.sessions.items c.args.client c.reserve.new.self c.index_mut-session.result.now (c.reserve.ensures.same ∙ ap (λ b. b.items) c.index_mut-session.ensures.value))

pub returns-clause-room : goal.returns-clause-room
returns-clause-room c =
    let sessions = c.self.inside.sessions.items in
    let inside : c.args.client < length sessions = omega (arith, rw (← c.self.view_is) at c.requires, length-map sessions (λ b. b.items)) in
    rw (own_room (λ b. b.items) (λ b. b.room) sessions c.args.client c.reserve.new.self inside) c.reserve.ensures.room

pub returns-clause-others : goal.returns-clause-others
returns-clause-others c =
    let sessions = c.self.inside.sessions.items in
    let inside : c.args.client < length sessions = omega (arith, rw (← c.self.view_is) at c.requires, length-map sessions (λ b. b.items)) in
    rw (← c.self.view_is) (λ k room. kept_room (λ b. b.items) (λ b. b.room) sessions c.args.client k c.index_mut-session.result.now c.reserve.new.self inside c.index_mut-session.ensures.value c.reserve.ensures.kept room)
