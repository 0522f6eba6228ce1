use Rattle.std.proofs.Common.{◌<◌, length, arith, ap}
use Rattle.std.proofs.lemmas.List.{length-map}
use Rattle.cops_types.proofs.Sessions.{more_items, others_room, own_items}
use Rattle.cops_types.proofs.slots.Slots.push.Goals as goal

pub push-requires-clause-few : goal.push-requires-clause-few
push-requires-clause-few c =
    let sessions = c.self.inside.sessions.items in
    let inside : c.args.client < length sessions = omega (arith, rw (← c.self.view_is) at c.requires.inside, length-map sessions (λ b. b.items)) in
    omega (arith, rw (← c.self.view_is) at c.requires.few, ap length (own_items (λ b. b.items) (λ b. b.room) sessions c.args.client c.index_mut-session.result.now inside c.index_mut-session.ensures.value))

pub returns-clause-slots : goal.returns-clause-slots
returns-clause-slots c =
    let sessions = c.self.inside.sessions.items in
    let inside : c.args.client < length sessions = omega (arith, rw (← c.self.view_is) at c.requires.inside, length-map sessions (λ b. b.items)) in
    rw (← c.self.view_is) (more_items (λ b. b.items) (λ b. b.room) sessions c.args.client c.index_mut-session.result.now c.push.new.self c.args.slot inside c.index_mut-session.ensures.value c.push.ensures)

pub returns-clause-others : goal.returns-clause-others
returns-clause-others c =
    rw (← c.self.view_is) (λ k other room. others_room (λ b. b.items) (λ b. b.room) c.self.inside.sessions.items c.args.client k c.push.new.self other room)
