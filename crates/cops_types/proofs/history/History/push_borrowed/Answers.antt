use Rattle.cops_types.specs.Entries.{reported_by}
use Rattle.cops_types.specs.OpViews.{viewed}
use Rattle.cops_types.proofs.Holding.{put_reported, put_kept}
use Rattle.cops_types.proofs.Sources.{operations_keep}
use Rattle.cops_types.proofs.history.History.push_borrowed.Goals as goal

pub invariant_of-self-2 : goal.invariant_of-self-2
invariant_of-self-2 c =
    let made = c.in_ok-entry.ensures in
    put_kept c.self.inside.keys c.borrowed_entry.new.keys c.self.inside.entries c.push.new.self c.self.inside.maxima c.self.inside.reserved.items c.self.inside.reservations c.self.inside.len c.args.client c.in_ok-entry.entry (viewed c.args.op.now)
    (rw (← c.self.view_is) at c.requires.inside) c.self.invariant made.gains made.sound made.reported c.push.ensures.all c.push.ensures.gains
    c.take_in.new.self (c.take_in.ensures c.borrowed_entry.new.keys.keys c.self.inside.entries.all (reported_by c.self.inside.keys.keys c.self.inside.entries.all) (viewed c.args.op.now) made.reported) (rw (← c.self.view_is) at c.requires.room) c.push.ensures.others
    (rw (← c.self.view_is) at c.requires.session) (rw (← c.self.view_is) at c.requires.all)

pub returns-clause-ok : goal.returns-clause-ok
returns-clause-ok c =
    let made = c.in_ok-entry.ensures in
    rw (← c.self.view_is) (put_reported c.self.inside.keys c.borrowed_entry.new.keys c.self.inside.entries c.push.new.self c.self.inside.maxima c.self.inside.reserved.items c.self.inside.reservations c.self.inside.len c.args.client c.in_ok-entry.entry (viewed c.args.op.now)
    (rw (← c.self.view_is) at c.requires.inside) c.self.invariant made.gains made.sound made.reported c.push.ensures.all c.push.ensures.gains)

pub returns-clause-pending : goal.returns-clause-pending
returns-clause-pending c =
    rw (← c.self.view_is) (operations_keep c.self.inside.keys.keys c.self.inside.entries.all c.self.inside.entries.get_numbers c.push.new.self.get_numbers c.push.ensures.numbers)
