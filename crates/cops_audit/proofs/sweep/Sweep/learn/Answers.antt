use Rattle.std.proofs.Common.{◌≡◌, ◌≤◌, ◌+◌, ℕ, List, length, get_or, ap, arith, rules}
use Rattle.cops_audit.specs.declared.summaries.OpPlace.{OpPlace}
use Rattle.cops_audit.specs.declared.summaries.OpPlace.TheVariants.{Got}
use Rattle.cops_types.specs.declared.versioned_put.VersionedPut.{VersionedPut}
use Rattle.cops_audit.specs.Summaries.{above, StandsAt}
use Rattle.cops_audit.proofs.Fitting.{no_ok}
use Rattle.cops_audit.proofs.Learning.{learns_put, learns_got}
use Rattle.cops_audit.proofs.Places.{stands_item}
use Rattle.cops_audit.proofs.sweep.Sweep.learn.Goals as goal

-- what was got is at its place
here : (table : List VersionedPut) (seen : OpPlace) (place : ℕ) (put : VersionedPut) → seen ≡ Got place → above seen ≤ length table → put ≡ get_or table place put → StandsAt table place put.name put.version
here table seen place put is few at = stands_item table place put (let e : above seen ≡ place + 1 = ap above is in omega (arith, e, few)) at

pub returns-in-Put-clause-learns : goal.returns-in-Put-clause-learns
returns-in-Put-clause-learns c = learns_put c.args.table.now c.args.firsts.now c.args.floor c.args.self.now c.take_put.new.self c.args.seen c.in-Put.place c.in-Put.is c.take_put.ensures.counts c.take_put.ensures.pending c.take_put.ensures.newest

pub returns-in_ok-raise-in-Got-clause-learns : goal.returns-in_ok-raise-in-Got-clause-learns
returns-in_ok-raise-in-Got-clause-learns c =
    let put = c.index-table-place.result in
    learns_got c.args.table.now c.args.firsts.now c.args.floor c.args.self.now c.raise.new.self c.args.seen c.in-Got.place put.name put.version c.in-Got.is
    (here c.args.table.now c.args.seen c.in-Got.place put c.in-Got.is c.requires.seen c.index-table-place.is) c.in_ok-raise-in-Got.ensures.raises

pub returns-in_ok-raise-in-Got-clause-room : goal.returns-in_ok-raise-in-Got-clause-room
returns-in_ok-raise-in-Got-clause-room c = λ space lengths covers room.
    let put = c.index-table-place.result in
    let less = covers c.in-Got.place put.name put.version (here c.args.table.now c.args.seen c.in-Got.place put c.in-Got.is c.requires.seen c.index-table-place.is) in (
      search rules,
      (c.in_ok-raise-in-Got.ensures.room space lengths (omega (arith, less)) room).1,
    )

pub returns-in_err-raise-in-Got-clause-room : goal.returns-in_err-raise-in-Got-clause-room
returns-in_err-raise-in-Got-clause-room c = λ space lengths covers room.
    let put = c.index-table-place.result in
    let less = covers c.in-Got.place put.name put.version (here c.args.table.now c.args.seen c.in-Got.place put c.in-Got.is c.requires.seen c.index-table-place.is) in
    no_ok (c.in_err-raise-in-Got.ensures.room space lengths (omega (arith, less)) room).0
