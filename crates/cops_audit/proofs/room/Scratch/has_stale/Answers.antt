use Rattle.std.proofs.Common.{AllPairs, sym, subst, arith}
use Rattle.cops_types.specs.Faults.{IsBefore}
use Rattle.cops_audit.specs.Names.{names_of}
use Rattle.cops_audit.specs.Windows.{AreSuspects}
use Rattle.cops_audit.proofs.Classes.{in_order_suspects, none_stale, seen_suspects}
use Rattle.cops_audit.proofs.Fitting.{no_ok}
use Rattle.cops_audit.proofs.Growing.{fresh_room}
use Rattle.cops_audit.proofs.Naming.{names_listed}
use Rattle.cops_audit.proofs.room.Scratch.has_stale.Goals as goal

pub set_suspects-requires-clause-in_order : goal.set_suspects-requires-clause-in_order
set_suspects-requires-clause-in_order c = subst (AllPairs IsBefore) (sym c.all.ensures.names) (names_listed c.args.history.now.sessions).in_order

pub has_stale-requires-clause-suspects : goal.has_stale-requires-clause-suspects
has_stale-requires-clause-suspects c = in_order_suspects (seen_suspects c.as_slice-suspects.ensures.value c.in_ok-set_suspects.ensures.suspects)

pub returns-in_err-found-clause-ok : goal.returns-in_err-found-clause-ok
returns-in_err-found-clause-ok c =
    let ready = c.requires.summarized.ready in
    let fresh = c.restart.ensures.fresh ready.empty in
    no_ok (c.in_err-found.ensures.room _ (fresh_room c.args.history.now.sessions c.args.self.now ready c.restart.new.self fresh c.restart.ensures.pending c.args.summaries.now c.requires.summarized.summaries)).0

pub returns-clause-none : goal.returns-clause-none
returns-clause-none c = λ found.
    let h = c.args.history.now.sessions in
    let are = subst (λ ns. AreSuspects h c.as_slice-2.result.now ns c.set_suspects.new.suspects.items) c.all.ensures.names c.in_ok-set_suspects.ensures.suspects in
    none_stale h c.as_slice-2.result.now (names_of h) c.as_slice-suspects.result.now (names_listed h) (seen_suspects c.as_slice-suspects.ensures.value are) (c.in_ok-found.ensures.none found)

pub returns-clause-ready : goal.returns-clause-ready
returns-clause-ready c =
    let ready = c.requires.summarized.ready in
    let fresh = c.restart.ensures.fresh ready.empty in
    let room = (c.in_ok-found.ensures.room _ (fresh_room c.args.history.now.sessions c.args.self.now ready c.restart.new.self fresh c.restart.ensures.pending c.args.summaries.now c.requires.summarized.summaries)).1 in
    let idle = c.in_ok-found.ensures.idle in
    record {
      space = record {
        table = ready.space.table;
        places = ready.space.places;
        keys = c.in_ok-fill.ensures.capacity _ ready.space.keys;
        suspects = omega (arith, ready.space.suspects, c.in_ok-set_suspects.ensures.capacity);
        floors = omega (arith, ready.space.floors, c.in_ok-set_floors.ensures.capacity);
        pending = room.whole;
        newest = room.places;
      };
      enough = ready.enough;
      counts = idle.clients;
      empty = idle.empty;
    }
