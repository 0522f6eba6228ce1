use Rattle.std.proofs.Common.{List, sym, subst, refl}
use Rattle.cops_node.specs.declared.entry.Entry.{Entry}
use Rattle.cops_node.specs.Node.{opened}
use Rattle.cops_cluster.specs.Close.{IsReplay, number_of}
use Rattle.cops_cluster.proofs.closing.list_at.Goals as goal

pub returns-else-from-number_at-clause-replays : goal.returns-else-from-number_at-clause-replays
returns-else-from-number_at-clause-replays c =
    let P : List Entry → Type 0 = λ es. IsReplay (number_of c.args.places c.args.n) es in
    subst P (sym c.new.ensures.items) (opened (number_of c.args.places c.args.n), refl)
