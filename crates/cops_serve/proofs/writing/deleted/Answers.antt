use Rattle.std.proofs.Common.{rules}
use Rattle.cops_types.specs.declared.refusal.Refusal.TheVariants.{NotInFormat, UnknownClient}
use Rattle.cops_serve.proofs.Changes.{del_in, del_of, where_refused}
use Rattle.cops_serve.proofs.writing.deleted.Goals as goal

pub returns-clause-done : goal.returns-clause-done
returns-clause-done g c =
    let p = c.in-Ok-del.ensures in
    del_of c.args.cluster.now c.args.key.now c.in-Ok.key c.in-Ok-del.outcome c.args.client.now c.del.new.client (search rules) (
      p.owner,
      p.reported,
      p.context,
      where_refused _ c.del.result _ UnknownClient c.in-Ok-del.is c.del.ensures.unknown.0,
      where_refused _ c.del.result _ NotInFormat c.in-Ok-del.is (λ e. (c.del.ensures.not_in_format.0 e).0),
    )

pub returns-clause-in_format : goal.returns-clause-in_format
returns-clause-in_format g c =
    del_in c.args.cluster.now c.args.client.now c.del.result c.in-Ok-del.outcome c.in-Ok-del.is c.del.ensures.unknown.1 c.del.ensures.not_in_format.1
