use Rattle.std.proofs.Common.{rules}
use Rattle.std.specs.Prelude.{Some}
use Rattle.cops_types.specs.declared.refusal.Refusal.TheVariants.{NotInFormat, UnknownClient}
use Rattle.cops_serve.proofs.Changes.{no_write, put_in, put_of, where_refused}
use Rattle.cops_serve.proofs.writing.put.Goals as goal

pub returns-in_default-clone-clause-done : goal.returns-in_default-clone-clause-done
returns-in_default-clone-clause-done g c = no_write c.args.cluster.now c.args.key.now (Some c.args.value.now) c.args.client.now

pub returns-clause-done : goal.returns-clause-done
returns-clause-done g c =
    let p = c.in-Ok-put.ensures in
    put_of c.args.cluster.now c.args.key.now c.args.value.now c.in-Ok.key c.in-Ok-clone.value c.in-Ok-put.outcome c.args.client.now c.put.new.client (search rules) (search rules) (
      p.owner,
      p.reported,
      p.context,
      where_refused _ c.put.result _ UnknownClient c.in-Ok-put.is c.put.ensures.unknown.0,
      where_refused _ c.put.result _ NotInFormat c.in-Ok-put.is (λ e. (c.put.ensures.not_in_format.0 e).0),
    )

pub returns-clause-in_format : goal.returns-clause-in_format
returns-clause-in_format g c = put_in c.args.cluster.now.format c.in-Ok-put.outcome c.in-Ok-put.ensures.outcome
