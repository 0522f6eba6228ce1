use Rattle.std.proofs.Common.{refl, ap}
use Rattle.std.specs.Option.{option_map}
use Rattle.cops_types.specs.Operations.{key_of}
use Rattle.cops_audit.proofs.Suspecting.{waiting_clear, waiting_is}
use Rattle.cops_audit.proofs.window.waiting_suspect.Goals as goal

pub returns-in_default-clause-none : goal.returns-in_default-clause-none
returns-in_default-clause-none c =
    let own = c.requires.seen.0 in
    waiting_clear c.args.analysis.now.history.now.sessions c.args.analysis.now.table.now c.requires.analysis.table c.args.op c.args.place c.requires.seen c.requires.waiting c.args.mark
    (c.in_default.ensures c.args.analysis.now.table.now own.key c.requires.analysis.by_key (ap (option_map key_of) own.got))

pub returns-clause-suspect : goal.returns-clause-suspect
returns-clause-suspect c =
    let own = c.requires.seen.0 in (
      refl,
      waiting_is c.args.analysis.now.history.now.sessions c.args.analysis.now.table.now c.requires.analysis.table c.args.op c.args.place c.requires.seen c.requires.waiting c.in-Some.first
          (c.in-Some.ensures c.args.analysis.now.table.now own.key c.requires.analysis.by_key (ap (option_map key_of) own.got)),
    )
