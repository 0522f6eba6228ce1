use Rattle.std.proofs.Common.{refl, ap}
use Rattle.std.specs.Option.{option_map}
use Rattle.cops_types.specs.Operations.{key_of}
use Rattle.cops_audit.proofs.Suspecting.{missed_clear, missed_far, missed_is}
use Rattle.cops_audit.proofs.window.missed_suspect.Goals as goal

pub returns-in_default-clause-none : goal.returns-in_default-clause-none
returns-in_default-clause-none c =
    let h = c.args.analysis.now.history.now.sessions in
    let missed = c.requires.missed in
    missed_clear h c.args.analysis.now.table.now c.requires.analysis.table c.args.op missed.0 missed.1 c.args.mark
    (c.in_default.ensures c.args.analysis.now.table.now missed.0 c.requires.analysis.by_key (ap (option_map key_of) missed.1))

pub returns-then-first-mark-clause-none : goal.returns-then-first-mark-clause-none
returns-then-first-mark-clause-none c =
    let h = c.args.analysis.now.history.now.sessions in
    let missed = c.requires.missed in
    missed_far h c.args.analysis.now.table.now c.requires.analysis.table c.args.op missed.0 missed.1 c.args.mark c.in-Some.first
    (c.in-Some.ensures c.args.analysis.now.table.now missed.0 c.requires.analysis.by_key (ap (option_map key_of) missed.1)) c.if-first-mark.true

pub returns-clause-suspect : goal.returns-clause-suspect
returns-clause-suspect c =
    let h = c.args.analysis.now.history.now.sessions in
    let missed = c.requires.missed in (
      refl,
      missed_is h c.args.analysis.now.table.now c.requires.analysis.table c.args.op missed.0 missed.1 c.in-Some.first
          (c.in-Some.ensures c.args.analysis.now.table.now missed.0 c.requires.analysis.by_key (ap (option_map key_of) missed.1)),
    )
