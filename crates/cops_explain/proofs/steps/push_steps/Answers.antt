use Rattle.std.proofs.Common.{◌++◌}
use Rattle.std.specs.Prelude.{string_bytes}
use Rattle.cops_types.specs.declared.op.OpName.{OpName}
use Rattle.cops_explain.specs.Naming.{named_of}
use Rattle.cops_explain.specs.Steps.{step_lines}
use Rattle.cops_explain.proofs.StepLemmas.{step_more, steps_end}
use Rattle.cops_explain.proofs.steps.push_steps.Goals as goal

abbrev first : OpName
first = record { client = 0; index = 0 }

pub loop-name-preserved : goal.loop-name-preserved
loop-name-preserved c =
    let h = named_of c.args.named in
    step_more h c.args.names.now c.loop-name.name-index first c.loop-name.from (string_bytes c.args.out.now ++ step_lines h c.args.from c.args.names.now)
    (string_bytes c.loop-name.out) (string_bytes c.push_step.new.out) c.loop-name-test.true c.in_ok-push_step.ensures c.loop-name.invariant

pub returns : goal.returns
returns c =
    let h = named_of c.args.named in
    steps_end h c.args.names.now c.loop-name.name-index c.loop-name.from (string_bytes c.args.out.now ++ step_lines h c.args.from c.args.names.now) (string_bytes c.loop-name.out) c.loop-name-test.false
    c.loop-name.invariant
