use Rattle.cops_types.specs.declared.op.OpName.{OpName}
use Rattle.std.proofs.Common.{refl}
use Rattle.std.specs.Prelude.{string_bytes}
use Rattle.cops_report.proofs.LineLemmas.{lines_more}
use Rattle.cops_explain.specs.Naming.{named_of}
use Rattle.cops_explain.specs.Operations.{reported_line}
use Rattle.cops_explain.proofs.operation.push_lines.Goals as goal

abbrev first : OpName
first = record { client = 0; index = 0 }

pub loop-name-preserved : goal.loop-name-preserved
loop-name-preserved c =
    lines_more (reported_line (named_of c.args.named)) (string_bytes c.args.out.now) (string_bytes c.loop-name.out) (string_bytes c.push_line.new.out) _
    c.args.names.now c.loop-name.name-index first c.loop-name-test.true c.in_ok-push_line.ensures refl c.loop-name.invariant
