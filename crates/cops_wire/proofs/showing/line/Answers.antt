use Rattle.std.proofs.Common.{◌∙◌, ◌++◌, List, ℕ, ap, arith}
use Rattle.std.specs.List.{flat_map}
use Rattle.std.proofs.lemmas.List.{take_all}
use Rattle.cops_wire.specs.declared.showing.Named.{Named}
use Rattle.cops_wire.specs.Lines.{named_text}
use Rattle.cops_wire.proofs.InARow.{in_a_row}
use Rattle.cops_wire.proofs.showing.line.Goals as goal

pub returns : goal.returns
returns c =
    let fields = c.args.fields.now in
    c.loop-named.invariant
    ∙ ap (λ (t : List Named). c.args.kind.now ++ flat_map named_text t) (take_all c.loop-named.named-index fields (omega (arith, c.loop-named-test.false)))
    ∙ ap (λ (t : List ℕ). c.args.kind.now ++ t) (in_a_row fields)
