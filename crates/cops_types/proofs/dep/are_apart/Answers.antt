use Rattle.std.proofs.Common.{sym}
use Rattle.cops_types.specs.Dep.{is_same_dep}
use Rattle.cops_types.proofs.DepLemmas.{distinct_none, distinct_more, repeated}
use Rattle.cops_types.proofs.dep.are_apart.Goals as goal

pub loop-i-init : goal.loop-i-init
loop-i-init c = distinct_none is_same_dep

pub returns-then-contains : goal.returns-then-contains
returns-then-contains c =
    let twice = repeated is_same_dep c.args.pairs.now c.loop-i.i c.index-pairs-i.result c.loop-i-test.true c.index-pairs-i.is (sym c.if-contains.ensures.value) in
    ((λ no. absurd cc), (λ distinct. absurd (twice distinct)))

pub loop-i-preserved : goal.loop-i-preserved
loop-i-preserved c = distinct_more is_same_dep c.args.pairs.now c.loop-i.i c.index-pairs-i.result c.loop-i-test.true c.index-pairs-i.is (sym c.if-contains.ensures.value) c.loop-i.invariant
