use Rattle.std.proofs.Common.{rules, sym, ap, ◌∙◌, take, ◌++◌, ◌∷◌, []}
use Rattle.std.proofs.lemmas.List.{take_more}
use Rattle.cops_types.specs.declared.dep.Dep.{Dep}
use Rattle.cops_types.specs.Dep.{is_same_dep}
use Rattle.cops_types.proofs.DepLemmas.{distinct_none, distinct_more, repeated, is_among, is_new, goes_last}
use Rattle.cops_types.proofs.dep.are_apart_in_set.Goals as goal

pub loop-pair-init : goal.loop-pair-init
loop-pair-init c = (search rules, distinct_none is_same_dep)

pub returns-then-not-branch : goal.returns-then-not-branch
returns-then-not-branch c =
    let before = take c.loop-pair.pair-index c.args.pairs.now in
    let some = is_among c.pair-item.result c.loop-pair.seen.keys before c.in_ok-insert.field-0 c.loop-pair.invariant.0 c.in_ok-insert.ensures.added c.if-not-branch.true in
    let twice = repeated is_same_dep c.args.pairs.now c.loop-pair.pair-index c.pair-item.result c.loop-pair-test.true c.pair-item.is some in
    ((λ no. absurd cc), (λ distinct. absurd (twice distinct)))

pub loop-pair-preserved : goal.loop-pair-preserved
loop-pair-preserved c =
    let before = take c.loop-pair.pair-index c.args.pairs.now in
    let none = is_new c.pair-item.result c.loop-pair.seen.keys before c.in_ok-insert.field-0 c.loop-pair.invariant.0 c.in_ok-insert.ensures.added c.if-not-branch.false in
    let last = goes_last _ c.loop-pair.seen.keys c.insert.new.self.keys before c.in_ok-insert.field-0 c.loop-pair.invariant.0 c.in_ok-insert.ensures.added c.if-not-branch.false c.in_ok-insert.ensures.keys in
    let more = take_more c.args.pairs.now c.loop-pair.pair-index c.pair-item.result c.loop-pair-test.true in (
      last ∙ ap (λ (p : Dep). before ++ p ∷ []) c.pair-item.is ∙ sym more,
      distinct_more is_same_dep c.args.pairs.now c.loop-pair.pair-index c.pair-item.result c.loop-pair-test.true c.pair-item.is none c.loop-pair.invariant.1,
    )
