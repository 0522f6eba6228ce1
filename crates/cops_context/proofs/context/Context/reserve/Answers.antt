use Rattle.std.proofs.Common.{sym, ap, ◌∙◌, subst, Option}
use Rattle.cops_types.specs.declared.dep.Dep.{Dep}
use Rattle.cops_types.specs.Format.{most_deps}
use Rattle.cops_context.specs.Kept.{IsContext, and_beside}
use Rattle.cops_context.proofs.PairLists.{new_last}
use Rattle.cops_context.proofs.context.Context.reserve.Goals as goal

pub returns-in-Ok-clause-same : goal.returns-in-Ok-clause-same
returns-in-Ok-clause-same c =
    let keys = c.self.inside.pairs.keys in
    let h = subst (λ (b : Option Dep). IsContext (most_deps c.self.inside.format) (and_beside keys b)) (sym c.in-Some.ensures.value) c.self.invariant in
    ap (and_beside c.insert.new.self.keys) c.take.ensures.after ∙ c.in-Ok.ensures.keys ∙ new_last (most_deps c.self.inside.format) keys c.in-Some.pair h
    ∙ ap (and_beside keys) c.in-Some.ensures.value ∙ ap (λ v. v.pairs) c.self.view_is
