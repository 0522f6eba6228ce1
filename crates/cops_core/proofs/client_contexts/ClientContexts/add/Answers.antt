use Rattle.std.proofs.Common.{◌≡◌, ◌<◌, length, arith, ap, sym, subst, OnOk, ◌∙◌}
use Rattle.std.proofs.lemmas.List.{length-map}
use Rattle.cops_context.specs.Context.{with_pair}
use Rattle.cops_core.proofs.Pairs.{pairs, other_pairs, pairs_at}
use Rattle.cops_core.proofs.client_contexts.ClientContexts.add.Goals as goal

pub returns : goal.returns
returns c =
    let known = rw (← c.self.view_is) at c.requires.known in
    let inside : c.args.client < length c.self.inside.contexts.items = omega (arith, known, length-map c.self.inside.contexts.items pairs) in
    let ok : c.add.new.self.pairs ≡ with_pair c.index_mut-context.result.now.pairs c.args.pair = subst (λ r. OnOk r (c.add.new.self.pairs ≡ with_pair c.index_mut-context.result.now.pairs c.args.pair)) c.unwrap.ensures c.add.ensures.ok in
    let at = pairs_at c.self.inside.contexts.items c.args.client c.index_mut-context.result.now inside c.index_mut-context.ensures.value in
    rw (← c.self.view_is) (other_pairs c.self.inside.contexts.items c.args.client c.add.new.self _ (ok ∙ ap (λ ps. with_pair ps c.args.pair) (sym at)))
