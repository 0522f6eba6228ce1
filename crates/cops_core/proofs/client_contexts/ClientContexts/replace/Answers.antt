use Rattle.std.proofs.Common.{◌∷◌, []}
use Rattle.cops_core.proofs.Pairs.{other_pairs}
use Rattle.cops_core.proofs.client_contexts.ClientContexts.replace.Goals as goal

pub returns : goal.returns
returns c = rw (← c.self.view_is) (other_pairs c.self.inside.contexts.items c.args.client c.replace.new.self (c.args.put ∷ []) c.replace.ensures.pairs)
