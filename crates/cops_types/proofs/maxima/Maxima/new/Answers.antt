use Rattle.std.proofs.Common.{refl}
use Rattle.cops_types.proofs.Climbing.{no_maxima}
use Rattle.cops_types.proofs.maxima.Maxima.new.Goals as goal

pub returns : goal.returns
returns c = no_maxima c.args.clients _ (c.in_ok-sessions.ensures.items_if_clones_equal (λ y e. e)) (c.in_ok-rise.ensures.items_if_clones_equal (λ y e. e)) refl
