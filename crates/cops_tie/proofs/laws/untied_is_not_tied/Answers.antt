use Rattle.cops_tie.proofs.Deciding.{never_tied}
use Rattle.cops_tie.proofs.laws.untied_is_not_tied.Goals as goal

pub returns : goal.returns
returns c = never_tied c.every_interleaving_is_accepted.ensures.refused
