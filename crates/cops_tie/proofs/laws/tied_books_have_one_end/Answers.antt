use Rattle.cops_tie.proofs.Deciding.{ends_once}
use Rattle.cops_tie.proofs.laws.tied_books_have_one_end.Goals as goal

pub returns : goal.returns
returns c = ends_once c.every_interleaving_is_accepted.ensures.refused
