use Rattle.cops_explain.proofs.others.is_other.Goals as goal

pub returns-in-None : goal.returns-in-None
returns-in-None c = (λ e. absurd cc, λ other. absurd (c.in-None.ensures.none _ other.0))
