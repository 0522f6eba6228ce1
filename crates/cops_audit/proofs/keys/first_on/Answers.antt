use Rattle.std.proofs.Common.{None, subst}
use Rattle.std.proofs.lemmas.List.{get_or_past}
use Rattle.cops_audit.specs.Keys.{IsFirstFrom}
use Rattle.cops_audit.proofs.keys.first_on.Goals as goal

pub returns-in-None : goal.returns-in-None
returns-in-None c = λ table key knows on.
    let number = c.number_of.result in
    subst (IsFirstFrom c.args.history.now.sessions table 0 key) (get_or_past c.args.firsts.now number None c.in-None.ensures.lookup.3) (knows number key (c.number_of.ensures.key key on))
