use Rattle.std.proofs.Common.{subst}
use Rattle.cops_types.specs.Histories.{Sessions}
use Rattle.cops_audit.specs.SoFar.{IsSoFar}
use Rattle.cops_audit_commands.proofs.so_far.cut.Goals as goal

pub returns : goal.returns
returns c = λ t fed.
    let so_far = c.so_far-so_far.result in
    (so_far, subst (λ (h : Sessions). IsSoFar h so_far) (c.into_online-online.ensures t fed) c.so_far-so_far.ensures.so_far, c.answer_so_far.ensures, c.in_ok-text.ensures)
