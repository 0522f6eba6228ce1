use Rattle.std.proofs.Common.{◌∙◌, sym}
use Rattle.std.proofs.lemmas.Bool.{eqb-true}
use Rattle.cops_audit.proofs.Classes.{in_order_suspects, no_stale, of_suspects, seen_suspects}
use Rattle.cops_audit.proofs.stale.stale_among.Goals as goal

pub stale_suspects-requires-clause-suspects : goal.stale_suspects-requires-clause-suspects
stale_suspects-requires-clause-suspects c = in_order_suspects (seen_suspects c.as_slice-suspects.ensures.value c.in_ok-set_suspects.ensures.suspects)

pub returns-then-is_empty : goal.returns-then-is_empty
returns-then-is_empty c = no_stale (seen_suspects c.as_slice-suspects.ensures.value c.in_ok-set_suspects.ensures.suspects) (eqb-true _ 0 (sym c.is_empty.ensures ∙ c.if-is_empty.true)) c.new.ensures.items

pub returns : goal.returns
returns c = of_suspects (seen_suspects c.as_slice-suspects.ensures.value c.in_ok-set_suspects.ensures.suspects) c.in_ok-faults.ensures
