use Rattle.std.proofs.Common.{List, ℕ, sym, subst}
use Rattle.cops_wire.specs.Feeding.{IsStoppedBy}
use Rattle.cops_wire.specs.Grammar.{grammar}
use Rattle.cops_wire.proofs.Stopping.{stopped_stays}
use Rattle.cops_wire.proofs.feeder.Feeder.feed.Goals as goal

-- The fault that stopped the feeder stays, whatever bytes come.
pub invariant_of-self-2 : goal.invariant_of-self-2
invariant_of-self-2 c =
    let inside = c.self.inside in
    let stays = stopped_stays (grammar inside.format) inside.buffer c.args.piece.now inside.fault c.self.invariant in
    subst (λ (rest : List ℕ). IsStoppedBy (grammar inside.format) rest inside.fault) (sym c.in_ok-feed.ensures.ok) stays
