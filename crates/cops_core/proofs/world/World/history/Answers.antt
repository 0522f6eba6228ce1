use Rattle.std.proofs.Common.{sym, subst}
use Rattle.cops_types.specs.Verdicts.{HasAcceptedVerdict}
use Rattle.cops_types.specs.Format.{AreInFormat}
use Rattle.cops_core.specs.World.{World}
use Rattle.cops_core.proofs.Worlds.{reached_accepted, reached_in_format, reached_invariants}
use Rattle.cops_core.proofs.world.World.history.Goals as goal

pub returns-clause-accepted : goal.returns-clause-accepted
returns-clause-accepted c =
    let i = c.self.inside in
    subst (λ (w : World). HasAcceptedVerdict w.sessions) (sym c.state.view_is) (reached_accepted i.setting c.self.invariant.setting i.state c.self.invariant.reached)

pub returns-clause-in_format : goal.returns-clause-in_format
returns-clause-in_format c =
    let i = c.self.inside in
    rw (← c.self.view_is)
    (subst (λ (w : World). AreInFormat i.setting.format w.sessions) (sym c.state.view_is) (reached_in_format i.setting c.self.invariant.setting i.state c.self.invariant.reached))

pub returns-clause-invariants : goal.returns-clause-invariants
returns-clause-invariants c =
    let i = c.self.inside in
    rw (← c.self.view_is) (reached_invariants i.setting c.self.invariant.setting i.state c.self.invariant.reached)
