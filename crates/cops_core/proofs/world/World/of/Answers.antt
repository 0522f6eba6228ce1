use Rattle.std.proofs.Common.{subst}
use Rattle.cops_core.specs.World.{Setting, IsSetting}
use Rattle.cops_core.proofs.Running.{reached_opening}
use Rattle.cops_core.proofs.world.World.of.Goals as goal

pub invariant_of-result : goal.invariant_of-result
invariant_of-result c = record {
  setting = subst (λ (s : Setting). IsSetting s) c.setting.view_is c.setting.invariant;
  reached = reached_opening c.args.setting c.in_ok-state.state c.in_ok-state.ensures;
}
