use Rattle.std.proofs.Common.{◌-◌, arith, subst}
use Rattle.cops_replication.specs.Lanes.{frames}
use Rattle.cops_replication.specs.Sending.{lanes}
use Rattle.cops_replication.specs.Turns.{IsTurnOf}
use Rattle.cops_replication.specs.declared.turn.Turn.{Turn}
use Rattle.cops_replication.proofs.Carrying.{below_at_last, carries_refl, carries_trans}
use Rattle.cops_replication.proofs.sender.Sender.drain.Goals as goal

pub loop-init : goal.loop-init
loop-init g c = carries_refl c.args.cluster.now c.args.self.now

pub returns-in_err-turn-clause-carries : goal.returns-in_err-turn-clause-carries
returns-in_err-turn-clause-carries g c = carries_trans c.args.cluster.now c.args.self.now c.loop.self c.turn.new.self c.loop.invariant c.turn.ensures.carries

pub returns-then-is_clear-clause-carries : goal.returns-then-is_clear-clause-carries
returns-then-is_clear-clause-carries g c = carries_trans c.args.cluster.now c.args.self.now c.loop.self c.turn.new.self c.loop.invariant c.turn.ensures.carries

pub loop-preserved : goal.loop-preserved
loop-preserved g c = carries_trans c.args.cluster.now c.args.self.now c.loop.self c.turn.new.self c.loop.invariant c.turn.ensures.carries

pub returns-then-is_clear-clause-all : goal.returns-then-is_clear-clause-all
returns-then-is_clear-clause-all g c = below_at_last 64 c.args.cluster.now c.args.self.now c.loop.self c.turn.new.self c.loop.invariant (c.in_ok-turn.ensures.all)

pub returns-then-is_clear-clause-idle : goal.returns-then-is_clear-clause-idle
returns-then-is_clear-clause-idle g c =
    let nothing = subst (λ (t : Turn). IsTurnOf (frames (lanes c.turn.new.self) - frames (lanes c.loop.self)) t) (c.is_idle.ensures.0 c.if-is_idle.true) c.in_ok-turn.ensures.did in
    record {
      between = c.loop.self;
      turned = c.loop.invariant;
      read = c.in_ok-turn.ensures.all;
      none = omega (arith, nothing);
      all = c.is_clear.ensures.0 c.if-is_clear.true;
    }
