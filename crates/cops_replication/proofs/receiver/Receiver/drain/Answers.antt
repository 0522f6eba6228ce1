use Rattle.std.proofs.Common.{◌∙◌, ◌+◌, refl, subst, arith}
use Rattle.cops_replication.specs.Doing.{done}
use Rattle.cops_replication.specs.Turns.{IsTurnOf}
use Rattle.cops_replication.specs.declared.turn.Turn.{Turn}
use Rattle.cops_replication.specs.Receiving.{ends}
use Rattle.cops_replication.proofs.Gained.{gains_refl, gains_trans}
use Rattle.cops_replication.proofs.Taken.{each_takes_more, each_takes_none, each_takes_trans}
use Rattle.cops_replication.proofs.receiver.Receiver.drain.Goals as goal

pub loop-init : goal.loop-init
loop-init g c = record { dc = refl; takes = each_takes_none 0 (ends c.args.self.now); share = gains_refl c.args.self.now.share }

pub returns-in_err-turn-clause-links : goal.returns-in_err-turn-clause-links
returns-in_err-turn-clause-links g c =
    each_takes_more (c.loop.counter + 1) c.args.turns (ends c.args.self.now) (ends c.turn.new.self) (omega arith)
    (each_takes_trans c.loop.counter 1 (ends c.args.self.now) (ends c.loop.self) (ends c.turn.new.self) c.loop.invariant.takes c.turn.ensures.links)

pub returns-then-is_clear-clause-links : goal.returns-then-is_clear-clause-links
returns-then-is_clear-clause-links g c =
    each_takes_more (c.loop.counter + 1) c.args.turns (ends c.args.self.now) (ends c.turn.new.self) (omega arith)
    (each_takes_trans c.loop.counter 1 (ends c.args.self.now) (ends c.loop.self) (ends c.turn.new.self) c.loop.invariant.takes c.turn.ensures.links)

pub loop-preserved : goal.loop-preserved
loop-preserved g c = record {
  dc = c.turn.ensures.dc ∙ c.loop.invariant.dc;
  takes = each_takes_trans c.loop.counter 1 (ends c.args.self.now) (ends c.loop.self) (ends c.turn.new.self) c.loop.invariant.takes c.turn.ensures.links;
  share = gains_trans c.args.self.now.share c.loop.self.share c.turn.new.self.share c.loop.invariant.share c.turn.ensures.share;
}

pub returns-then-is_clear-clause-idle : goal.returns-then-is_clear-clause-idle
returns-then-is_clear-clause-idle g c = record {
  between = c.loop.self;
  turned = (
    c.loop.invariant.dc,
    each_takes_more c.loop.counter c.args.turns (ends c.args.self.now) (ends c.loop.self) (omega arith) c.loop.invariant.takes,
    c.loop.invariant.share,
  );
  idle = (
    (c.turn.ensures.dc, c.turn.ensures.links, c.turn.ensures.share),
    subst (λ (t : Turn). IsTurnOf (done c.loop.self c.turn.new.self) t) (c.is_idle.ensures.0 c.if-is_idle.true) c.in_ok-turn.ensures.did,
    c.in_ok-turn.ensures.idle (c.is_idle.ensures.0 c.if-is_idle.true),
  );
  kept = c.is_clear.ensures.0 c.if-is_clear.true;
}
