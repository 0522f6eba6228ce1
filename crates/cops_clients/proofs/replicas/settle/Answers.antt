use Rattle.std.proofs.Common.{◌∙◌, ◌+◌, ◌-◌, ap, refl, subst, sym, arith}
use Rattle.cops_replication.specs.Receiving.{EachTakesUpTo, ends}
use Rattle.cops_replication.proofs.Taken.{each_takes_more, each_takes_none, each_takes_trans}
use Rattle.cops_replication.specs.declared.receiver.Receiver.{Receiver}
use Rattle.cops_clients.proofs.replicas.settle.Goals.{then-n-from, else-n-from+in_default}
use Rattle.cops_clients.proofs.replicas.settle.Goals as goal

pub loop-n-init : goal.loop-n-init
loop-n-init g c = record { share = refl; late = each_takes_none (0 - c.args.state.now.hold) (ends c.args.receiver.now) }

pub returns-then-is_broken-clause-late : goal.returns-then-is_broken-clause-late
returns-then-is_broken-clause-late g c =
    each_takes_more (c.loop-n.n - c.args.state.now.hold) (c.args.state.now.turns - c.args.state.now.hold) (ends c.args.receiver.now) (ends c.loop-n.receiver) (omega arith) c.loop-n.invariant.late

pub returns-in-Some-clause-late : goal.returns-in-Some-clause-late
returns-in-Some-clause-late g c =
    each_takes_more (c.loop-n.n - c.args.state.now.hold + 1) (c.args.state.now.turns - c.args.state.now.hold) (ends c.args.receiver.now) (ends c.counted.new.receiver) (omega arith)
    (each_takes_trans (c.loop-n.n - c.args.state.now.hold) 1 (ends c.args.receiver.now) (ends c.loop-n.receiver) (ends c.counted.new.receiver) c.loop-n.invariant.late c.counted.ensures.links)

pub loop-n-preserved : goal.loop-n-preserved
loop-n-preserved g c = elim c.if-n-from.branch [
  | then-n-from w ↦ record {
    share = ap (λ (r : Receiver). r.share.holder) w.receiver-is ∙ c.loop-n.invariant.share;
    late = subst (λ (r : Receiver). EachTakesUpTo (c.loop-n.n + 1 - c.args.state.now.hold) (ends c.args.receiver.now) (ends r)) (sym w.receiver-is)
        (each_takes_more (c.loop-n.n - c.args.state.now.hold) (c.loop-n.n + 1 - c.args.state.now.hold) (ends c.args.receiver.now) (ends c.loop-n.receiver) (omega arith) c.loop-n.invariant.late);
  }
  | else-n-from+in_default w ↦ record {
    share = ap (λ (r : Receiver). r.share.holder) w.receiver-is ∙ w.counted.ensures.share ∙ c.loop-n.invariant.share;
    late = subst (λ (r : Receiver). EachTakesUpTo (c.loop-n.n + 1 - c.args.state.now.hold) (ends c.args.receiver.now) (ends r)) (sym w.receiver-is)
        (each_takes_more (c.loop-n.n - c.args.state.now.hold + 1) (c.loop-n.n + 1 - c.args.state.now.hold) (ends c.args.receiver.now) (ends w.counted.new.receiver) (omega (arith, w.if-n-from.false))
        (each_takes_trans (c.loop-n.n - c.args.state.now.hold) 1 (ends c.args.receiver.now) (ends c.loop-n.receiver) (ends w.counted.new.receiver) c.loop-n.invariant.late w.counted.ensures.links));
  }
]
