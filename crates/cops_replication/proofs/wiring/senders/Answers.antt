use Rattle.std.proofs.Common.{◌≡◌, All, List, subst, sym, arith}
use Rattle.std.proofs.lemmas.List.Elements.{All-nil, All-push, All-same}
use Rattle.cops_replication.specs.Making.{rows}
use Rattle.cops_replication.specs.declared.sender.Sender.{Sender}
use Rattle.cops_replication.proofs.Joining.{JoinedBelow, joined_next, joined_none}
use Rattle.cops_replication.proofs.wiring.senders.Goals as goal

pub loop-dc-init : goal.loop-dc-init
loop-dc-init c = record {
  joined = subst (λ (l : List Sender). JoinedBelow 0 c.args.dcs c.args.capacity l (rows c.args.outs.now)) (sym c.new-senders.ensures.items)
      (joined_none c.args.dcs c.args.capacity c.args.outs.now c.requires.length c.requires.none);
  repeat = subst (λ (l : List Sender). All (λ (s : Sender). s.repeat ≡ c.args.repeat) l) (sym c.new-senders.ensures.items) (All-nil (λ (s : Sender). s.repeat ≡ c.args.repeat));
}

pub loop-dc-preserved : goal.loop-dc-preserved
loop-dc-preserved c = record {
  joined = joined_next c.loop-dc.dc c.args.dcs c.args.capacity c.loop-dc.senders.items c.push.new.self.items c.in_ok-new.field-0 c.in_ok-links.links.items c.loop-dc.outs c.links_from.new.outs
      (omega arith) c.loop-dc.invariant.joined c.in_ok-new.ensures.dc c.in_ok-new.ensures.unread c.in_ok-new.ensures.links c.in_ok-links.ensures.length c.in_ok-links.ensures.fresh c.in_ok-links.ensures.gains
      c.links_from.auto.outs c.in_ok-push.ensures.items;
  repeat = All-same (λ (s : Sender). s.repeat ≡ c.args.repeat) _ _ c.in_ok-push.ensures.items
      (All-push (λ (s : Sender). s.repeat ≡ c.args.repeat) _ _ c.loop-dc.invariant.repeat c.in_ok-new.ensures.repeat);
}
