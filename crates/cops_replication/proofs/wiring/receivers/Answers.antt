use Rattle.std.proofs.Common.{◌≡◌, ap, arith, length, List, ◌∙◌}
use Rattle.std.proofs.lemmas.List.{length-map}
use Rattle.cops_link.specs.declared.ends.LinkOut.{LinkOut}
use Rattle.std.specs.Global.{Vec}
use Rattle.cops_replication.specs.Receiving.{ends}
use Rattle.cops_replication.specs.Making.{rows}
use Rattle.cops_replication.specs.declared.receiver.Receiver.{Receiver}
use Rattle.cops_replication.proofs.Joining.{made_so_many, none_left, one_more, paired_all, receiver_more}
use Rattle.cops_replication.proofs.wiring.receivers.Goals.{else-loop-dc-test, then-loop-dc-test+in_default, then-loop-dc-test+in-Some+in_default-next}
use Rattle.cops_replication.proofs.wiring.receivers.Goals as goal

pub loop-dc-preserved : goal.loop-dc-preserved
loop-dc-preserved c = record {
  dcs = receiver_more c.loop-dc.dc c.loop-dc.receivers.items c.push.new.self.items c.new.result c.loop-dc.invariant.dcs c.new.ensures.dc c.in_ok-push.ensures.items;
  links = one_more ends c.loop-dc.receivers.items c.push.new.self.items c.new.result c.in-Some.links.items (rows c.loop-dc.outs.rest.items) (rows c.args.outs.items) (rows c.next.new.self.rest.items)
      c.loop-dc.invariant.links (ap rows c.in-Some.ensures.items) c.new.ensures.links c.in_ok-push.ensures.items;
  shares = one_more (λ (r : Receiver). r.share) c.loop-dc.receivers.items c.push.new.self.items c.new.result c.in-Some-next.share c.loop-dc.shares.rest.items c.args.shares.items c.next-in-loop-dc.new.self.rest.items
      c.loop-dc.invariant.shares c.in-Some-next.ensures.items c.new.ensures.share c.in_ok-push.ensures.items;
}

pub returns : goal.returns
returns c = λ enough.
    let items : Vec LinkOut → List LinkOut = λ v. v.items in
    let made : length c.loop-dc.receivers.items ≡ c.loop-dc.dc = made_so_many c.loop-dc.dc c.loop-dc.receivers.items c.loop-dc.invariant.dcs in
    let all : c.loop-dc.dc ≡ c.args.dcs =
    elim c.loop-dc-test.branch [
      | else-loop-dc-test w ↦ omega arith
      | then-loop-dc-test+in_default w ↦
          let left : length (rows c.loop-dc.outs.rest.items) ≡ 0 = length-map c.loop-dc.outs.rest.items items ∙ omega (arith, c.loop-dc.outs.rest.ok.0, w.in_default.ensures.cases) in
          let few = none_left ends c.loop-dc.receivers.items (rows c.loop-dc.outs.rest.items) (rows c.args.outs.items) c.loop-dc.invariant.links left in
          absurd (omega (arith, few, made, length-map c.args.outs.items items, c.requires, w.loop-dc-test.true))
      | then-loop-dc-test+in-Some+in_default-next w ↦
          let left : length c.loop-dc.shares.rest.items ≡ 0 = omega (arith, c.loop-dc.shares.rest.ok.0, w.in_default-next.ensures.cases) in
          let few = none_left (λ (r : Receiver). r.share) c.loop-dc.receivers.items c.loop-dc.shares.rest.items c.args.shares.items c.loop-dc.invariant.shares left in
          absurd (omega (arith, few, made, enough, w.loop-dc-test.true))
    ] in
    paired_all c.loop-dc.dc c.args.dcs c.args.outs.items c.loop-dc.outs.rest.items c.args.shares.items c.loop-dc.shares.rest.items c.loop-dc.receivers.items all c.requires enough
    c.loop-dc.invariant.dcs c.loop-dc.invariant.links c.loop-dc.invariant.shares
