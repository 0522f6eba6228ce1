use Rattle.std.proofs.Common.{◌≡◌, ◌<◌, IfSome, IsSome, None, Option, ap, refl, rules, slice_index, slice_set, subst, ◌∙◌, arith}
use Rattle.cops_cluster.specs.Cluster.{IsNode, IsPutsFrom}
use Rattle.cops_node.specs.declared.recorded.IssuedPuts.{IssuedPuts}
use Rattle.cops_replication.specs.Lanes.{frames, repeated}
use Rattle.cops_replication.specs.Sending.{lanes}
use Rattle.cops_replication.specs.declared.sender.Sender.{Sender}
use Rattle.cops_replication.proofs.Carrying.{below_end, below_last, below_one, below_refl}
use Rattle.cops_replication.proofs.Counting.{frames_due}
use Rattle.cops_replication.proofs.sender.Sender.read.Goals as goal

pub loop-place-init : goal.loop-place-init
loop-place-init g c = record { below = below_refl c.args.cluster.now c.args.self.now; sent = refl }

pub loop-place-preserved : goal.loop-place-preserved
loop-place-preserved g c =
    let before = c.loop-place.self in
    let after : Sender = record { dc = before.dc; repeat = before.repeat; read = slice_set before.read c.loop-place.place c.in-Some.more.entries; outbox = c.add.new.self } in
    let found : IsPutsFrom (slice_index before.read c.loop-place.place) c.in-Some.more =
    subst (λ (o : Option IssuedPuts). IfSome o (IsPutsFrom (slice_index before.read c.loop-place.place))) c.in-Some.is c.in_ok-more.ensures.puts in
    let there : IsSome c.in_ok-more.field-0 = search rules in
    let node : IsNode c.args.cluster.now before.dc c.loop-place.place = c.in_ok-more.ensures.node.0 there in
    let within : c.loop-place.place < 64 = omega arith in
    record {
      below = below_one c.args.cluster.now c.args.self.now before after c.loop-place.place c.in-Some.more.entries c.in-Some.more.puts.items found.0 c.loop-place.invariant.below refl refl (node, within) found.2 refl found.1 c.in_ok-add.ensures.ok;
      sent = ap frames c.in_ok-add.ensures.ok ∙ frames_due (repeated before.repeat c.in-Some.more.puts.items) (lanes before) ∙ c.loop-place.invariant.sent;
    }

none_there : (o : Option IssuedPuts) → o ≡ None → IsSome o → ⊥
none_there o is some = let none : IsSome (let n : Option IssuedPuts = None in n) = subst (λ (p : Option IssuedPuts). IsSome p) is some in search rules

pub returns-in_default-clause-all : goal.returns-in_default-clause-all
returns-in_default-clause-all g c =
    below_last c.loop-place.place c.args.cluster.now c.args.self.now c.loop-place.self c.loop-place.invariant.below
    (λ node. none_there c.in_ok-more.field-0 c.in_default.is (c.in_ok-more.ensures.node.1 node))

pub returns-clause-all : goal.returns-clause-all
returns-clause-all g c = below_end c.loop-place.place c.args.cluster.now c.args.self.now c.loop-place.self c.loop-place.invariant.below (omega arith)
