use Rattle.std.proofs.Common.{◌+◌, List, subst, sym, arith}
use Rattle.cops_link.specs.declared.ends.LinkIn.{LinkIn}
use Rattle.cops_replication.specs.Making.{rows}
use Rattle.std.proofs.Common.{slice_set}
use Rattle.cops_replication.proofs.Joining.{MadeBelow, made_one}
use Rattle.cops_replication.proofs.wiring.links_from.Goals as goal

pub loop-to-preserved : goal.loop-to-preserved
loop-to-preserved c =
    subst (λ (l : List LinkIn). MadeBelow (c.loop-to.to + 1) c.args.from c.args.capacity l (rows c.args.outs.now) (rows (slice_set c.loop-to.outs c.loop-to.to c.push-in-loop-to.new.self)))
    (sym c.in_ok-push.ensures.items)
    (made_one c.loop-to.to c.args.from c.args.capacity c.loop-to.ins.items c.in_ok-sends.sends c.in_ok-sends.takes (rows c.args.outs.now) c.loop-to.outs c.index-outs-to.result c.push-in-loop-to.new.self
    (omega arith) (λ e. absurd (omega (arith, e, c.if-to-from.false, c.from.ensures))) c.loop-to.invariant c.in_ok-push-2.ensures.items c.in_ok-sends.ensures)
