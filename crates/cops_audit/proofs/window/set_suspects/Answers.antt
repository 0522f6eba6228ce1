use Rattle.std.proofs.Common.{arith}
use Rattle.cops_audit.proofs.Gathering.{gather_push, gather_skip}
use Rattle.cops_audit.proofs.window.set_suspects.Goals as goal

pub loop-name-preserved : goal.loop-name-preserved
loop-name-preserved c = record {
  suspects = gather_skip c.loop-name.invariant.suspects c.in-Some.ensures.steps c.in_default.ensures.none;
  capacity = c.loop-name.invariant.capacity;
}

pub loop-name-preserved-in-Continue-1 : goal.loop-name-preserved-in-Continue-1
loop-name-preserved-in-Continue-1 c = record {
  suspects = gather_push c.in-Some-find_suspect.found c.requires.in_order c.loop-name.invariant.suspects c.in-Some.ensures.steps c.in_ok-push.ensures.items c.in-Some-find_suspect.ensures.suspect.0 c.in-Some-find_suspect.ensures.suspect.1;
  capacity = omega (arith, c.in_ok-push.ensures.capacity, c.loop-name.invariant.capacity);
}
