use Rattle.std.proofs.Common.{◌≡◌, refl, subst, true}
use Rattle.cops_types.specs.VersionOrder.{IsDoubled}
use Rattle.cops_audit.proofs.Collect.{collect_push, collect_skip}
use Rattle.cops_audit.proofs.table.doubled.Goals as goal

pub loop-name-preserved : goal.loop-name-preserved
loop-name-preserved c =
    let h = c.args.history.now.sessions in
    collect_skip (λ n. n) (IsDoubled h) c.loop-name.invariant c.in-Some.ensures.steps (λ x f e. let is : c.is_doubled.result ≡ true = c.is_doubled.ensures.1 (subst (IsDoubled h) e f) in cc)

pub loop-name-preserved-in-Continue-branch-2 : goal.loop-name-preserved-in-Continue-branch-2
loop-name-preserved-in-Continue-branch-2 c =
    collect_push (λ n. n) (IsDoubled c.args.history.now.sessions) c.in-Some.name c.requires.in_order c.loop-name.invariant c.in-Some.ensures.steps c.in_ok-push.ensures.items refl
    (c.is_doubled.ensures.0 c.if-is_doubled.true) (λ x f e. e)
