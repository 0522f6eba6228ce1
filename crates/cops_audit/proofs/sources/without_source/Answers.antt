use Rattle.std.proofs.Common.{◌≡◌, refl, subst, true}
use Rattle.cops_types.specs.Faults.{HasNoSource}
use Rattle.cops_audit.proofs.Collect.{collect_push, collect_skip}
use Rattle.cops_audit.proofs.sources.without_source.Goals as goal

pub loop-name-preserved : goal.loop-name-preserved
loop-name-preserved c =
    let h = c.args.history.now.sessions in
    collect_skip (λ n. n) (HasNoSource h) c.loop-name.invariant c.in-Some.ensures.steps (λ x f e. let is : c.is_sourceless.result ≡ true = c.is_sourceless.ensures.1 (subst (HasNoSource h) e f) in cc)

pub loop-name-preserved-in-Continue-1 : goal.loop-name-preserved-in-Continue-1
loop-name-preserved-in-Continue-1 c =
    collect_push (λ n. n) (HasNoSource c.args.history.now.sessions) c.in-Some.name c.requires.in_order c.loop-name.invariant c.in-Some.ensures.steps c.in_ok-push.ensures.items refl
    (c.is_sourceless.ensures.0 c.if-is_sourceless.true) (λ x f e. e)
