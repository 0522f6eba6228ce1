use Rattle.std.proofs.Common.{◌≡◌, ◌∷◌, [], ◌++◌, length-append, true, refl, subst, arith}
use Rattle.cops_audit.specs.Summaries.{IsSourceless}
use Rattle.cops_audit.proofs.Collect.{collect_push, collect_skip}
use Rattle.cops_audit.proofs.summaries.count_sourceless.Goals as goal

pub loop-name-preserved : goal.loop-name-preserved
loop-name-preserved c =
    let w = c.loop-name.invariant.lists in
    let sourceless = IsSourceless c.args.summaries.now in
    record {
      lists = (w.0, collect_skip (λ n. n) sourceless w.1 c.in-Some.ensures.steps (λ x f e. let is : c.is_sourceless.result ≡ true = c.is_sourceless.ensures.1 (subst sourceless e f) in cc), w.2);
      few = omega (arith, c.loop-name.invariant.few, length-append c.loop-name.yielded (c.in-Some.name ∷ []));
    }

pub loop-name-preserved-then-is_sourceless : goal.loop-name-preserved-then-is_sourceless
loop-name-preserved-then-is_sourceless c =
    let w = c.loop-name.invariant.lists in
    record {
      lists = (
        w.0 ++ c.in-Some.name ∷ [],
        collect_push (λ n. n) (IsSourceless c.args.summaries.now) c.in-Some.name c.requires.in_order w.1 c.in-Some.ensures.steps refl refl (c.is_sourceless.ensures.0 c.if-is_sourceless.true) (λ x f e. e),
        omega (arith, length-append w.0 (c.in-Some.name ∷ []), w.2),
      );
      few = omega (arith, c.loop-name.invariant.few, length-append c.loop-name.yielded (c.in-Some.name ∷ []));
    }
