use Rattle.std.proofs.Common.{◌≡◌, ◌∙◌, List, [], ℕ, Option, ap, arith, refl, sym, subst}
use Rattle.std.specs.Prelude.{IfSome, IfNone}
use Rattle.cops_types.specs.Histories.{Sessions}
use Rattle.cops_types.specs.declared.op.OpName.{OpName}
use Rattle.cops_types.specs.Faults.{IsNotAbove, IsNotBelow}
use Rattle.cops_audit.specs.Climbs.{AreMaxima}
use Rattle.cops_audit.specs.declared.verdict.NotAbove.{NotAbove}
use Rattle.cops_audit.proofs.Acyclic.{same_name}
use Rattle.cops_audit.proofs.Collect.{collected_all, collect_push, collect_skip}
use Rattle.cops_audit.proofs.climbing.not_above.Goals as goal
use Rattle.cops_audit.proofs.climbing.not_above.Goals.{then-name-client, else-name-client}

same_fault : (a b : NotAbove) → a.op ≡ b.op → a.earlier ≡ b.earlier → a ≡ b
same_fault a b e f = ap (λ (p : OpName × OpName). let n : NotAbove = record { op = p.0; earlier = p.1 } in n) (let q : (a.op, a.earlier) ≡ (b.op, b.earlier) = cc in q)

-- there is one first such operation
one_first : (h : Sessions) (n a b : OpName) → IsNotAbove h n a → IsNotAbove h n b → a ≡ b
one_first h n a b f g = same_name a b (f.is_not_below.same_client ∙ sym g.is_not_below.same_client)
    (omega (arith, f.first b g.is_not_below, g.first a f.is_not_below))

one_fault : (h : Sessions) (a b : NotAbove) → IsNotAbove h a.op a.earlier → IsNotAbove h b.op b.earlier → a.op ≡ b.op → a ≡ b
one_fault h a b f g e = same_fault a b e (one_first h b.op a.earlier b.earlier (subst (λ n. IsNotAbove h n a.earlier) e f) g)

-- a session of which no maximum is known yet
none_yet : (h : Sessions) (client : ℕ) (maxima : List ℕ) → maxima ≡ [] → AreMaxima h client maxima
none_yet h client maxima e = subst (AreMaxima h client) (sym e) (λ i maximum at. absurd cc)

pub earlier_not_below-requires : goal.earlier_not_below-requires
earlier_not_below-requires c =
    let h = c.args.history.now.sessions in
    elim c.if-name-client.branch [
      | then-name-client w ↦ rw w.maxima-is (none_yet h _ _ w.clear.ensures.items)
      | else-name-client w ↦ rw w.maxima-is
          (let e : c.loop-name.client ≡ c.in-Some.name.client = omega (arith, w.if-name-client.false) in
          subst (λ (k : ℕ). AreMaxima h k c.loop-name.maxima.items) e c.loop-name.invariant.maxima)
    ]

pub loop-name-preserved : goal.loop-name-preserved
loop-name-preserved c =
    let h = c.args.history.now.sessions in
    record {
      faults = collect_skip (λ (f : NotAbove). f.op) (λ f. IsNotAbove h f.op f.earlier) c.loop-name.invariant.faults c.in-Some.ensures.steps
          (λ x f e. subst (λ (o : Option OpName). IfNone o ((e : OpName) → ¬ IsNotBelow h e c.in-Some.name)) c.in_default.is c.in_ok-found.ensures.none x.earlier (subst (λ m. IsNotBelow h x.earlier m) e f.is_not_below));
      maxima = c.in_ok-found.ensures.maxima;
    }

pub loop-name-preserved-in-Continue-branch-2 : goal.loop-name-preserved-in-Continue-branch-2
loop-name-preserved-in-Continue-branch-2 c =
    let h = c.args.history.now.sessions in
    let first = subst (λ (o : Option OpName). IfSome o (λ e. IsNotAbove h c.in-Some.name e)) c.in-Some-found.is c.in_ok-found.ensures.first in
    record {
      faults = collect_push (λ (f : NotAbove). f.op) (λ f. IsNotAbove h f.op f.earlier) (record { op = c.in-Some.name; earlier = c.in-Some-found.earlier }) c.requires c.loop-name.invariant.faults
          c.in-Some.ensures.steps c.in_ok-push.ensures.items refl first (λ x f e. one_fault h x _ f first e);
      maxima = c.in_ok-found.ensures.maxima;
    }

pub returns : goal.returns
returns c = collected_all (λ (f : NotAbove). f.op) (λ f. IsNotAbove c.args.history.now.sessions f.op f.earlier) c.loop-name.invariant.faults c.in-None.ensures.steps.0
