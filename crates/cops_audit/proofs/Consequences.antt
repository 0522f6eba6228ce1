-- What a verdict says about convergence.
use Rattle.std.proofs.Common.{◌↔◌, List}
use Rattle.cops_types.specs.declared.op.OpName.{OpName}
use Rattle.cops_types.specs.Histories.{Sessions}
use Rattle.cops_types.specs.Convergence.{IsCausallyConvergent}
use Rattle.cops_types.specs.Faults.{HasNoSource, IsNotAbove, IsStale}
use Rattle.cops_types.specs.VersionOrder.{IsDoubled}
use Rattle.cops_types.specs.Verdicts.{IsAccepted}
use Rattle.cops_audit.specs.declared.verdict.NotAbove.{NotAbove}
use Rattle.cops_audit.specs.declared.verdict.Stale.{Stale}
use Rattle.cops_audit.specs.declared.verdict.Faults.{Faults}
use Rattle.cops_audit.specs.declared.verdict.Verdict.{Verdict}
use Rattle.cops_audit.specs.declared.verdict.Verdict.TheVariants.{Accepted, Refused}
use Rattle.cops_audit.specs.declared.verdict.Faults.TheVariants as class
use Rattle.cops_audit.specs.Verdicts.{Accepts, ConvergesByVersions, IsVerdict}
use Rattle.cops_audit.proofs.Exact.{converges, accepted_where}
use Rattle.cops_audit.proofs.Unique.{some_fault}

pub convergent : (h : Sessions) (v : Verdict) → IsVerdict h v → Accepts v → IsCausallyConvergent h
convergent h (Accepted puts) is accepts = (puts.items, converges h puts.items is)
convergent h (Refused faults) is accepts = absurd accepts

-- a history that has faults is not accepted with any list of puts
not_accepted : (h : Sessions) (f : Faults) (puts : List OpName) → IsVerdict h (Refused f) → ¬ IsAccepted h puts
not_accepted h (class.Doubled a) puts p q = let x = some_fault {A = OpName} (λ n. n) (IsDoubled h) a.items p.0 p.1 in q.doubled x.0 x.1
not_accepted h (class.NoSource a) puts p q = let x = some_fault {A = OpName} (λ n. n) (HasNoSource h) a.items p.1 p.2 in q.sources x.0 x.1
not_accepted h (class.NotAbove a) puts p q = let x = some_fault {A = NotAbove} (λ f. f.op) (λ f. IsNotAbove h f.op f.earlier) a.items p.2 p.3 in q.above x.0.op x.0.earlier x.1
not_accepted h (class.Stale a) puts p q = let x = some_fault {A = Stale} (λ f. f.op) (λ f. IsStale h f.op f.newer) a.items p.3 p.4 in q.stale x.0.op x.0.newer x.1

pub exactly : (h : Sessions) (v : Verdict) → IsVerdict h v → Accepts v ↔ ConvergesByVersions h
exactly h (Accepted puts) is = (λ _. (is.doubled, (puts.items, is.version_order, converges h puts.items is)), λ _. tt)
exactly h (Refused faults) is = (λ accepts. absurd accepts, λ w. not_accepted h faults w.1.0 is (accepted_where h w.1.0 w.0 w.1.1 w.1.2))
