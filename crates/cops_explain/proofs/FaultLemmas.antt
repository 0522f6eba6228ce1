-- The faults of a verdict are the history's.
use Rattle.std.proofs.Common.{◌≡◌, ℕ, zero, suc, List, [], ◌∷◌, map, Some, refl, subst, arith, slice_get}
use Rattle.std.specs.Prelude.{Contains}
use Rattle.cops_types.specs.Histories.{Sessions}
use Rattle.cops_audit.specs.Verdicts.{IsVerdict}
use Rattle.cops_audit.specs.declared.verdict.Faults.{Faults}
use Rattle.cops_audit.specs.declared.verdict.Faults.TheVariants as class
use Rattle.cops_audit.specs.declared.verdict.Verdict.TheVariants.{Refused}
use Rattle.cops_audit.specs.declared.fault.Fault.{Fault}
use Rattle.cops_audit.specs.declared.fault.Fault.TheVariants.{Doubled, NoSource, NotAbove, Stale}
use Rattle.cops_audit.specs.Faults.{fault_of_number, faults_of, IsFault}

-- where P holds of `make x` for each x of a list, it holds of each element of the mapped list
made : {A : Type 0} (make : A → Fault) (P : Fault → Type 0) (xs : List A) → ((x : A) → Contains xs x → P (make x)) → (i : ℕ) (f : Fault) → slice_get (map make xs) i ≡ Some f → P f
made make P [] all i f at = absurd cc
made make P (x ∷ xs) all zero f at = subst P (let e : make x ≡ f = cc in e) (all x (0, omega arith, refl))
made make P (x ∷ xs) all (suc i) f at = made make P xs (λ y there. all y (suc there.0, omega (arith, there.1), there.2)) i f at

pub verdict_fault : (h : Sessions) (faults : Faults) → IsVerdict h (Refused faults) → (i : ℕ) (f : Fault) → slice_get (faults_of faults) i ≡ Some f → IsFault h f
verdict_fault h (class.Doubled names) v = made (λ n. Doubled n) (IsFault h) names.items (λ n there. (v.1.members n).0 there)
verdict_fault h (class.NoSource names) v = made (λ n. NoSource n) (IsFault h) names.items (λ n there. (v.2.members n).0 there)
verdict_fault h (class.NotAbove faults) v = made (λ f. NotAbove f) (IsFault h) faults.items (λ f there. (v.3.members f).0 there)
verdict_fault h (class.Stale faults) v = made (λ f. Stale f) (IsFault h) faults.items (λ f there. (v.4.members f).0 there)

pub number_fault : (h : Sessions) (faults : Faults) → IsVerdict h (Refused faults) → (number : ℕ) (f : Fault) → fault_of_number (faults_of faults) number ≡ Some f → IsFault h f
number_fault h faults v zero f at = absurd cc
number_fault h faults v (suc place) f at = verdict_fault h faults v place f at
