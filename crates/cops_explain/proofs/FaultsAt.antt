-- The fault with a number is one of the history's.
use Rattle.std.proofs.Common.{◌≡◌, ℕ, Some}
use Rattle.cops_types.specs.Histories.{Sessions}
use Rattle.cops_audit.specs.Faults.{IsFault}
use Rattle.cops_audit.specs.Verdicts.{IsVerdict}
use Rattle.cops_audit.specs.declared.fault.Fault.{Fault}
use Rattle.cops_audit.specs.declared.verdict.Verdict.{Verdict}
use Rattle.cops_audit.specs.declared.verdict.Verdict.TheVariants.{Accepted, Refused}
use Rattle.cops_explain.proofs.FaultLemmas.{number_fault}
use Rattle.cops_explain.specs.Pictures.{fault_at}

pub fault_is : (h : Sessions) (v : Verdict) → IsVerdict h v → (number : ℕ) (f : Fault) → fault_at v number ≡ Some f → IsFault h f
fault_is h (Accepted puts) is number f at = absurd cc
fault_is h (Refused faults) is number f at = number_fault h faults is number f at
