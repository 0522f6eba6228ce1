-- The faults of a conversion, and what they leave.
use Rattle.std.proofs.Common.{◌≡◌, ℕ, List, Option, Err, IfSome, subst, sym, inl, inr}
use Rattle.cops_trace.specs.declared.fault.TraceFault.{TraceFault}
use Rattle.cops_trace.specs.declared.fault.TraceFault.TheVariants.{Memory, ReadFailed}
use Rattle.cops_trace.specs.declared.fault.ConvertFault.{ConvertFault}
use Rattle.cops_trace.specs.declared.fault.ConvertFault.TheVariants as converting
use Rattle.cops_trace.specs.Text.{ATrace}
use Rattle.cops_trace.specs.Answer.{Agrees}
use Rattle.cops_trace.specs.Converting.{ConvertsPrefix, IsConverted, IsFaultOf, IsLeftAt, IsUnwrittenAt, fault_of_reading}
use Rattle.cops_trace.proofs.Feeding.{of_bytes}

read_fault : (bytes : List ℕ) (fault : TraceFault) → Agrees bytes (Err fault) → IsFaultOf bytes (fault_of_reading fault)
read_fault bytes Memory h = tt
read_fault bytes ReadFailed h = tt
read_fault bytes fault h = elim h [
  | inl p ↦ absurd cc
  | inr more ↦ elim more [ inl p ↦ absurd cc | inr has ↦ has ]
]

-- a fault of reading is a fault of the bytes
pub is_fault_of : (bytes : List ℕ) (fault : TraceFault) (e : ConvertFault) → Agrees bytes (Err fault) → e ≡ fault_of_reading fault → IsFaultOf bytes e
is_fault_of bytes fault e h is = subst (IsFaultOf bytes) (sym is) (read_fault bytes fault h)

-- a failed conversion leaves a prefix of the converted trace's text
pub left_at : (read : Option (List ℕ)) (t : ATrace) (e : ConvertFault) (old new : Option (List ℕ)) → IfSome read (λ bytes. IsConverted bytes t) → IsUnwrittenAt t e old new
    → IsLeftAt read e old new
left_at read t converting.Memory old new is left = left
left_at read t (converting.Faulty fault) old new is left = absurd left
left_at read t converting.ReadFailed old new is left = absurd left
left_at read t (converting.WriteFailed count) old new is left =
    of_bytes (λ (bytes : List ℕ). IsConverted bytes t) (λ (bytes : List ℕ). ConvertsPrefix bytes count old new) read is (λ bytes h. (t, h, left))
