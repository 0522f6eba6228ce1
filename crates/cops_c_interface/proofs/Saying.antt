-- What is left of what was said.
use Rattle.std.proofs.Common.{◌≡◌, ℕ, List, Result, Ok, Err, refl, sym, ◌∙◌, inl, inr}
use Rattle.std.specs.Prelude.{IfOk}
use Rattle.std.specs.Global.{Vec}
use Rattle.cops_types.specs.declared.fault.Memory.{Memory}
use Rattle.cops_command.specs.Status.{number}
use Rattle.cops_audit_commands.specs.declared.audit.Answer.{Answer}
use Rattle.cops_audit_commands.specs.declared.audit.Answer.TheVariants.{Accepted, Refused, Faulty}
use Rattle.cops_audit_commands.specs.Audit.{answer_status}
use Rattle.cops_c_interface.specs.Left.{IsLeft, Leaves}

-- what is left of an answer and a text that may be said
pub leaves : (Says : Answer → List ℕ → Type 0) (said : Result (Answer × Vec ℕ) Memory) (old new : List ℕ) (written status : ℕ) → IfOk said (λ s. Says s.0 s.1.items)
    → IsLeft said old new written status → Leaves Says old new written status
leaves Says (Ok (answer, text)) old new written status says left = inl (answer, text.items, says, left)
leaves Says (Err fault) old new written status says left = inr left

-- only the answer that accepts has the number 0
is_accepted : (a : Answer) → number (answer_status a) ≡ 0 → a ≡ Accepted
is_accepted Accepted is = refl
is_accepted Refused is = absurd cc
is_accepted Faulty is = absurd cc

-- at status 0 what was said accepts
pub accepts : (P : Type 0) (said : Result (Answer × Vec ℕ) Memory) (old new : List ℕ) (written status : ℕ) → IfOk said (λ s. s.0 ≡ Accepted → P) → IsLeft said old new written status
    → status ≡ 0 → P
accepts P (Ok (answer, text)) old new written status holds (inl w) is = holds (is_accepted answer (sym w.1 ∙ is))
accepts P (Ok (answer, text)) old new written status holds (inr w) is = absurd cc
accepts P (Err fault) old new written status holds w is = absurd cc
