-- What a call from C leaves in its caller's memory.
use Rattle.std.specs.Prelude.{◌≡◌, ◌<◌, ◌≤◌, ◌⊎◌, ℕ, List, ◌++◌, length, drop, Result, Ok, Err}
use Rattle.std.specs.Global.{Vec}
use Rattle.cops_types.specs.declared.fault.Memory.{Memory}
use Rattle.cops_command.specs.Status.{number}
use Rattle.cops_command.specs.declared.status.Status.TheVariants.{NoMemory}
use Rattle.cops_audit_commands.specs.declared.audit.Answer.{Answer}
use Rattle.cops_audit_commands.specs.Audit.{answer_status}
use Rattle.cops_c_interface.specs.declared.leaving.TheConstants.{TOO_SMALL}

-- the whole text is at the beginning of the buffer, whose rest is as it was, and the status is the answer's
abbrev pub IsWritten : Answer → List ℕ → List ℕ → List ℕ → ℕ → ℕ → Type 0
IsWritten answer text old new written status =
    (length text ≤ length old) × (status ≡ number (answer_status answer)) × (written ≡ length text) × (new ≡ text ++ drop (length text) old)

-- the buffer is shorter than the text, whose length is reported, and is as it was
abbrev pub IsTooSmall : List ℕ → List ℕ → List ℕ → ℕ → ℕ → Type 0
IsTooSmall text old new written status = (length old < length text) × (status ≡ TOO_SMALL) × (written ≡ length text) × (new ≡ old)

-- memory ran out, and the buffer is as it was
abbrev pub IsOutOfMemory : List ℕ → List ℕ → ℕ → ℕ → Type 0
IsOutOfMemory old new written status = (status ≡ number NoMemory) × (written ≡ 0) × (new ≡ old)

-- of what was said, given the buffer before and after
abbrev pub IsLeft : Result (Answer × Vec ℕ) Memory → List ℕ → List ℕ → ℕ → ℕ → Type 0
IsLeft (Ok (answer, text)) old new written status = IsWritten answer text.items old new written status ⊎ IsTooSmall text.items old new written status
IsLeft (Err fault) old new written status = IsOutOfMemory old new written status

-- of an answer with its text that `Says` allows
abbrev pub Leaves : (Answer → List ℕ → Type 0) → List ℕ → List ℕ → ℕ → ℕ → Type 0
Leaves Says old new written status =
    ((answer : Answer) × (text : List ℕ) × Says answer text × (IsWritten answer text old new written status ⊎ IsTooSmall text old new written status))
    ⊎ IsOutOfMemory old new written status
