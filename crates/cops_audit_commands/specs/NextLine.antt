-- What showing one more message appends, and the format that a head names.
use Rattle.std.specs.Prelude.{◌≡◌, ℕ, List, [], ◌∷◌, ◌++◌, length, Option, Some, None}
use Rattle.cops_types.specs.declared.format.Format.{Format}
use Rattle.cops_wire.specs.declared.message.Message.{Message}
use Rattle.cops_wire.specs.declared.message.Message.TheVariants.{TraceHead}
use Rattle.cops_wire.specs.Message.{encoded}
use Rattle.cops_types.specs.Format.{format_of_number}
use Rattle.cops_audit_commands.specs.Show.{StandBefore, line_of}

-- The line of the message whose frame the bytes begin with was appended, and this is the frame's length; or the bytes begin with no frame that ends
-- at or before this place.
abbrev pub AppendsNext : Format → List ℕ → ℕ → List ℕ → List ℕ → Option ℕ → Type 0
AppendsNext format bytes end old new None = (new ≡ old) × ((m : Message) → StandBefore format bytes end (m ∷ []) → ⊥)
AppendsNext format bytes end old new (Some used) = (m : Message) × StandBefore format bytes end (m ∷ []) × (used ≡ length (encoded m)) × (new ≡ old ++ line_of m)

-- the format that a message names, where it is a head that names one
abbrev pub named : Message → Option Format
named (TraceHead number clients) = format_of_number number
named _ = None
