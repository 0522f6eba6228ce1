-- The kind of a message, and the contents of its fields.
use Rattle.std.specs.Prelude.{ℕ, ◌==◌, List, IsTrue}
use Rattle.std.specs.List.{list_any}
use Rattle.cops_wire.specs.declared.message.Message.{Message}
use Rattle.cops_wire.specs.Field.{Content}
use Rattle.cops_wire.specs.Message.{parts}

abbrev pub kind_of : Message → ℕ
kind_of m = (parts m).kind

abbrev pub contents_of : Message → List Content
contents_of m = (parts m).contents

-- one of the kinds with these numbers
abbrev pub IsOneOf : List ℕ → ℕ → Type 0
IsOneOf numbers kind = IsTrue (list_any (λ number. number == kind) numbers)
