-- Messages of a format from a stream that comes in pieces.
use Rattle.std.specs.Prelude.{◌≡◌, ℕ, List, ◌++◌, Option, Some, None, Result, Ok, Err}
use Rattle.cops_types.specs.declared.format.Format.{Format}
use Rattle.cops_wire.specs.declared.fault.WireFault.{WireFault}
use Rattle.cops_wire.specs.declared.fault.WireFault.TheVariants.{Memory, Short}
use Rattle.cops_wire.specs.declared.message.Message.{Message}
use Rattle.cops_wire.specs.Grammar.{Grammar, grammar, encoding}
use Rattle.cops_wire.specs.Legal.{IsMessage}
use Rattle.cops_wire.specs.Message.{parts}
use Rattle.cops_wire.specs.Answer.{IsAnswer, IsShort, BeginsWithTaking}

-- the model of a feeder: its format, the bytes that came and are not decoded yet, and the fault that it met, if it met one
pub record Fed : Type 0 where
  pub format : Format
  pub rest : List ℕ
  pub fault : Option WireFault

-- the feeder decodes the rest in this format; after a fault nothing changes
abbrev pub in_format : Fed → Option WireFault → Format → Fed
in_format fed None format = record fed { format = format }
in_format fed (Some fault) format = fed

-- The rest decodes to this fault, whatever bytes may still come.
abbrev pub IsStopped : Grammar → List ℕ → WireFault → Type 0
IsStopped g rest Memory = ⊥
IsStopped g rest Short = ⊥
IsStopped g rest fault = IsAnswer g rest (Err fault)

-- the rest decodes to the fault that the feeder met, if it met one
abbrev pub IsStoppedBy : Grammar → List ℕ → Option WireFault → Type 0
IsStoppedBy g rest None = Unit {0}
IsStoppedBy g rest (Some fault) = IsStopped g rest fault

-- `next` removes a message's encoding from the front of the rest, or returns nothing if the rest begins with no whole frame. A fault is what the rest
-- decodes to, and is kept. Only a message changes the rest. Memory runs out only at a field whose reading allocates, and then nothing changes. The
-- format stays.
abbrev pub IsNext : Fed → Result (Option Message) WireFault → Fed → Type 0
IsNext old (Ok (Some m)) new = IsMessage (grammar old.format) (parts m) × (old.rest ≡ encoding (grammar old.format) (parts m) ++ new.rest) × (new.fault ≡ None) × (new.format ≡ old.format)
IsNext old (Ok None) new = IsShort (grammar old.format) old.rest × (new ≡ old)
IsNext old (Err Memory) new = BeginsWithTaking (grammar old.format) old.rest × (new ≡ old)
IsNext old (Err fault) new = IsStopped (grammar old.format) old.rest fault × (new ≡ record old { fault = Some fault })
