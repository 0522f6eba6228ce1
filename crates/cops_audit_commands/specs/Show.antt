-- The status and the text of showing a trace's bytes.
use Rattle.std.specs.Prelude.{◌≡◌, ℕ, ◌<◌, ◌≤◌, ◌^◌, ◌⊎◌, List, [], ◌∷◌, ◌++◌, length, codes, Option, Some, None, unwrap_or, Ok, Err}
use Rattle.std.specs.List.{flat_map, AllByRecursion}
use Rattle.std.specs.Io.KnownBytes.{Appends}
use Rattle.cops_types.specs.declared.format.Format.{Format}
use Rattle.cops_types.specs.declared.format.Format.TheVariants.{One}
use Rattle.cops_types.specs.Format.{number_of}
use Rattle.cops_types.specs.Texts.{◌⧺◌}
use Rattle.cops_wire.specs.declared.message.Message.{Message}
use Rattle.cops_wire.specs.declared.message.Message.TheVariants.{TraceHead}
use Rattle.cops_wire.specs.Grammar.{grammar}
use Rattle.cops_wire.specs.Legal.{IsMessage}
use Rattle.cops_wire.specs.Message.{parts, encoded}
use Rattle.cops_wire.specs.Shown.{shown}
use Rattle.cops_command.specs.Status.{number}
use Rattle.cops_command.specs.declared.status.Status.{Status}
use Rattle.cops_command.specs.declared.status.Status.TheVariants.{Accepted, Faulty}
use Rattle.cops_trace.specs.declared.fault.TraceFault.{TraceFault}
use Rattle.cops_trace.specs.Text.{ATrace}
use Rattle.cops_trace.specs.Answer.{Says}
use Rattle.cops_trace.specs.Faults.{offset_of}
use Rattle.cops_trace.specs.Lines.{fault_line}

-- the line of a message, with its end
unfoldable pub line_of : Message → List ℕ
line_of m = shown m ⧺ codes "\n"

-- the lines of messages, in order
abbrev pub lines_of : List Message → List ℕ
lines_of ms = flat_map line_of ms

-- their frames, in order
abbrev pub frames_of : List Message → List ℕ
frames_of ms = flat_map encoded ms

-- the bytes begin with a head that names the format
pub record HasHead (bytes : List ℕ) (format : Format) : Type 0 where
  pub clients : ℕ
  pub few : clients < 2 ^ 16
  pub rest : List ℕ
  pub front : bytes ≡ encoded (TraceHead (number_of format) clients) ++ rest

-- the format in which the frames are read: the one that the head names, or format 1 where no head names one
abbrev pub AreReadIn : List ℕ → Format → Type 0
AreReadIn bytes format = HasHead bytes format ⊎ ((format ≡ One) × ((other : Format) → HasHead bytes other → ⊥))

-- These messages are legal in the format, and the bytes begin with their frames, one after the other, which end at or before this place.
pub record StandBefore (format : Format) (bytes : List ℕ) (end : ℕ) (ms : List Message) : Type 0 where
  pub legal : AllByRecursion (λ m. IsMessage (grammar format) (parts m)) ms
  pub rest : List ℕ
  pub front : bytes ≡ frames_of ms ++ rest
  pub ends : length (frames_of ms) ≤ end

-- these are all such messages: with one more message this does not hold
pub record AreAllBefore (format : Format) (bytes : List ℕ) (end : ℕ) (ms : List Message) : Type 0 where
  pub stand : StandBefore format bytes end ms
  pub all : (m : Message) → StandBefore format bytes end (ms ++ m ∷ []) → ⊥

-- these are all such messages, in the format in which the frames are read
abbrev pub AreShown : List ℕ → ℕ → List Message → Type 0
AreShown bytes end ms = (format : Format) × AreReadIn bytes format × AreAllBefore format bytes end ms

-- the bytes have this fault first, or are a trace's text
abbrev pub HasFirst : List ℕ → Option TraceFault → Type 0
HasFirst bytes None = (t : ATrace) × Says bytes (Ok t)
HasFirst bytes (Some e) = Says bytes (Err e)

-- the status for the fault, and the last line
abbrev pub status_of : Option TraceFault → Status
status_of None = Accepted
status_of (Some e) = Faulty

abbrev pub last_line : Option TraceFault → List ℕ
last_line None = []
last_line (Some e) = fault_line e

-- the offset at which showing ends: the end of the bytes, or the fault's offset
abbrev pub end_of : List ℕ → Option TraceFault → ℕ
end_of bytes None = length bytes
end_of bytes (Some e) = unwrap_or (offset_of e) (length bytes)

-- The writer gained the lines of all messages whose frames end at or before the fault that the bytes have, or with the
-- bytes, and then the fault's line. The status is that of the fault.
abbrev pub Shows : List ℕ → ℕ → Option (List ℕ) → Option (List ℕ) → Type 0
Shows bytes status old new =
    (fault : Option TraceFault) × (ms : List Message) × HasFirst bytes fault × AreShown bytes (end_of bytes fault) ms
    × (status ≡ number (status_of fault)) × Appends old new (lines_of ms ++ last_line fault)
