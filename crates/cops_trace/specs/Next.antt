-- What comes next in a trace's text: a frame, and what it means there.
use Rattle.std.specs.Prelude.{◌≡◌, ℕ, ◌+◌, List, Option, Some, None, Result, Ok, Err, nat_lt, ◌==◌, ◌&&◌, if◌then◌else◌}
use Rattle.cops_types.specs.declared.limits.TheConstants.{MAX_CLIENT_OPS, MAX_OPS}
use Rattle.cops_types.specs.declared.format.Format.{Format}
use Rattle.cops_types.specs.declared.format.Format.TheVariants.{One}
use Rattle.cops_types.specs.Format.{format_of_number}
use Rattle.cops_wire.specs.declared.fault.WireFault.{WireFault}
use Rattle.cops_wire.specs.declared.fault.WireFault.TheVariants as wire
use Rattle.cops_wire.specs.declared.message.Message.{Message}
use Rattle.cops_wire.specs.declared.message.Message.TheVariants.{TraceHead, TraceEnd}
use Rattle.cops_wire.specs.declared.record.TraceRecord.{TraceRecord}
use Rattle.cops_wire.specs.Records.{record_of_message}
use Rattle.cops_wire.specs.Grammar.{grammar}
use Rattle.cops_wire.specs.Message.{parts}
use Rattle.cops_wire.specs.Answer.{IsAnswer}
use Rattle.cops_trace.specs.declared.fault.TraceFault.TheVariants as fault
use Rattle.cops_trace.specs.declared.found.Item.TheVariants.{Head, Op as Entry, End}
use Rattle.cops_trace.specs.declared.found.Found.{Found}
use Rattle.cops_trace.specs.declared.found.Found.TheVariants.{Gives, Waits, Fails}

-- the frame of a format at the front of some bytes: a message and its number of bytes, or the frame's fault
abbrev pub FrameIs : Format → List ℕ → Result (Message × ℕ) WireFault → Type 0
FrameIs format bytes (Ok frame) = IsAnswer (grammar format) bytes (Ok (parts frame.0, frame.1))
FrameIs format bytes (Err e) = IsAnswer (grammar format) bytes (Err e)

-- the progress of a text: its format and its number of clients, the number of records of each client and of all, and its length so far
pub record Progress : Type 0 where
  pub format : Format
  pub clients : ℕ
  pub turn : ℕ → ℕ
  pub total : ℕ
  pub at : ℕ

-- the first frame is of format 1, and each later one of the format that the head names
abbrev pub format_next : Option Progress → Format
format_next None = One
format_next (Some p) = p.format

-- a frame that is not whole may still become so; the offset of a fault is that of the frame, or of the field that is not legal
abbrev pub unread : ℕ → WireFault → Found
unread at wire.Short = Waits
unread at (wire.BadField offset) = Fails (fault.Frame (wire.BadField offset) (at + offset))
unread at e = Fails (fault.Frame e at)

-- the head has to name a format
abbrev pub head_found : Option Format → ℕ → ℕ → Found
head_found (Some format) clients used = Gives (Head format clients) used
head_found None clients used = Fails (fault.BadFormat 0)

-- the first frame has to be a head
abbrev pub first_message : Message → ℕ → Found
first_message (TraceHead number clients) used = head_found (format_of_number number) clients used
first_message m used = Fails (fault.NoHead 0)

-- the checks of a record: its client, then its index, then the limits
abbrev pub record_found : Progress → TraceRecord → ℕ → Found
record_found p r used =
    if nat_lt r.client p.clients then
    if r.index == p.turn r.client then
    if nat_lt (p.turn r.client) MAX_CLIENT_OPS && nat_lt p.total MAX_OPS then Gives (Entry r.client r.op) used
    else Fails (fault.TooLong p.at)
    else Fails (fault.IndexOutOfTurn p.at)
    else Fails (fault.ClientOutOfRange p.at)

-- the end has to count the records
abbrev pub end_found : Progress → ℕ → ℕ → Found
end_found p ops used = if ops == p.total then Gives End used else Fails (fault.BadCount p.at)

-- a later frame that is not the end has to be a record
abbrev pub found_among : Progress → Option TraceRecord → ℕ → Found
found_among p (Some r) used = record_found p r used
found_among p None used = Fails (fault.NotARecord p.at)

abbrev pub later_message : Progress → Message → ℕ → Found
later_message p (TraceEnd ops) used = end_found p ops used
later_message p m used = found_among p (record_of_message m) used

-- what a frame means at the front of a text, or after the head and some records
abbrev pub found_in : Option Progress → Result (Message × ℕ) WireFault → Found
found_in None (Ok frame) = first_message frame.0 frame.1
found_in None (Err e) = unread 0 e
found_in (Some p) (Ok frame) = later_message p frame.0 frame.1
found_in (Some p) (Err e) = unread p.at e

-- the rest of a text begins with this
pub record Stands (p : Option Progress) (rest : List ℕ) (found : Found) : Type 0 where
  pub frame : Result (Message × ℕ) WireFault
  pub frame_is : FrameIs (format_next p) rest frame
  pub found_is : found_in p frame ≡ found
