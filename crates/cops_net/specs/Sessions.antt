-- What a session did: the messages that it took from the input, the calls that it made, and the bytes that it wrote.
use Rattle.std.specs.Prelude.{◌≡◌, ◌≢◌, ℕ, ◌⊎◌, Bool, true, false, List, [], ◌∷◌, ◌++◌, length, All, Result, Ok, Err}
use Rattle.std.specs.List.{flat_map, list_any}
use Rattle.cops_types.specs.declared.format.Format.{Format}
use Rattle.cops_wire.specs.declared.fault.WireFault.{WireFault}
use Rattle.cops_wire.specs.declared.fault.WireFault.TheVariants as wire
use Rattle.cops_wire.specs.declared.message.Message.{Message}
use Rattle.cops_wire.specs.declared.message.Message.TheVariants.{Bye}
use Rattle.cops_wire.specs.Grammar.{grammar}
use Rattle.cops_wire.specs.Message.{encoded}
use Rattle.cops_wire.specs.Answer.{IsShort}
use Rattle.cops_wire.specs.Feeding.{IsStopped}
use Rattle.cops_net.specs.declared.fault.NetFault.{NetFault}
use Rattle.cops_net.specs.declared.fault.NetFault.TheVariants.{Memory, Wire, ReadFailed, WriteFailed, TurnLimit}
use Rattle.cops_net.specs.declared.reply.Call.{Call}
use Rattle.cops_net.specs.declared.serving.Served.{Served}
use Rattle.cops_net.specs.declared.serving.TheConstants.{MAX_MESSAGES}
use Rattle.cops_net.specs.Protocol.{phase, IsLegalIn, welcomes, AreCallsOf, AreSpoken, replies}

-- the bytes of messages, one after the other
abbrev pub text : List Message → List ℕ
text ms = flat_map encoded ms

abbrev pub is_bye : Message → Bool
is_bye Bye = true
is_bye _ = false

-- none of the messages ends the session
abbrev pub StaysOpen : List Message → Type 0
StaysOpen ms = list_any is_bye ms ≡ false

-- the format in which what follows these calls is read
abbrev pub next_format : Format → List Call → Format
next_format format calls = phase format (list_any welcomes calls)

-- These messages, each legal in the format in which it is read, were taken from the input, and `rest` is the rest of it. Each message that is handed
-- over was handed over by one call, in order, and there was no other call. What was written is the encodings of the replies, one for each message,
-- which are legal in the session's format.
pub record Answered (format : Format) (ms : List Message) (input : List ℕ) (calls : List Call) (written rest : List ℕ) : Type 0 where
  pub legal : AreSpoken format false ms calls
  pub read : input ≡ text ms ++ rest
  pub called : AreCallsOf format false ms calls
  pub reported : written ≡ text (replies format false ms calls)
  pub reported_legal : All (IsLegalIn format) (replies format false ms calls)

-- The last message was taken and handed over as it should be, but only a part of its reply was written, and not all.
pub record BrokeOff (format : Format) (ms : List Message) (last : Message) (input : List ℕ) (calls : List Call) (written rest : List ℕ) : Type 0 where
  pub legal : AreSpoken format false (ms ++ last ∷ []) calls
  pub read : input ≡ text (ms ++ last ∷ []) ++ rest
  pub called : AreCallsOf format false (ms ++ last ∷ []) calls
  pub reply : Message
  pub last_reply : replies format false (ms ++ last ∷ []) calls ≡ replies format false ms calls ++ reply ∷ []
  pub part : List ℕ
  pub missing : List ℕ
  pub parts_are : encoded reply ≡ part ++ missing
  pub some_missing : missing ≢ []
  pub reported : written ≡ text (replies format false ms calls) ++ part
  pub reported_legal : All (IsLegalIn format) (replies format false (ms ++ last ∷ []) calls)

-- The session is over: the last message is the first that ends it, or the input ended after the last message.
abbrev pub IsOver : Type 0 → List Message → List ℕ → Type 0
IsOver at_end ms rest =
    ((before : List Message) × StaysOpen before × (ms ≡ before ++ Bye ∷ []))
    ⊎ (StaysOpen ms × (rest ≡ []) × at_end)

-- why no further message of a format was taken from the rest: it is incomplete and the input ended, or it has a fault
abbrev pub IsWrong : Format → Type 0 → List ℕ → WireFault → Type 0
IsWrong format at_end rest wire.Short = (rest ≢ []) × IsShort (grammar format) rest × at_end
IsWrong format at_end rest fault = IsStopped (grammar format) rest fault

-- What a session of a format did, by its result. `at_end` says that the reader has no more.
abbrev pub Serves : Format → Type 0 → List ℕ → List Call → List ℕ → Result Served NetFault → Type 0
Serves format at_end input calls written (Ok served) =
    (ms : List Message) × (rest : List ℕ) × Answered format ms input calls written rest
    × (served.answered ≡ length ms) × IsOver at_end ms rest
Serves format at_end input calls written (Err Memory) =
    (ms : List Message) × (rest : List ℕ) × StaysOpen ms
    × (Answered format ms input calls written rest ⊎ ((last : Message) × BrokeOff format ms last input calls written rest))
Serves format at_end input calls written (Err (Wire fault)) =
    (ms : List Message) × (rest : List ℕ) × StaysOpen ms × Answered format ms input calls written rest
    × IsWrong (next_format format calls) at_end rest fault
Serves format at_end input calls written (Err ReadFailed) =
    (ms : List Message) × (rest : List ℕ) × StaysOpen ms × Answered format ms input calls written rest
    × IsShort (grammar (next_format format calls)) rest
Serves format at_end input calls written (Err WriteFailed) =
    (ms : List Message) × (rest : List ℕ) × StaysOpen ms × ((last : Message) × BrokeOff format ms last input calls written rest)
Serves format at_end input calls written (Err TurnLimit) =
    (ms : List Message) × (rest : List ℕ) × StaysOpen ms
    × ((last : Message) × IsLegalIn (next_format format calls) last × Answered format ms input calls written (encoded last ++ rest))
    × (length ms ≡ MAX_MESSAGES)
Serves format at_end input calls written (Err _) = ⊥
