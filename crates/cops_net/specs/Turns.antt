-- One step of a session: a message that is taken from the input, and its reply.
use Rattle.std.specs.Prelude.{◌≡◌, ◌≢◌, ℕ, ◌<◌, ◌⊎◌, Bool, true, false, ◌||◌, List, [], ◌∷◌, ◌++◌, length, take, Option, Some, None, Result, Ok, Err}
use Rattle.std.specs.List.{list_any}
use Rattle.cops_types.specs.declared.format.Format.{Format}
use Rattle.cops_wire.specs.declared.message.Message.{Message}
use Rattle.cops_wire.specs.declared.message.Message.TheVariants.{HelloOk}
use Rattle.cops_wire.specs.Grammar.{grammar}
use Rattle.cops_wire.specs.Message.{encoded}
use Rattle.cops_wire.specs.Answer.{IsShort}
use Rattle.cops_wire.specs.Feeding.{IsStopped}
use Rattle.cops_net.specs.declared.fault.NetFault.{NetFault}
use Rattle.cops_net.specs.declared.fault.NetFault.TheVariants.{Memory, Wire, ReadFailed, WriteFailed}
use Rattle.cops_net.specs.declared.reply.Call.{Call}
use Rattle.cops_net.specs.Protocol.{IsLegalIn, AreCallsOf, replies, welcomes}
use Rattle.cops_net.specs.Sessions.{IsWrong}

-- the answer to a greeting
abbrev pub is_welcome : Message → Bool
is_welcome (HelloOk dc nodes) = true
is_welcome _ = false

-- the message was handed over by these calls, one or none, and this is its reply, which is legal in the session's format
pub record IsTurn (format : Format) (greeted : Bool) (m : Message) (calls : List Call) (reply : Message) : Type 0 where
  pub called : AreCallsOf format greeted (m ∷ []) calls
  pub reply_is : replies format greeted (m ∷ []) calls ≡ reply ∷ []
  pub reply_legal : IsLegalIn format reply
  pub welcomed : is_welcome reply ≡ list_any welcomes calls

-- What was taken in a format from the start of the bytes that came so far, and what is left of them: nothing is taken where they do not start with a
-- whole frame.
abbrev pub IsPrefix : Format → List ℕ → Result (Option Message) NetFault → List ℕ → Type 0
IsPrefix format came (Ok (Some m)) rest = IsLegalIn format m × (came ≡ encoded m ++ rest)
IsPrefix format came (Ok None) rest = IsShort (grammar format) came × (rest ≡ came)
IsPrefix format came (Err Memory) rest = Unit {0}
IsPrefix format came (Err (Wire fault)) rest = IsStopped (grammar format) came fault
IsPrefix format came (Err _) rest = ⊥

-- What was taken in a format from the start of an input, and what is left of it. `at_end` says that nothing comes after it.
abbrev pub IsTaken : Format → Type 0 → List ℕ → Result (Option Message) NetFault → List ℕ → Type 0
IsTaken format at_end input (Ok (Some m)) rest = IsLegalIn format m × (input ≡ encoded m ++ rest)
IsTaken format at_end input (Ok None) rest = (input ≡ []) × at_end
IsTaken format at_end input (Err Memory) rest = Unit {0}
IsTaken format at_end input (Err (Wire fault)) rest = IsWrong format at_end input fault
IsTaken format at_end input (Err ReadFailed) rest = IsShort (grammar format) input
IsTaken format at_end input (Err _) rest = ⊥

-- A message was answered: its calls, and the bytes that were written, which are its whole reply or a prefix of it. The result is whether the session
-- is greeted afterwards.
abbrev pub IsAnswered : Format → Bool → Message → List Call → List ℕ → Result Bool NetFault → Type 0
IsAnswered format greeted m calls written (Ok after) =
    (reply : Message) × IsTurn format greeted m calls reply × (written ≡ encoded reply) × (after ≡ (greeted || list_any welcomes calls))
IsAnswered format greeted m calls written (Err Memory) =
    (written ≡ []) × ((calls ≡ []) ⊎ ((reply : Message) × IsTurn format greeted m calls reply × (encoded reply ≢ [])))
IsAnswered format greeted m calls written (Err WriteFailed) =
    (reply : Message) × IsTurn format greeted m calls reply × ((n : ℕ) × (n < length (encoded reply)) × (written ≡ take n (encoded reply)))
IsAnswered format greeted m calls written (Err _) = ⊥
