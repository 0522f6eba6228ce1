-- The server's protocol: each message of a client has one reply, in order. Some messages are handed to the session, whose answer the reply reports;
-- the front door answers the others itself. A session has a format. What a client sends is read in format 1 until a greeting was answered with a data
-- centre, and in the session's format after that greeting.
use Rattle.std.specs.Prelude.{◌≡◌, ℕ, min, Bool, true, false, ◌||◌, ◌==◌, if◌then◌else◌, MatchBool, List, [], ◌∷◌, Option, Some, None, Result, Ok, Err}
use Rattle.cops_types.specs.declared.format.Format.{Format}
use Rattle.cops_types.specs.declared.format.Format.TheVariants.{One}
use Rattle.cops_types.specs.declared.put_record.NodeStatus.{NodeStatus}
use Rattle.cops_types.specs.declared.refusal.Refusal.{Refusal}
use Rattle.cops_types.specs.declared.refusal.Refusal.TheVariants.{NotGreeted, BadProfile, WrongKind, NoSuchNode}
use Rattle.cops_types.specs.Format.{number_of}
use Rattle.cops_types.specs.Refusal.{code_of}
use Rattle.cops_wire.specs.declared.message.Message.{Message}
use Rattle.cops_wire.specs.declared.message.Message.TheVariants.{Hello, HelloOk, Put, Get, PutDone, Got, Missed, Refused, DepCheck, DepYes, DepWait, Status, StatusIs, Bye, ByeOk, Del, Deleted, Gone}
use Rattle.cops_wire.specs.Grammar.{grammar}
use Rattle.cops_wire.specs.Legal.{IsMessage}
use Rattle.cops_wire.specs.Message.{parts}
use Rattle.cops_net.specs.declared.reply.Reply.{Reply}
use Rattle.cops_net.specs.declared.reply.Reply.TheVariants as replied
use Rattle.cops_net.specs.declared.reply.Call.{Call}
use Rattle.cops_net.specs.declared.reply.Call.TheVariants as called

-- the format in which a message is read: format 1 until the greeting was answered, and the session's after it
abbrev pub phase : Format → Bool → Format
phase format greeted = if greeted then format else One

-- the format has the message, and its fields are legal there
abbrev pub IsLegalIn : Format → Message → Type 0
IsLegalIn format m = IsMessage (grammar format) (parts m)

-- the request number of a message, or 0 where it has none
abbrev pub seq_of : Message → ℕ
seq_of (Put seq key value) = seq
seq_of (Get seq key) = seq
seq_of (PutDone seq version) = seq
seq_of (Got seq value version) = seq
seq_of (Missed seq) = seq
seq_of (Refused seq code) = seq
seq_of (DepCheck seq key version) = seq
seq_of (DepYes seq) = seq
seq_of (DepWait seq) = seq
seq_of (Status seq node) = seq
seq_of (StatusIs seq clock keys settled held) = seq
seq_of (Del seq key) = seq
seq_of (Deleted seq version) = seq
seq_of (Gone seq version) = seq
seq_of _ = 0

-- Whether a message is handed to the session: before the greeting was answered, a greeting whose profile is the number of the session's format; after
-- it, a put, a deletion, a get, and the questions whether a put is settled and for a node's status.
abbrev pub is_handed : Format → Bool → Message → Bool
is_handed format false (Hello profile client) = profile == number_of format
is_handed format true (Put seq key value) = true
is_handed format true (Del seq key) = true
is_handed format true (Get seq key) = true
is_handed format true (DepCheck seq key version) = true
is_handed format true (Status seq node) = true
is_handed format _ _ = false

-- the reply that reports a refusal
abbrev pub refused : ℕ → Refusal → Message
refused seq refusal = Refused seq (code_of refusal)

-- The server's own reply to a message that it does not hand over: a goodbye, a profile other than the number of the session's format, a second
-- greeting, a message before the greeting was answered, or a message that is not a client's.
abbrev pub own_reply : Bool → Message → Message
own_reply greeted Bye = ByeOk
own_reply false (Hello profile client) = refused 0 BadProfile
own_reply true (Hello profile client) = refused 0 WrongKind
own_reply greeted (Put seq key value) = refused seq NotGreeted
own_reply greeted (Del seq key) = refused seq NotGreeted
own_reply greeted (Get seq key) = refused seq NotGreeted
own_reply greeted (DepCheck seq key version) = refused seq NotGreeted
own_reply greeted (Status seq node) = refused seq NotGreeted
own_reply greeted m = refused (seq_of m) WrongKind

-- this call hands the message over
abbrev pub Hands : Message → Call → Type 0
Hands (Hello profile client) (called.Hello c answer) = c ≡ client
Hands (Put seq key value) (called.Put k v answer) = (k ≡ key) × (v ≡ value)
Hands (Del seq key) (called.Del k answer) = k ≡ key
Hands (Get seq key) (called.Get k answer) = k ≡ key
Hands (DepCheck seq key version) (called.DepCheck k v answer) = (k ≡ key) × (v ≡ version)
Hands (Status seq node) (called.Status place answer) = place ≡ node
Hands _ _ = ⊥

-- a greeting's answer as a message
abbrev pub welcome : ℕ → Result (ℕ × ℕ) Refusal → Message
welcome seq (Ok place) = HelloOk place.0 place.1
welcome seq (Err refusal) = refused seq refusal

-- a session's answer as a message
abbrev pub outcome : ℕ → Reply → Message
outcome seq (replied.PutDone version) = PutDone seq version
outcome seq (replied.Deleted version) = Deleted seq version
outcome seq (replied.Got value version) = Got seq value version
outcome seq (replied.Gone version) = Gone seq version
outcome seq replied.Missed = Missed seq
outcome seq replied.Yes = DepYes seq
outcome seq replied.Wait = DepWait seq
outcome seq (replied.Refused refusal) = refused seq refusal

-- a count, capped at the greatest that a message can hold
abbrev pub capped : ℕ → ℕ
capped n = min n 4294967295

-- a node's status as a message, if there is such a node
abbrev pub standing : ℕ → Option NodeStatus → Message
standing seq None = refused seq NoSuchNode
standing seq (Some s) = StatusIs seq s.clock (capped s.keys) (capped s.settled) (capped s.held)

-- the reply that reports a call's answer
abbrev pub reported : ℕ → Call → Message
reported seq (called.Hello client answer) = welcome seq answer
reported seq (called.Put key value answer) = outcome seq answer
reported seq (called.Del key answer) = outcome seq answer
reported seq (called.Get key answer) = outcome seq answer
reported seq (called.DepCheck key version answer) = outcome seq answer
reported seq (called.Status place answer) = standing seq answer

-- a greeting that was answered with a data centre
abbrev pub welcomes : Call → Bool
welcomes (called.Hello client (Ok place)) = true
welcomes _ = false

-- there is a first call, and `P` holds of it and of the calls that follow
abbrev pub HasFirst : List Call → (Call → List Call → Type 0) → Type 0
HasFirst [] P = ⊥
HasFirst (c ∷ cs) P = P c cs

-- the messages that the first call and those that follow give, if there is one
abbrev pub from_first : List Call → (Call → List Call → List Message) → List Message
from_first [] f = []
from_first (c ∷ cs) f = f c cs

-- The calls are those of the messages that are handed over, one for each, in order.
abbrev pub AreCallsOf : Format → Bool → List Message → List Call → Type 0
AreCallsOf format greeted [] calls = calls ≡ []
AreCallsOf format greeted (m ∷ ms) calls =
    MatchBool (is_handed format greeted m)
    (HasFirst calls (λ c cs. Hands m c × AreCallsOf format (greeted || welcomes c) ms cs))
    (AreCallsOf format greeted ms calls)

-- Each message is legal in the format in which it is read: format 1 up to the greeting that is answered with a data centre, and the session's format
-- after it.
abbrev pub AreSpoken : Format → Bool → List Message → List Call → Type 0
AreSpoken format greeted [] calls = Unit {0}
AreSpoken format greeted (m ∷ ms) calls =
    IsLegalIn (phase format greeted) m
    × MatchBool (is_handed format greeted m)
    (HasFirst calls (λ c cs. AreSpoken format (greeted || welcomes c) ms cs))
    (AreSpoken format greeted ms calls)

-- The replies to messages, one for each, as they follow from the calls. They end where a call is missing.
abbrev pub replies : Format → Bool → List Message → List Call → List Message
replies format greeted [] calls = []
replies format greeted (m ∷ ms) calls =
    if is_handed format greeted m
    then from_first calls (λ c cs. reported (seq_of m) c ∷ replies format (greeted || welcomes c) ms cs)
    else own_reply greeted m ∷ replies format greeted ms calls
