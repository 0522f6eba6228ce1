-- What a session may answer, call by call.
use Rattle.std.specs.Prelude.{◌≡◌, ℕ, ◌<◌, ◌≤◌, ◌⊎◌, Option, Some, None, Result, Ok, Err}
use Rattle.cops_types.specs.declared.format.Format.{Format}
use Rattle.cops_types.specs.declared.limits.TheConstants.{MAX_CLOCK, MAX_DCS, PLACES}
use Rattle.cops_types.specs.declared.put_record.NodeStatus.{NodeStatus}
use Rattle.cops_types.specs.declared.refusal.Refusal.{Refusal}
use Rattle.cops_types.specs.declared.refusal.Refusal.TheVariants.{ClockExhausted, ContextFull, UnknownClient, Memory, SessionFull, NotInFormat}
use Rattle.cops_types.specs.Format.{Fits}
use Rattle.cops_net.specs.declared.reply.Reply.{Reply}
use Rattle.cops_net.specs.declared.reply.Reply.TheVariants.{PutDone, Deleted, Got, Gone, Missed, Yes, Wait, Refused}

-- the answer to a greeting: a data centre and its number of nodes, or that there is no such client
abbrev pub IsWelcome : Result (ℕ × ℕ) Refusal → Type 0
IsWelcome (Ok place) = (place.0 < MAX_DCS) × (1 ≤ place.1) × (place.1 ≤ PLACES)
IsWelcome (Err refused) = refused ≡ UnknownClient

-- the refusals that a put or a deletion may get
abbrev pub IsWriteRefusal : Refusal → Type 0
IsWriteRefusal refused = (refused ≡ ClockExhausted) ⊎ (refused ≡ UnknownClient) ⊎ (refused ≡ NotInFormat) ⊎ (refused ≡ Memory) ⊎ (refused ≡ SessionFull)

-- the answers to a put: the version that it was given, or a refusal
abbrev pub IsPutReply : Reply → Type 0
IsPutReply (PutDone version) = Unit {0}
IsPutReply (Refused refused) = IsWriteRefusal refused
IsPutReply _ = ⊥

-- the answers to a deletion: the version that it was given, where the session's format has deletions, or a refusal
abbrev pub IsDelReply : Format → Reply → Type 0
IsDelReply format (Deleted version) = Fits format None
IsDelReply format (Refused refused) = IsWriteRefusal refused
IsDelReply format _ = ⊥

-- the answers to a get: the value or the deletion that it found, which the session's format has, or nothing, or a refusal
abbrev pub IsGetReply : Format → Reply → Type 0
IsGetReply format (Got value version) = Fits format (Some value)
IsGetReply format (Gone version) = Fits format None
IsGetReply format Missed = Unit {0}
IsGetReply format (Refused refused) = (refused ≡ ContextFull) ⊎ (refused ≡ UnknownClient) ⊎ (refused ≡ Memory) ⊎ (refused ≡ SessionFull)
IsGetReply format _ = ⊥

-- the format has this answer: in format 1 no answer reports a deletion, or a value that is too long there
abbrev pub IsReplyIn : Format → Reply → Type 0
IsReplyIn format (Got value version) = Fits format (Some value)
IsReplyIn format (Deleted version) = Fits format None
IsReplyIn format (Gone version) = Fits format None
IsReplyIn format _ = Unit {0}

-- the answers to the question whether a put is settled: yes, not yet, or out of memory
abbrev pub IsCheckReply : Reply → Type 0
IsCheckReply Yes = Unit {0}
IsCheckReply Wait = Unit {0}
IsCheckReply (Refused refused) = refused ≡ Memory
IsCheckReply _ = ⊥

-- a node's status, or that there is no such node
abbrev pub IsStanding : Option NodeStatus → Type 0
IsStanding None = Unit {0}
IsStanding (Some status) = status.clock ≤ MAX_CLOCK
