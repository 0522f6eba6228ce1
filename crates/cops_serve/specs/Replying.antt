-- The cluster's outcomes as replies.
use Rattle.std.specs.Prelude.{◌≡◌, if◌then◌else◌, ℕ, List, Option, Some, None}
use Rattle.cops_types.specs.declared.format.Format.{Format}
use Rattle.cops_types.specs.declared.format.Format.TheVariants.{One}
use Rattle.cops_types.specs.declared.refusal.Refusal.TheVariants.{Memory}
use Rattle.cops_types.specs.Format.{Fits, fits}
use Rattle.cops_node.specs.declared.outcome.Outcome.{Outcome}
use Rattle.cops_node.specs.declared.outcome.Outcome.TheVariants.{PutDone, Deleted, Got, Gone, Missed, Yes, Wait, Refused}
use Rattle.cops_net.specs.declared.reply.Reply.{Reply}
use Rattle.cops_net.specs.declared.reply.Reply.TheVariants as replied
use Rattle.cops_net.specs.Answers.{IsPutReply, IsDelReply}

-- the reply reports this outcome, which is one that a client may get
abbrev pub IsReplyTo : Outcome → Reply → Type 0
IsReplyTo (PutDone version) reply = reply ≡ replied.PutDone version
IsReplyTo (Deleted version) reply = reply ≡ replied.Deleted version
IsReplyTo (Got value version) reply = reply ≡ replied.Got value version
IsReplyTo (Gone version) reply = reply ≡ replied.Gone version
IsReplyTo Missed reply = reply ≡ replied.Missed
IsReplyTo Yes reply = reply ≡ replied.Yes
IsReplyTo Wait reply = reply ≡ replied.Wait
IsReplyTo (Refused refusal) reply = reply ≡ replied.Refused refusal
IsReplyTo _ reply = ⊥

-- the reply reports this outcome in a format: in format 1, where no node has a deletion or a value that is too long there, finding one would be
-- reported as out of memory
abbrev pub IsReplyIn : Format → Outcome → Reply → Type 0
IsReplyIn format (Got value version) reply = reply ≡ (if fits format (Some value) then replied.Got value version else replied.Refused Memory)
IsReplyIn One (Gone version) reply = reply ≡ replied.Refused Memory
IsReplyIn _ outcome reply = IsReplyTo outcome reply

-- the outcome is a completed deletion only where the format has deletions
abbrev pub IsOutcomeIn : Format → Outcome → Type 0
IsOutcomeIn format outcome = (version : ℕ) → outcome ≡ Deleted version → Fits format None

-- a reply to a write of this content: a put, or a deletion where there is no value
abbrev pub IsWriteReply : Format → Option (List ℕ) → Reply → Type 0
IsWriteReply format (Some value) = IsPutReply
IsWriteReply format None = IsDelReply format
