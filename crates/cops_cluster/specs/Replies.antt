-- What a caller is answered for a step.
use Rattle.std.specs.Prelude.{◌≡◌, ℕ, Result, Ok, Err}
use Rattle.cops_types.specs.declared.gate.Point.{Point}
use Rattle.cops_types.specs.declared.gate.Point.TheVariants.{Answered}
use Rattle.cops_node.specs.declared.outcome.Outcome.{Outcome}
use Rattle.cops_node.specs.declared.outcome.Outcome.TheVariants.{Refused as RefusedWith}
use Rattle.cops_cluster.specs.declared.fault.Stop.{Stop}
use Rattle.cops_cluster.specs.declared.fault.Stop.TheVariants.{Refused, GateHeld}
use Rattle.cops_cluster.specs.declared.stepping.NodeReply.{NodeReply}

-- the outcome is what the node answered, or the refusal that came before it
abbrev pub IsReplyOf : Result NodeReply Stop → Outcome → Type 0
IsReplyOf (Ok reply) outcome = outcome ≡ reply.outcome
IsReplyOf (Err (Refused refused)) outcome = outcome ≡ RefusedWith refused
IsReplyOf (Err GateHeld) outcome = ⊥

-- the gate stopped the step, or may stop its caller after the node's answer
abbrev pub WasHeld : (Point → Type 0) → ℕ → Result NodeReply Stop → Type 0
WasHeld may_hold client (Ok reply) = may_hold (Answered reply.node client)
WasHeld may_hold client (Err (Refused refused)) = ⊥
WasHeld may_hold client (Err GateHeld) = Unit {0}

-- the reply without what is returned with it
abbrev pub reply_of : {X : Type 0} → Result (NodeReply × X) Stop → Result NodeReply Stop
reply_of (Ok answer) = Ok answer.0
reply_of (Err stop) = Err stop
