-- What a caller is answered for a mark.
use Rattle.std.proofs.Common.{◌≡◌, ℕ, true, sym, ap, subst, ◌∙◌}
use Rattle.std.specs.Prelude.{Result, Ok, Err, IfOk, IfErr}
use Rattle.cops_types.specs.declared.gate.GateHeld.{GateHeld}
use Rattle.cops_types.specs.declared.gate.Point.{Point}
use Rattle.cops_node.specs.declared.outcome.Outcome.{Outcome}
use Rattle.cops_cluster.specs.declared.fault.Stop.{Stop}
use Rattle.cops_cluster.specs.declared.fault.Stop.TheVariants.{Refused, GateHeld as StoppedThere}
use Rattle.cops_cluster.specs.declared.receiving.Yes.{Yes}
use Rattle.cops_cluster.specs.declared.stepping.NodeReply.{NodeReply}
use Rattle.cops_cluster.specs.Shares.{is_of_node}
use Rattle.cops_cluster.specs.Cluster.{IsStop}
use Rattle.cops_cluster.specs.Outcomes.{StopsWith}
use Rattle.cops_cluster.specs.Receiving.{IsAllowedMark, IsMarkedAs, IsUnaskedMark}
use Rattle.cops_cluster.specs.Replies.{IsReplyOf, reply_of}
use Rattle.cops_cluster.proofs.Reports.{reported_of, true_is_false}

unasked_of : (answer : Yes) (dc version dep : ℕ) (may_hold : Point → Type 0) (at client : ℕ) (stop : Stop) (out : Outcome) → StopsWith (IsUnaskedMark answer dc version dep) stop
    → IsStop may_hold at client stop → IsReplyOf (Err stop) out → IsMarkedAs answer dc version dep out
unasked_of answer dc version dep may_hold at client (Refused code) out unasked other reported = (
  λ h. true_is_false (is_of_node out) h (ap is_of_node reported ∙ other),
  λ _. subst (λ (o : Outcome). IsUnaskedMark answer dc version dep o) (sym reported) unasked,
)
unasked_of answer dc version dep may_hold at client StoppedThere out unasked other reported = absurd reported

-- the result of a mark is a node's answer, where the mark was allowed, or why no node was asked
pub reported_marked : {X : Type 0} (answer : Yes) (dc version dep : ℕ) (may_hold : Point → Type 0) (at client : ℕ) (answered : Result (NodeReply × X) Stop) (reply : Result NodeReply Stop) (result : Result Outcome GateHeld)
    → IfOk answered (λ t. IsAllowedMark answer dc version dep t.0.outcome) → IfOk answered (λ t. is_of_node t.0.outcome ≡ true)
    → IfErr answered (StopsWith (IsUnaskedMark answer dc version dep)) → IfErr answered (IsStop may_hold at client) → reply ≡ reply_of answered → IfOk result (IsReplyOf reply)
    → IfOk result (IsMarkedAs answer dc version dep)
reported_marked answer dc version dep may_hold at client answered reply (Err e) allowed is unasked stop same reported = tt
reported_marked answer dc version dep may_hold at client (Ok t) reply (Ok out) allowed is unasked stop same reported =
    let e : out ≡ t.0.outcome = reported_of (Ok t.0) reply out same reported in (
      λ _. subst (λ (o : Outcome). IsAllowedMark answer dc version dep o) (sym e) allowed,
      λ other. true_is_false (is_of_node out) (ap is_of_node e ∙ is) other,
    )
reported_marked answer dc version dep may_hold at client (Err s) reply (Ok out) allowed is unasked stop same reported =
    unasked_of answer dc version dep may_hold at client s out unasked stop (reported_of (Err s) reply out same reported)
