use Rattle.std.proofs.Common.{◌≡◌, ◌+◌, Bool, cond, ap, sym, ◌∙◌}
use Rattle.cops_node.specs.declared.event.NodeEvent.TheVariants.{Settle}
use Rattle.cops_types.specs.NodeNumber.{node_number, place_of}
use Rattle.cops_replication.specs.Doing.{advances, is_advance}
use Rattle.cops_replication.proofs.Doings.{advances_reported, settled_is, unsettled_is}
use Rattle.cops_replication.proofs.Gained.{gains_one}
use Rattle.cops_replication.proofs.receiver.Receiver.settle.Goals as goal

pub returns-in_err-outcome-clause-share : goal.returns-in_err-outcome-clause-share
returns-in_err-outcome-clause-share g c = gains_one c.args.self.now.share c.settle.new.share _ _ c.settle.ensures.owner c.settle.ensures.most

pub returns-in_err-answer-clause-share : goal.returns-in_err-answer-clause-share
returns-in_err-answer-clause-share g c = gains_one c.args.self.now.share c.settle.new.share _ _ c.settle.ensures.owner c.settle.ensures.most

pub returns-in-Settled-clause-share : goal.returns-in-Settled-clause-share
returns-in-Settled-clause-share g c = gains_one c.args.self.now.share c.settle.new.share _ _ c.settle.ensures.owner c.settle.ensures.most

pub returns-in_default-clause-share : goal.returns-in_default-clause-share
returns-in_default-clause-share g c = gains_one c.args.self.now.share c.settle.new.share _ _ c.settle.ensures.owner c.settle.ensures.most

pub returns-in-Settled-clause-did : goal.returns-in-Settled-clause-did
returns-in-Settled-clause-did g c =
    let all : advances c.settle.new.share ≡ advances c.args.self.now.share + cond (is_advance (Settle c.args.version) c.in_ok-outcome.outcome) 1 0 =
    advances_reported c.args.cluster.now c.args.self.now.dc (place_of c.args.version) (node_number c.args.self.now.dc (place_of c.args.version)) c.args.self.now.share c.settle.new.share (Settle c.args.version) c.in_ok-outcome.outcome
    c.in_ok-outcome.ensures.reported c.settle.ensures.no_node (λ far. (let e = c.in_ok-outcome.ensures.unknown far in cc)) (λ near far. (let e = c.in_ok-outcome.ensures.not_held near far in cc)) in
    all ∙ ap (λ (b : Bool). advances c.args.self.now.share + cond b 1 0) (settled_is c.args.version c.in_ok-outcome.outcome (sym c.in_ok-answer.ensures ∙ c.in-Settled.is))

pub returns-in_default-clause-did : goal.returns-in_default-clause-did
returns-in_default-clause-did g c =
    let all : advances c.settle.new.share ≡ advances c.args.self.now.share + cond (is_advance (Settle c.args.version) c.in_ok-outcome.outcome) 1 0 =
    advances_reported c.args.cluster.now c.args.self.now.dc (place_of c.args.version) (node_number c.args.self.now.dc (place_of c.args.version)) c.args.self.now.share c.settle.new.share (Settle c.args.version) c.in_ok-outcome.outcome
    c.in_ok-outcome.ensures.reported c.settle.ensures.no_node (λ far. (let e = c.in_ok-outcome.ensures.unknown far in cc)) (λ near far. (let e = c.in_ok-outcome.ensures.not_held near far in cc)) in
    all ∙ ap (λ (b : Bool). advances c.args.self.now.share + cond b 1 0) (unsettled_is c.args.version c.in_ok-outcome.outcome (λ is. c.in_default.not-Settled (c.in_ok-answer.ensures ∙ is)))
