use Rattle.std.proofs.Common.{◌≡◌, ◌+◌, Bool, cond, ap, sym, ◌∙◌}
use Rattle.cops_node.specs.declared.event.NodeEvent.TheVariants.{Mark}
use Rattle.cops_types.specs.NodeNumber.{node_number, place_of}
use Rattle.cops_replication.specs.Doing.{advances, is_advance}
use Rattle.cops_replication.proofs.Doings.{advances_reported, marked_is, unmarked_is}
use Rattle.cops_replication.proofs.Gained.{gains_one}
use Rattle.cops_replication.proofs.receiver.Receiver.mark.Goals as goal

pub returns-in_err-outcome-clause-share : goal.returns-in_err-outcome-clause-share
returns-in_err-outcome-clause-share g c = gains_one c.args.self.now.share c.mark.new.share _ _ c.mark.ensures.owner c.mark.ensures.most

pub returns-in_err-answer-clause-share : goal.returns-in_err-answer-clause-share
returns-in_err-answer-clause-share g c = gains_one c.args.self.now.share c.mark.new.share _ _ c.mark.ensures.owner c.mark.ensures.most

pub returns-in-Marked-clause-share : goal.returns-in-Marked-clause-share
returns-in-Marked-clause-share g c = gains_one c.args.self.now.share c.mark.new.share _ _ c.mark.ensures.owner c.mark.ensures.most

pub returns-in_default-answer-clause-share : goal.returns-in_default-answer-clause-share
returns-in_default-answer-clause-share g c = gains_one c.args.self.now.share c.mark.new.share _ _ c.mark.ensures.owner c.mark.ensures.most

pub returns-in-Marked-clause-did : goal.returns-in-Marked-clause-did
returns-in-Marked-clause-did g c =
    let all : advances c.mark.new.share ≡ advances c.args.self.now.share + cond (is_advance (Mark c.in-Some.asked.version c.in-Some.asked.dep) c.in_ok-outcome.outcome) 1 0 =
    advances_reported c.args.cluster.now c.args.self.now.dc (place_of c.in-Some.asked.version) (node_number c.args.self.now.dc (place_of c.in-Some.asked.version)) c.args.self.now.share c.mark.new.share (Mark c.in-Some.asked.version c.in-Some.asked.dep) c.in_ok-outcome.outcome
    c.in_ok-outcome.ensures.reported c.mark.ensures.no_node (λ far. (let e = c.in_ok-outcome.ensures.unknown far in cc)) (λ near far. (let e = c.in_ok-outcome.ensures.not_held near far in cc)) in
    all ∙ ap (λ (b : Bool). advances c.args.self.now.share + cond b 1 0) (marked_is c.in-Some.asked.version c.in-Some.asked.dep c.in_ok-outcome.outcome (sym c.in_ok-answer.ensures ∙ c.in-Marked.is))

pub returns-in_default-answer-clause-did : goal.returns-in_default-answer-clause-did
returns-in_default-answer-clause-did g c =
    let all : advances c.mark.new.share ≡ advances c.args.self.now.share + cond (is_advance (Mark c.in-Some.asked.version c.in-Some.asked.dep) c.in_ok-outcome.outcome) 1 0 =
    advances_reported c.args.cluster.now c.args.self.now.dc (place_of c.in-Some.asked.version) (node_number c.args.self.now.dc (place_of c.in-Some.asked.version)) c.args.self.now.share c.mark.new.share (Mark c.in-Some.asked.version c.in-Some.asked.dep) c.in_ok-outcome.outcome
    c.in_ok-outcome.ensures.reported c.mark.ensures.no_node (λ far. (let e = c.in_ok-outcome.ensures.unknown far in cc)) (λ near far. (let e = c.in_ok-outcome.ensures.not_held near far in cc)) in
    all ∙ ap (λ (b : Bool). advances c.args.self.now.share + cond b 1 0) (unmarked_is c.in-Some.asked.version c.in-Some.asked.dep c.in_ok-outcome.outcome (λ is. c.in_default-answer.not-Marked (c.in_ok-answer.ensures ∙ is)))
