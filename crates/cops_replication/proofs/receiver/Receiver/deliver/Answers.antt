use Rattle.std.proofs.Common.{subst, sym}
use Rattle.cops_cluster.specs.declared.share.Share.{Share}
use Rattle.cops_replication.specs.Shares.{Gains}
use Rattle.cops_replication.proofs.Gained.{gains_one}
use Rattle.cops_replication.proofs.receiver.Receiver.deliver.Goals as goal

pub returns-in_default-clause-share : goal.returns-in_default-clause-share
returns-in_default-clause-share g c =
    subst (λ (s : Share). Gains c.args.self.now.share s) (sym c.set_state.ensures.share) (gains_one c.args.self.now.share c.deliver.new.share _ _ c.deliver.ensures.owner c.deliver.ensures.most)

pub returns-in_err-answer-clause-share : goal.returns-in_err-answer-clause-share
returns-in_err-answer-clause-share g c = gains_one c.args.self.now.share c.deliver.new.share _ _ c.deliver.ensures.owner c.deliver.ensures.most

pub returns-clause-share : goal.returns-clause-share
returns-clause-share g c = gains_one c.args.self.now.share c.deliver.new.share _ _ c.deliver.ensures.owner c.deliver.ensures.most
