use Rattle.std.proofs.Common.{◌∙◌, sym}
use Rattle.cops_explain.proofs.FaultsAt.{fault_is}
use Rattle.cops_explain.proofs.pictures.picture.Goals as goal

pub picture_of-requires : goal.picture_of-requires
picture_of-requires c = fault_is c.args.named.history.now.sessions c.args.verdict.now c.requires c.args.fault c.in-Some.fault (sym c.fault_at.ensures ∙ c.in-Some.is)
