use Rattle.std.proofs.Common.{◌∙◌}
use Rattle.cops_explain.proofs.ContentLemmas.{whole_text}
use Rattle.cops_explain.proofs.contents.text_prefix.Goals as goal

pub returns-in-Ok : goal.returns-in-Ok
returns-in-Ok c = c.in-Ok.ensures.cases.0 ∙ whole_text c.args.bytes.now c.in-Ok.ensures.cases.1
