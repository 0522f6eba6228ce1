use Rattle.cops_explain.proofs.TextLemmas.{three_or_two}
use Rattle.cops_explain.proofs.paragraphs.push_called.Goals as goal

pub returns : goal.returns
returns c = three_or_two c.push_str-2.result _ _ _ _ _ _ _ c.in_ok-push_str.ensures.bytes c.in_ok-push_name.ensures c.push_str-2.ensures.bytes
