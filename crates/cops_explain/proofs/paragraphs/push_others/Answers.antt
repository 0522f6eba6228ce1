use Rattle.cops_explain.specs.Naming.{named_of}
use Rattle.cops_explain.proofs.TextLemmas.{few_others, two}
use Rattle.cops_explain.proofs.paragraphs.push_others.Goals as goal

pub returns : goal.returns
returns c = two c.push_more_others.result _ _ _ _ _ c.in_ok-push_lines.ensures c.push_more_others.ensures

pub returns-then-others-le-MOST_OTHERS : goal.returns-then-others-le-MOST_OTHERS
returns-then-others-le-MOST_OTHERS c =
    rw (few_others (named_of c.args.named) c.args.others.now c.if-others-le-MOST_OTHERS.true) c.push_lines.ensures
