use Rattle.std.proofs.Common.{◌∙◌, sym}
use Rattle.std.specs.Prelude.{string_bytes}
use Rattle.cops_explain.specs.Naming.{named_of}
use Rattle.cops_explain.proofs.TextLemmas.{some_holders}
use Rattle.cops_explain.proofs.paragraphs.push_holders.Goals as goal

pub returns : goal.returns
returns c =
    some_holders (named_of c.args.named) c.args.holders.now c.push_others.result (string_bytes c.args.out.now) _ _ (sym c.is_empty.ensures ∙ c.if-is_empty.false) c.in_ok-push_str.ensures.bytes
    c.push_others.ensures
