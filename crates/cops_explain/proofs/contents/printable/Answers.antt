use Rattle.std.proofs.Common.{◌∙◌, ap, not}
use Rattle.std.specs.List.{list_any}
use Rattle.std.specs.Str.{chars}
use Rattle.cops_explain.proofs.ContentLemmas.{no_text, text_printable}
use Rattle.cops_explain.specs.Contents.{is_hidden}
use Rattle.cops_explain.proofs.contents.printable.Goals as goal

pub returns-then-has_hidden : goal.returns-then-has_hidden
returns-then-has_hidden c =
    text_printable c.args.bytes.now c.has_hidden.result c.in-Ok.ensures.cases.1
    (c.has_hidden.ensures ∙ ap (λ bytes. list_any is_hidden (chars bytes)) c.in-Ok.ensures.cases.0)
    ∙ ap not c.if-has_hidden.true

pub returns-else-has_hidden : goal.returns-else-has_hidden
returns-else-has_hidden c = (
  c.in-Ok.ensures.cases.0,
  text_printable c.args.bytes.now c.has_hidden.result c.in-Ok.ensures.cases.1
      (c.has_hidden.ensures ∙ ap (λ bytes. list_any is_hidden (chars bytes)) c.in-Ok.ensures.cases.0)
      ∙ ap not c.if-has_hidden.false,
)

pub returns-in-Err : goal.returns-in-Err
returns-in-Err c = no_text c.args.bytes.now c.in-Err.ensures.cases.0
