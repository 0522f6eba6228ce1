use Rattle.cops_types.specs.Counted.{inner}
use Rattle.cops_check.specs.Check.{DescribesConvergent, DrawingSays, WritesChecked, WritesPrefixChecked}
use Rattle.cops_check.proofs.Checked.{accepted_lines, known, prefix_written}
use Rattle.cops_check.proofs.check.check_stream.Goals as goal

pub returns-in-Ok-clause-ok : goal.returns-in-Ok-clause-ok
returns-in-Ok-clause-ok g c =
    let said = c.in_ok-explained.field-0 in
    known _ (λ bytes. WritesChecked c.args.is_ranked c.args.request bytes said.explained.answer (g.W.Write.contents (inner c.args.writer.now)) (g.W.Write.contents (inner c.write_text.new.writer)))
    c.in-Some.bytes.items (rw c.in-Some.is at c.in_ok-bytes.ensures.all)
    (said.text.items, rw c.deref.ensures.value at c.in_ok-explained.ensures.says, rw c.deref-2.ensures.value at c.in-Ok.ensures.ok)

pub returns-in-Ok-clause-accepted : goal.returns-in-Ok-clause-accepted
returns-in-Ok-clause-accepted g c = λ is.
    let said = c.in_ok-explained.field-0 in
    known _ (DescribesConvergent c.args.is_ranked) c.in-Some.bytes.items (rw c.in-Some.is at c.in_ok-bytes.ensures.all)
    (accepted_lines c.args.is_ranked c.args.request c.in-Some.bytes.items said.explained.answer said.text.items (rw c.deref.ensures.value at c.in_ok-explained.ensures.says) is)

pub returns-in-Ok-clause-drawn : goal.returns-in-Ok-clause-drawn
returns-in-Ok-clause-drawn g c = λ is.
    known _ (λ bytes. DrawingSays c.args.is_ranked c.args.request.faults bytes c.in_ok-explained.field-0.explained.picture) c.in-Some.bytes.items (rw c.in-Some.is at c.in_ok-bytes.ensures.all)
    (rw c.deref.ensures.value at c.in_ok-explained.ensures.drawn is)

pub returns-clause-write_failed : goal.returns-clause-write_failed
returns-clause-write_failed g c = λ e.
    let said = c.in_ok-explained.field-0 in
    known _ (λ bytes. WritesPrefixChecked c.args.is_ranked c.args.request bytes (g.W.Write.contents (inner c.args.writer.now)) (g.W.Write.contents (inner c.write_text.new.writer)))
    c.in-Some.bytes.items (rw c.in-Some.is at c.in_ok-bytes.ensures.all)
    (prefix_written c.args.is_ranked c.args.request c.in-Some.bytes.items said.explained.answer said.text.items c.in-Err.field-0 _ _
    (rw c.deref.ensures.value at c.in_ok-explained.ensures.says) (rw c.deref-2.ensures.value at c.in-Err.ensures.err))
