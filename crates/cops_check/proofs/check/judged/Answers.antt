use Rattle.std.proofs.Common.{◌≡◌, Ok}
use Rattle.cops_types.specs.Counted.{inner}
use Rattle.cops_trace.specs.Text.{text}
use Rattle.cops_import.specs.Lines.{trace_of}
use Rattle.cops_check.proofs.Checked.{draws_trace, says_trace}
use Rattle.cops_check.proofs.check.judged.Goals as goal

pub returns-clause-says : goal.returns-clause-says
returns-clause-says c = λ rules r.
    let bytes_are : (inner c.new.result).now ≡ text (trace_of rules.format r.given) = rw (c.new.ensures.device, c.as_slice.ensures.value, c.into_inner-text.ensures) r.written in
    let answer = c.in-Ok.ensures.one (Ok (trace_of rules.format r.given)) (r.is_trace, bytes_are) in
    let same : trace_of rules.format r.given ≡ c.in-Ok.trace = cc in
    says_trace rules c.args.bytes.now r.given c.in-Ok.trace c.args.imported.names c.args.imported.unknown.items c.in_ok-naming.naming c.args.request c.in_ok-explanation.field-0.explained.answer
    c.in_ok-explanation.field-0.text.items (record { report = r.report; is_trace = r.is_trace }) same r.summary.names_are r.summary.unknown_are (rw c.deref.ensures.value at c.in_ok-naming.ensures) c.in_ok-explanation.ensures.reported

pub returns-clause-drawn : goal.returns-clause-drawn
returns-clause-drawn c = λ is rules r.
    let bytes_are : (inner c.new.result).now ≡ text (trace_of rules.format r.given) = rw (c.new.ensures.device, c.as_slice.ensures.value, c.into_inner-text.ensures) r.written in
    let answer = c.in-Ok.ensures.one (Ok (trace_of rules.format r.given)) (r.is_trace, bytes_are) in
    let same : trace_of rules.format r.given ≡ c.in-Ok.trace = cc in
    draws_trace rules c.args.bytes.now r.given c.in-Ok.trace c.args.imported.names c.args.imported.unknown.items c.in_ok-naming.naming c.args.request.faults c.in_ok-explanation.field-0.explained.picture
    (record { report = r.report; is_trace = r.is_trace }) same r.summary.names_are r.summary.unknown_are (rw c.deref.ensures.value at c.in_ok-naming.ensures) (c.in_ok-explanation.ensures.drawn is)
