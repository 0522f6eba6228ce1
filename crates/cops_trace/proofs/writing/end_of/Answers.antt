use Rattle.std.proofs.Common.{◌≡◌, ℕ, ◌++◌, length, ap, ◌∙◌, arith}
use Rattle.cops_wire.specs.declared.message.Message.TheVariants.{TraceEnd}
use Rattle.cops_wire.specs.Message.{encoded}
use Rattle.cops_trace.specs.Text.{end_text}
use Rattle.cops_trace.proofs.Items.{encoded_len}
use Rattle.cops_trace.proofs.Readings.{end_legal}
use Rattle.cops_trace.proofs.writing.end_of.Goals as goal

pub returns-clause-few : goal.returns-clause-few
returns-clause-few c =
    let t = c.args.trace.now in
    let is : c.append.new.out.items ≡ end_text t =
    c.in_ok-append.ensures ∙ ap (λ x. x ++ encoded (TraceEnd c.len.result)) c.new-out.ensures.items ∙ ap (λ (n : ℕ). encoded (TraceEnd n)) c.len.ensures.count in
    omega (arith, ap length is, (encoded_len t.format (TraceEnd (length t.records)) (end_legal t c.len.ensures.trace)).1)
