use Rattle.std.proofs.Common.{◌≡◌, ◌++◌, length, sym, ap, ◌∙◌, arith}
use Rattle.cops_types.specs.Format.{number_of}
use Rattle.cops_wire.specs.declared.message.Message.TheVariants.{TraceHead}
use Rattle.cops_wire.specs.Message.{encoded}
use Rattle.cops_trace.specs.Text.{beginning}
use Rattle.cops_trace.specs.Writing.{head_frame}
use Rattle.cops_trace.proofs.Allocation.{beginning-none}
use Rattle.cops_trace.proofs.Prefixes.{prefix_none}
use Rattle.cops_trace.proofs.Readings.{head_few}
use Rattle.cops_trace.proofs.writing.head_of.Goals as goal

pub returns-clause-text : goal.returns-clause-text
returns-clause-text c =
    let t = c.args.trace.now in
    let head : c.append.new.out.items ≡ head_frame t.format t.clients =
    c.in_ok-append.ensures ∙ ap (λ x. x ++ encoded (TraceHead c.number.result c.clients.result)) c.new-out.ensures.items
    ∙ ap (λ n. encoded (TraceHead n c.clients.result)) (c.number.ensures ∙ ap number_of c.format.ensures) ∙ ap (head_frame t.format) c.clients.ensures in
    head ∙ sym (ap beginning (prefix_none t) ∙ beginning-none t.format t.clients)

pub returns-clause-few : goal.returns-clause-few
returns-clause-few c =
    let t = c.args.trace.now in
    let head : c.append.new.out.items ≡ head_frame t.format t.clients =
    c.in_ok-append.ensures ∙ ap (λ x. x ++ encoded (TraceHead c.number.result c.clients.result)) c.new-out.ensures.items
    ∙ ap (λ n. encoded (TraceHead n c.clients.result)) (c.number.ensures ∙ ap number_of c.format.ensures) ∙ ap (head_frame t.format) c.clients.ensures in
    omega (arith, ap length head, head_few t.format t.clients (omega (arith, c.clients.ensures, c.clients.type_inv)))
