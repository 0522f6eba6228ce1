use Rattle.std.proofs.Common.{◌≡◌, ℕ, List, [], ◌++◌, length, inl, inr, sym, ap, ◌∙◌, arith}
use Rattle.cops_trace.specs.Text.{beginning}
use Rattle.cops_trace.specs.Writing.{prefix}
use Rattle.cops_trace.proofs.Prefixes.{prefix_all}
use Rattle.cops_trace.proofs.writing.text_of.Goals as goal

pub returns : goal.returns
returns c =
    let t = c.args.trace.now in
    let head : c.in_ok-out.out.items ≡ beginning (prefix c.in_ok-counts.counts.total t) =
    c.in_ok-out.ensures.text ∙ ap (λ (n : ℕ). beginning (prefix n t)) (sym c.in_ok-counts.ensures.1) in
    let records : c.append_records.new.out.items ≡ beginning (prefix c.append_records.new.counts.total t) = c.in_ok-append_records.ensures.text [] head in
    let all : c.append_records.new.counts.total ≡ length t.records = elim c.in_ok-append_records.ensures.until [
      | inl e ↦ e
      | inr long ↦ absurd (omega (arith, long, c.append_records.new.out.ok.1))
    ] in
    c.in_ok-extend_from_slice.ensures.items ∙ ap (λ (l : List ℕ). l ++ c.deref.result.now) (records ∙ ap beginning (prefix_all t c.append_records.new.counts.total all))
    ∙ ap (λ (l : List ℕ). beginning t ++ l) (c.deref.ensures.value ∙ c.in_ok-end.ensures.text)
