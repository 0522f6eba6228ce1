use Rattle.std.proofs.Common.{◌+◌, ◌++◌, ◌∷◌, ◌∙◌, [], List, ℕ, length, arith, ap, sym, append_assoc, length-append}
use Rattle.std.proofs.lemmas.List.{append-nil}
use Rattle.cops_import.specs.Lines.{lines}
use Rattle.cops_check.specs.Numbers.{numbers_from}
use Rattle.cops_check.proofs.Splitting.{blank_first, blank_last, other_first, other_last}
use Rattle.cops_check.proofs.numbers.line_numbers.Goals as goal
use Rattle.cops_check.proofs.numbers.line_numbers.Goals.{then-not-is_blank+in_ok-push, else-not-is_blank, then-not-is_blank-2+in_ok-push-2, else-not-is_blank-2}

pub loop-line-preserved : goal.loop-line-preserved
loop-line-preserved c =
    let line = c.in-Some.line.now in
    let behind = c.in-Some.behind.now in
    let n = c.loop-line.number in
    let whole = c.loop-line.invariant.whole in
    let parts = c.in-Some.ensures.some.1 in
    record {
      whole = elim c.if-not-is_blank.branch [
        | then-not-is_blank+in_ok-push w ↦
            rw (w.numbers-is, w.in_ok-push.ensures.items)
            (append_assoc c.loop-line.numbers.items (n ∷ []) (numbers_from (n + 1) (lines behind))
            ∙ ap (λ (ns : List ℕ). c.loop-line.numbers.items ++ ns) (sym (other_first line behind n c.in-Some.ensures.some.0 (sym c.is_blank.ensures.value ∙ w.if-not-is_blank.true)))
            ∙ rw parts at whole)
        | else-not-is_blank w ↦
            rw w.numbers-is
            (ap (λ (ns : List ℕ). c.loop-line.numbers.items ++ ns) (sym (blank_first line behind n c.in-Some.ensures.some.0 (sym c.is_blank.ensures.value ∙ w.if-not-is_blank.false)))
            ∙ rw parts at whole)
      ];
      counted = omega (arith, c.loop-line.invariant.counted, ap length parts, length-append line (10 ∷ behind));
    }

pub returns : goal.returns
returns c =
    let rest = c.loop-line.rest.now in
    let n = c.loop-line.number in
    let whole = c.loop-line.invariant.whole in
    elim c.if-not-is_blank-2.branch [
      | then-not-is_blank-2+in_ok-push-2 w ↦
          rw (w.numbers-is, w.in_ok-push-2.ensures.items)
          (ap (λ (ns : List ℕ). c.loop-line.numbers.items ++ ns) (sym (other_last rest n c.in_default.ensures.none (sym c.is_blank-2.ensures.value ∙ w.if-not-is_blank-2.true))) ∙ whole)
      | else-not-is_blank-2 w ↦
          rw w.numbers-is
          (sym (append-nil c.loop-line.numbers.items)
          ∙ ap (λ (ns : List ℕ). c.loop-line.numbers.items ++ ns) (sym (blank_last rest n c.in_default.ensures.none (sym c.is_blank-2.ensures.value ∙ w.if-not-is_blank-2.false))) ∙ whole)
    ]
