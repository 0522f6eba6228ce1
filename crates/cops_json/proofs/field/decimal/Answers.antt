use Rattle.std.proofs.Common.{inl, inr, arith}
use Rattle.std.proofs.lemmas.Fmt.{parse-decimal}
use Rattle.cops_json.proofs.Texts.{decimal_looks, decimal_read}
use Rattle.cops_json.proofs.field.decimal.Goals.{then-is_empty-via-then-is_empty, then-is_empty-via-else-is_empty+then-digits-eq43}
use Rattle.cops_json.proofs.field.decimal.Goals as goal

pub returns-then-is_empty-clause-none : goal.returns-then-is_empty-clause-none
returns-then-is_empty-clause-none c = λ n small e.
    let looks = rw (← c.as_bytes-digits.ensures.value) at (decimal_looks n c.args.text.now small e) in
    elim c.then-is_empty.branch [
      | then-is_empty-via-then-is_empty w ↦ grind arith
      | then-is_empty-via-else-is_empty+then-digits-eq43 w ↦ looks.1 w.if-digits-eq43.true
    ]

pub returns-then-digits-gt1-clause-none : goal.returns-then-digits-gt1-clause-none
returns-then-digits-gt1-clause-none c = λ n small e.
    let looks = rw (← c.as_bytes-digits.ensures.value) at (decimal_looks n c.args.text.now small e) in
    omega (arith, looks.2 c.if-digits-eq48.true, c.if-digits-gt1.true)

pub returns-in-Err-clause-none : goal.returns-in-Err-clause-none
returns-in-Err-clause-none c = λ n small e.
    let is = parse-decimal 64 n c.args.text.now c.parse.result small small e c.parse.ensures.value.0 in
    let not = c.in-Err.is in
    cc

pub returns-in-Ok-clause-text : goal.returns-in-Ok-clause-text
returns-in-Ok-clause-text c =
    let digits = c.as_bytes-digits.ensures.value in
    decimal_read _ _ (rw c.in-Ok.is at c.parse.ensures.value.0) (rw digits at c.if-digits-eq43.false)
    (elim (rw digits at c.else-digits-eq48.either) [
      | inl w ↦ λ z. w.1
      | inr w ↦ λ z. absurd (w z)
    ])
