-- Numbers in texts.
use Rattle.std.proofs.Common.{◌≡◌, ◌≤◌, ◌<◌, ◌^◌, ℕ, zero, suc, List, length, get_or, sym, ap, ◌∙◌, arith}
use Rattle.std.specs.Prelude.{◌≢◌, decimal}
use Rattle.std.specs.Str.Parse.{AllDigits, IsNumeral, digits_value, without_leading_plus}
use Rattle.std.proofs.lemmas.Str.Parse.{not_in_digits, numerals_by_value, tells_digits, without_leading_plus_none}
use Rattle.std.proofs.lemmas.Fmt.{decimal-digits_value, decimal_digit, decimal_nonempty, digits_decimal, first_decimal}

-- the number read from a text without a plus and without leading zeros has this text
pub decimal_read : (text : List ℕ) (n : ℕ) → (IsNumeral 10 (without_leading_plus text) × (digits_value 10 (without_leading_plus text) < 2 ^ 64)) × (n ≡ digits_value 10 (without_leading_plus text))
    → get_or text 0 0 ≢ 43 → (get_or text 0 0 ≡ 48 → length text ≤ 1) → text ≡ decimal n
decimal_read text n parsed no_plus no_zero =
    let read = rw (without_leading_plus_none text no_plus) at parsed in
    sym (decimal-digits_value (numerals_by_value _ tells_digits) text read.0.0.1 read.0.0.0 (λ z. omega (arith, no_zero z, read.0.0.0)) read.0.1) ∙ ap decimal (sym read.1)

one_zero : (n : ℕ) → n < 2 ^ 64 → get_or (decimal n) 0 0 ≡ 48 → length (decimal n) ≤ 1
one_zero zero small z = rw (decimal_digit 0 (omega arith)) (omega arith)
one_zero (suc m) small z = omega (arith, first_decimal (suc m) (omega arith) small)

-- a number's text is not empty, and begins with no plus, nor with a zero before other digits
pub decimal_looks : (n : ℕ) (text : List ℕ) → n < 2 ^ 64 → text ≡ decimal n → (0 < length text) × (get_or text 0 0 ≢ 43) × (get_or text 0 0 ≡ 48 → length text ≤ 1)
decimal_looks n text small e =
    let own = numerals_by_value (AllDigits 10) tells_digits in
    let some = decimal_nonempty n small in
    let no_plus = not_in_digits own (decimal n) 43 (digits_decimal own n small) (λ h. omega (arith, h)) 0 some in
    rw e (some, no_plus, one_zero n small)
