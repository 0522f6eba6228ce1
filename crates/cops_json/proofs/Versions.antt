-- Versions in texts.
use Rattle.std.proofs.Common.{◌≡◌, ◌<◌, ◌^◌, ℕ, List, length, get_or, arith, lit<}
use Rattle.std.specs.Prelude.{◌≢◌, Option, MatchOption, decimal}
use Rattle.std.specs.Borrow.{Bor}
use Rattle.std.specs.Str.Parse.{AllDigits}
use Rattle.std.proofs.lemmas.Str.Parse.{numerals_by_value, tells_digits, not_in_digits}
use Rattle.std.proofs.lemmas.Str.Pattern.{IsSplitOnceResult, split_after}
use Rattle.std.proofs.lemmas.Fmt.{digits_decimal}
use Rattle.cops_types.specs.Version.{IsVersion, clock_of, node_of}
use Rattle.cops_types.specs.Texts.{version_text}

pub no_dot : (n : ℕ) → n < 2 ^ 64 → (i : ℕ) → i < length (decimal n) → get_or (decimal n) i 0 ≢ 46
no_dot n small = let own = numerals_by_value (AllDigits 10) tells_digits in not_in_digits own (decimal n) 46 (digits_decimal own n small) (λ h. omega (arith, h))

pub clock_fits : (v : ℕ) → IsVersion v → clock_of v < 2 ^ 48
clock_fits v is = omega (arith, is.2)

-- a version's text is split at its dot
pub version_parts : (v : ℕ) (text : List ℕ) (r : Option (Bor (List ℕ) × Bor (List ℕ))) → IsVersion v → text ≡ version_text v → IsSplitOnceResult 46 text r
    → MatchOption r ⊥ (λ x. (x.0.now ≡ decimal (clock_of v)) × (x.1.now ≡ decimal (node_of v)))
version_parts v text r is e cut =
    let fits = clock_fits v is in
    split_after 46 text (decimal (clock_of v)) (decimal (node_of v)) r cut (lit< tt) e (no_dot (clock_of v) (omega arith))
