-- The numbers of lines, one line after the other.
use Rattle.std.proofs.Common.{◌≡◌, ◌==◌, ◌+◌, ℕ, true, false, List, [], ◌∷◌, ◌++◌, refl}
use Rattle.std.proofs.lemmas.List.Splits.{slice_split_at, slice_split_none}
use Rattle.cops_import.specs.Line.{is_blank_line}
use Rattle.cops_import.specs.Lines.{IsWithin, lines}
use Rattle.cops_check.specs.Numbers.{numbers_from}

first_line : (line behind : List ℕ) → IsWithin line → lines (line ++ 10 ∷ behind) ≡ line ∷ lines behind
first_line line behind within = slice_split_at (λ (b : ℕ). b == 10) line 10 behind within refl

pub blank_first : (line behind : List ℕ) (number : ℕ) → IsWithin line → is_blank_line line ≡ true → numbers_from number (lines (line ++ 10 ∷ behind)) ≡ numbers_from (number + 1) (lines behind)
blank_first line behind number within blank = rw (first_line line behind within, blank) refl

pub other_first : (line behind : List ℕ) (number : ℕ) → IsWithin line → is_blank_line line ≡ false → numbers_from number (lines (line ++ 10 ∷ behind)) ≡ number ∷ numbers_from (number + 1) (lines behind)
other_first line behind number within other = rw (first_line line behind within, other) refl

pub blank_last : (line : List ℕ) (number : ℕ) → IsWithin line → is_blank_line line ≡ true → numbers_from number (lines line) ≡ []
blank_last line number within blank = rw (slice_split_none (λ (b : ℕ). b == 10) line within, blank) refl

pub other_last : (line : List ℕ) (number : ℕ) → IsWithin line → is_blank_line line ≡ false → numbers_from number (lines line) ≡ number ∷ []
other_last line number within other = rw (slice_split_none (λ (b : ℕ). b == 10) line within, other) refl
