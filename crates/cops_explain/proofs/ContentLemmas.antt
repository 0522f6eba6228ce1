-- Printable text.
use Rattle.std.proofs.Common.{◌≡◌, ◌∙◌, ℕ, Bool, true, false, not, List, length, take, refl, sym, ap, arith}
use Rattle.std.specs.List.{list_any}
use Rattle.std.specs.Str.{IsUtf8, chars, is_utf8}
use Rattle.std.specs.Str.Lossy.{utf8_valid_len}
use Rattle.std.proofs.lemmas.List.{take_all}
use Rattle.std.proofs.lemmas.Str.{IsUtf8-from_is_utf8, is_utf8-from_IsUtf8, utf8_valid_len-IsUtf8}
use Rattle.cops_explain.specs.Contents.{is_hidden, is_printable}

-- bytes that are no text
pub no_text : (bytes : List ℕ) → ¬ IsUtf8 bytes → is_printable bytes ≡ false
no_text bytes none = go (is_utf8 bytes) refl
  where
    go : (text : Bool) → is_utf8 bytes ≡ text → is_printable bytes ≡ false
    go true e = absurd (none (IsUtf8-from_is_utf8 bytes e))
    go false e = rw e refl

-- text is printable where it has no hidden character
pub text_printable : (bytes : List ℕ) (hidden : Bool) → IsUtf8 bytes → hidden ≡ list_any is_hidden (chars bytes) → is_printable bytes ≡ not hidden
text_printable bytes hidden text is = rw (is_utf8-from_IsUtf8 bytes text, is) refl

-- text is its own longest prefix that is text
pub whole_text : (bytes : List ℕ) → IsUtf8 bytes → bytes ≡ take (utf8_valid_len bytes) bytes
whole_text bytes text = sym (ap (λ (n : ℕ). take n bytes) (utf8_valid_len-IsUtf8 bytes text) ∙ take_all (length bytes) bytes (omega arith))
