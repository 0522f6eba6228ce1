-- How keys, values and names of clients are written.
use Rattle.std.specs.Prelude.{ℕ, Bool, not, ◌&&◌, List, length, take, codes, decimal, nat_le, if◌then◌else◌}
use Rattle.std.specs.Int.{is_in_range}
use Rattle.std.specs.List.{list_any}
use Rattle.std.specs.Str.{chars, is_utf8}
use Rattle.std.specs.Str.Lossy.{utf8_valid_len}
use Rattle.cops_types.specs.Texts.{◌⧺◌}
use Rattle.cops_wire.specs.Shown.{bytes_text}
use Rattle.cops_explain.specs.declared.contents.TheConstants.{HIDDEN}
use Rattle.cops_explain.specs.declared.limits.TheConstants.{VALUE_BYTES}
use Rattle.cops_explain.specs.declared.sizes.TheConstants.{SHOWN_BYTES}
use Rattle.cops_explain.specs.declared.contents.Form.{Form}
use Rattle.cops_explain.specs.declared.contents.Form.TheVariants.{Readable, Escaped, Short}

-- a control character, a separator of lines or paragraphs, or a control of the direction of writing
abbrev pub is_hidden : ℕ → Bool
is_hidden c = list_any (λ range. is_in_range range.0 range.1 c) HIDDEN

-- text without such a character
abbrev pub is_printable : List ℕ → Bool
is_printable bytes = is_utf8 bytes && not (list_any is_hidden (chars bytes))

-- a key or a name: in a text, what is printable stands as it is, and anything else is escaped; in a picture all is escaped, and cut where it is shown short
abbrev pub content_text : Form → List ℕ → List ℕ
content_text Readable bytes = if is_printable bytes then bytes else bytes_text bytes
content_text Escaped bytes = bytes_text bytes
content_text Short bytes = if nat_le (length bytes) SHOWN_BYTES then bytes_text bytes else bytes_text (take SHOWN_BYTES bytes) ⧺ codes ".."

-- the beginning of a longer value: the whole characters that fit into its first bytes, or those bytes escaped
abbrev pub start_text : List ℕ → List ℕ
start_text value = let start = take VALUE_BYTES value in if is_printable value then take (utf8_valid_len start) start else bytes_text start

-- a value: in a text, of a longer one the beginning and its length
abbrev pub value_text : Form → List ℕ → List ℕ
value_text Readable value =
    if nat_le (length value) VALUE_BYTES then content_text Readable value
    else start_text value ⧺ codes ".. (" ⧺ decimal (length value) ⧺ codes " bytes)"
value_text Escaped value = content_text Escaped value
value_text Short value = content_text Short value
