-- The member of bytes.
use Rattle.std.proofs.Common.{◌≡◌, ℕ, List, Bool, true, false, IsUtf8, refl}
use Rattle.std.specs.Str.{is_utf8}
use Rattle.std.proofs.lemmas.Str.{IsUtf8-from_is_utf8, is_utf8-from_IsUtf8}
use Rattle.hex.specs.Hex.{encode_lower}
use Rattle.cops_json.specs.Json.{text_json}
use Rattle.cops_explain_json.specs.Objects.{bytes_member}

pub bytes_in_text : (name hex_name bytes : List ℕ) → IsUtf8 bytes → bytes_member name hex_name bytes ≡ (name, text_json bytes)
bytes_in_text name hex_name bytes is = rw (is_utf8-from_IsUtf8 bytes is)

test_false : (bytes : List ℕ) (test : Bool) → is_utf8 bytes ≡ test → ¬ IsUtf8 bytes → test ≡ false
test_false bytes true is not = absurd (not (IsUtf8-from_is_utf8 bytes is))
test_false bytes false is not = refl

pub bytes_in_hex : (name hex_name bytes : List ℕ) → ¬ IsUtf8 bytes → bytes_member name hex_name bytes ≡ (hex_name, text_json (encode_lower bytes))
bytes_in_hex name hex_name bytes not = rw (test_false bytes (is_utf8 bytes) refl not)
