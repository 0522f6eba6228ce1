-- Objects and lists in JSON.
use Rattle.std.specs.Prelude.{ℕ, List, [], ◌∷◌, codes, if◌then◌else◌}
use Rattle.std.specs.Str.{is_utf8}
use Rattle.hex.specs.Hex.{encode_lower}
use Rattle.serde_json.specs.Data.{Data, Members, no_members, array, object, put}
use Rattle.serde_json.specs.View.{items_of, members_view}
use Rattle.serde_json.specs.Written.{compact_text}
use Rattle.cops_json.specs.Json.{text_json}
use Rattle.cops_types.specs.Texts.{◌⧺◌}
use Rattle.cops_explain_json.specs.declared.object.Object.{Object}

-- a member of an object: its name and its value
abbrev pub Member : Type 0
Member = List ℕ × Data

-- the members, with this value under this name
unfoldable pub with_member : Members → List ℕ → Data → Members
with_member old name value = put name value old

-- the members, with these in turn
abbrev pub with_members : Members → List Member → Members
with_members old [] = old
with_members old (next ∷ more) = with_members (with_member old next.0 next.1) more

-- the members that an object has gained
abbrev pub members_in : Object → Members
members_in made = members_view made.members.entries

-- the object of these members
abbrev pub object_json : List Member → Data
object_json members = object (with_members no_members members)

abbrev pub list_json : List Data → Data
list_json items = array (items_of items)

-- bytes under a name, as a text; or, where they are no UTF-8, under the other name as hexadecimal digits
abbrev pub bytes_member : List ℕ → List ℕ → List ℕ → Member
bytes_member name hex_name bytes = if is_utf8 bytes then (name, text_json bytes) else (hex_name, text_json (encode_lower bytes))

-- the text of JSON, in a line of its own
abbrev pub line_text : Data → List ℕ
line_text json = compact_text json ⧺ codes "\n"
