-- Fields as they are shown.
use Rattle.std.specs.Prelude.{ℕ, List, [], ◌∷◌, codes, decimal}
use Rattle.cops_types.specs.Texts.{◌⧺◌, version_text}
use Rattle.cops_wire.specs.declared.field.FieldRef.{FieldRef}
use Rattle.cops_wire.specs.declared.field.FieldRef.TheVariants.{U8, U16, U32, U64, Key, Value, Version, Deps}
use Rattle.cops_wire.specs.declared.showing.Named.{Named}
use Rattle.cops_wire.specs.Shown.{bytes_text, deps_text}

abbrev pub field_text : FieldRef → List ℕ
field_text (U8 n) = decimal n.now
field_text (U16 n) = decimal n.now
field_text (U32 n) = decimal n.now
field_text (U64 n) = decimal n.now
field_text (Key k) = bytes_text k.now
field_text (Value v) = bytes_text v.now
field_text (Version v) = version_text v.now
field_text (Deps d) = deps_text d.now

-- a field with its name
abbrev pub named_text : Named → List ℕ
named_text f = codes " " ⧺ f.name.now ⧺ codes "=" ⧺ field_text f.field

-- fields in a row
abbrev pub fields_text : List Named → List ℕ
fields_text [] = []
fields_text (f ∷ []) = named_text f
fields_text (f ∷ g ∷ fs) = named_text f ⧺ fields_text (g ∷ fs)
