-- What an object says that was done, given its operation's kind and the value that holds its key.
use Rattle.std.specs.Prelude.{◌≡◌, ◌≢◌, ℕ, List, Option, None, Some, codes}
use Rattle.serde_json.specs.Data.{Data}
use Rattle.serde_json.specs.Find.{get}
use Rattle.cops_types.specs.Format.{Fits}
use Rattle.cops_types.specs.KeyValue.{IsKey}
use Rattle.cops_types.specs.declared.op.Op.{Op}
use Rattle.cops_types.specs.declared.op.Op.TheVariants as op
use Rattle.cops_import.specs.declared.fault.JsonLineFault.{JsonLineFault}
use Rattle.cops_import.specs.declared.fault.JsonLineFault.TheVariants.{BadKey, BadValue, BadVersion, NeedsFormat2}
use Rattle.cops_import.specs.declared.line.Kind.{Kind}
use Rattle.cops_import.specs.declared.line.Kind.TheVariants.{Put, Get, Del}
use Rattle.cops_import.specs.declared.line.Action.{Action}
use Rattle.cops_import.specs.declared.line.Action.TheVariants as action
use Rattle.cops_outcomes.specs.declared.write.Write.{Write}
use Rattle.cops_import.specs.declared.rules.Rules.{Rules}
use Rattle.cops_json.specs.Json.{text_json}
use Rattle.cops_import.specs.Line.{FoundNothing, IsNothing, maybe_kind, LacksFormat, LacksValue, LacksVersion, GivesContent, GivesVersion, IsUnranked}

abbrev pub IsKeyJson : Data → List ℕ → Type 0
IsKeyJson at key = (at ≡ text_json key) × IsKey key

-- the operation of an object whose operation has this kind, and its key in `at`
abbrev pub GivesKind : Rules → Data → Kind → Data → Op → Type 0
GivesKind rules d Put at (op.Put key value version) = IsKeyJson at key × GivesContent rules.format d Put (Some value) × GivesVersion rules.versions d version
GivesKind rules d Del at (op.Del key version) = IsKeyJson at key × GivesContent rules.format d Del None × GivesVersion rules.versions d version × Fits rules.format None
GivesKind rules d Get at (op.Got key value version) = IsKeyJson at key × GivesContent rules.format d Get (Some value) × GivesVersion rules.versions d version
GivesKind rules d Get at (op.Gone key version) = IsKeyJson at key × GivesContent rules.format d Get None × GivesVersion rules.versions d version × Fits rules.format None
GivesKind rules d Get at (op.Missed key) = IsKeyJson at key × FoundNothing d
GivesKind rules d _ at _ = ⊥

-- what a put or a deletion of unknown outcome writes, whose operation has this kind, and its key in `at`
abbrev pub WritesKind : Rules → Data → Kind → Data → Write → Type 0
WritesKind rules d kind at w =
    (kind ≡ maybe_kind w.content) × IsKeyJson at w.key × GivesContent rules.format d kind w.content × IsNothing (get (codes "version") d) × Fits rules.format w.content

-- what such an object says that was done
abbrev pub ActsKind : Rules → Data → Kind → Data → Action → Type 0
ActsKind rules d kind at (action.Op o) = GivesKind rules d kind at o
ActsKind rules d kind at (action.Write w) = WritesKind rules d kind at w

-- what is wrong with such an object
abbrev pub IsWrongOf : Rules → Data → Kind → Data → JsonLineFault → Type 0
IsWrongOf rules d kind at BadKey = (key : List ℕ) → IsKey key → at ≢ text_json key
IsWrongOf rules d kind at BadValue = (key : List ℕ) × IsKeyJson at key × LacksValue rules.format d kind
IsWrongOf rules d kind at BadVersion = (key : List ℕ) × IsKeyJson at key × LacksVersion rules d kind
IsWrongOf rules d kind at NeedsFormat2 = (key : List ℕ) × IsKeyJson at key × LacksFormat rules d kind
IsWrongOf rules d kind at _ = ⊥

-- its version has no rank
abbrev pub IsUnrankedOf : Rules → Data → Kind → Data → Type 0
IsUnrankedOf rules d kind at =
    (key : List ℕ) × IsKeyJson at key × ((content : Option (List ℕ)) × GivesContent rules.format d kind content × IsUnranked rules.versions d)
