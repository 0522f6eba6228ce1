-- The operation of a line.
use Rattle.std.specs.Prelude.{◌≡◌, ◌≢◌, ◌⊎◌, ◌==◌, ◌||◌, ℕ, Bool, true, false, List, codes, decimal, Option, None, Some, IsUtf8}
use Rattle.std.specs.List.{AllPass, Contains, list_all}
use Rattle.serde_json.specs.Data.{Data, null, array, item, no_items}
use Rattle.serde_json.specs.Read.{read}
use Rattle.serde_json.specs.Find.{get}
use Rattle.cops_json.specs.Json.{number_json, text_json}
use Rattle.cops_types.specs.KeyValue.{IsKey}
use Rattle.cops_types.specs.Format.{Fits}
use Rattle.cops_types.specs.declared.format.Format.{Format}
use Rattle.cops_types.specs.declared.format.Format.TheVariants.{One}
use Rattle.cops_types.specs.Version.{IsVersion, clock_of, node_of}
use Rattle.cops_types.specs.Texts.{version_text}
use Rattle.cops_types.specs.declared.op.Op.{Op}
use Rattle.cops_types.specs.declared.op.Op.TheVariants as op
use Rattle.cops_import.specs.declared.fault.JsonLineFault.{JsonLineFault}
use Rattle.cops_import.specs.declared.fault.JsonLineFault.TheVariants.{NoJson, NoClient, NoOperation, BothOperations, BadKey, BadValue, BadVersion, NeedsFormat2}
use Rattle.cops_import.specs.declared.line.Kind.{Kind}
use Rattle.cops_import.specs.declared.line.Kind.TheVariants.{Put, Get, Del, MaybePut, MaybeDel}
use Rattle.cops_import.specs.declared.reported.Reported.{Reported}
use Rattle.cops_import.specs.declared.reported.Reported.TheVariants.{Known, Unknown}
use Rattle.cops_outcomes.specs.declared.write.Write.{Write}
use Rattle.cops_import.specs.declared.rules.Rules.{Rules}
use Rattle.cops_import.specs.declared.rules.Versions.{Versions}
use Rattle.cops_import.specs.declared.rules.Versions.TheVariants.{Plain, Ranked}
use Rattle.cops_import.specs.Stores.{AStoreVersion, store_json, IsIncreasing, IsOfKind, IsRankOf}

-- ---- a line's bytes

-- a space, a tab or a carriage return
abbrev pub is_blank_byte : ℕ → Bool
is_blank_byte b = b == 32 || b == 9 || b == 13

-- the line has nothing but blank bytes
abbrev pub IsBlank : List ℕ → Type 0
IsBlank line = AllPass is_blank_byte line

-- whether it has nothing else
abbrev pub is_blank_line : List ℕ → Bool
is_blank_line line = list_all is_blank_byte line

-- the line is a JSON text of this value
abbrev pub IsJson : List ℕ → Data → Type 0
IsJson line d = IsUtf8 line × (read line ≡ Some d)

-- ---- the members of its object

abbrev pub pair_json : ℕ → ℕ → Data
pair_json a b = array (item (number_json a) (item (number_json b) no_items))

-- a client's name: a text, or a whole number, whose decimal digits are the name
abbrev pub IsNameJson : List ℕ → Data → Type 0
IsNameJson name d = (d ≡ text_json name) ⊎ ((n : ℕ) × (d ≡ number_json n) × (name ≡ decimal n))

abbrev pub GivesName : Data → List ℕ → Type 0
GivesName d name = (at : Data) × (get (codes "client") d ≡ Some at) × IsNameJson name at

-- the outcome of the object's put or deletion is unknown
abbrev pub IsUnknown : Data → Type 0
IsUnknown d = get (codes "ok") d ≡ Some null

-- the object has one operation, of this kind, and this is the value that holds its key
abbrev pub IsAsked : Data → Kind → Data → Type 0
IsAsked d Put at = (get (codes "put") d ≡ Some at) × (get (codes "get") d ≡ None) × (get (codes "del") d ≡ None) × (IsUnknown d → ⊥)
IsAsked d MaybePut at = (get (codes "put") d ≡ Some at) × (get (codes "get") d ≡ None) × (get (codes "del") d ≡ None) × IsUnknown d
IsAsked d Get at = (get (codes "put") d ≡ None) × (get (codes "get") d ≡ Some at) × (get (codes "del") d ≡ None)
IsAsked d Del at = (get (codes "put") d ≡ None) × (get (codes "get") d ≡ None) × (get (codes "del") d ≡ Some at) × (IsUnknown d → ⊥)
IsAsked d MaybeDel at = (get (codes "put") d ≡ None) × (get (codes "get") d ≡ None) × (get (codes "del") d ≡ Some at) × IsUnknown d

-- `IsAsked` with a legal key
abbrev pub AsksKey : Data → Kind → List ℕ → Type 0
AsksKey d kind key = IsAsked d kind (text_json key) × IsKey key

abbrev pub GivesValue : Format → Data → List ℕ → Type 0
GivesValue format d value = (get (codes "value") d ≡ Some (text_json value)) × Fits format (Some value)

-- a version: the text of its clock and node, its clock alone where its node is 0, or both numbers
abbrev pub IsVersionJson : ℕ → Data → Type 0
IsVersionJson v d =
    (d ≡ text_json (version_text v)) ⊎ ((d ≡ number_json (clock_of v)) × (node_of v ≡ 0)) ⊎ (d ≡ pair_json (clock_of v) (node_of v))

-- the version of a trace for the JSON of a version, as versions are read
abbrev pub IsVersionOf : Versions → ℕ → Data → Type 0
IsVersionOf Plain v d = IsVersionJson v d
IsVersionOf (Ranked all) v d = (of : AStoreVersion) × (d ≡ store_json of) × IsRankOf all of v

abbrev pub GivesVersion : Versions → Data → ℕ → Type 0
GivesVersion versions d v = (at : Data) × (get (codes "version") d ≡ Some at) × IsVersionOf versions v at × IsVersion v

-- the versions of the store are in order, as those of each `Ranks` are
abbrev pub IsOrdered : Versions → Type 0
IsOrdered Plain = Unit {0}
IsOrdered (Ranked all) = IsIncreasing all

-- versions are read by their ranks if that is asked for, and otherwise as they stand
abbrev pub AreRead : Bool → Versions → Type 0
AreRead false Plain = Unit {0}
AreRead true (Ranked all) = IsIncreasing all
AreRead _ _ = ⊥

-- no member, or null
abbrev pub IsNothing : Option Data → Type 0
IsNothing at = (at ≡ None) ⊎ (at ≡ Some null)

-- the value is null, and there is no version: a get found nothing
abbrev pub FoundNothing : Data → Type 0
FoundNothing d = (get (codes "value") d ≡ Some null) × IsNothing (get (codes "version") d)

-- the value is null, and there is a version: a get found a deletion
abbrev pub FoundDeletion : Data → Type 0
FoundDeletion d = (get (codes "value") d ≡ Some null) × (IsNothing (get (codes "version") d) → ⊥)

-- what an operation of this kind put or got: a value, or none where it is a deletion or a get that found one
abbrev pub GivesContent : Format → Data → Kind → Option (List ℕ) → Type 0
GivesContent format d Put (Some value) = GivesValue format d value
GivesContent format d MaybePut (Some value) = GivesValue format d value
GivesContent format d Get (Some value) = GivesValue format d value
GivesContent format d Get None = FoundDeletion d
GivesContent format d Del None = IsNothing (get (codes "value") d)
GivesContent format d MaybeDel None = IsNothing (get (codes "value") d)
GivesContent format d _ _ = ⊥

-- ---- the operation

abbrev pub GivesOp : Rules → Data → Op → Type 0
GivesOp rules d (op.Put key value version) = AsksKey d Put key × GivesContent rules.format d Put (Some value) × GivesVersion rules.versions d version
GivesOp rules d (op.Del key version) =
    AsksKey d Del key × GivesContent rules.format d Del None × GivesVersion rules.versions d version × Fits rules.format None
GivesOp rules d (op.Got key value version) = AsksKey d Get key × GivesContent rules.format d Get (Some value) × GivesVersion rules.versions d version
GivesOp rules d (op.Gone key version) =
    AsksKey d Get key × GivesContent rules.format d Get None × GivesVersion rules.versions d version × Fits rules.format None
GivesOp rules d (op.Missed key) = AsksKey d Get key × FoundNothing d

-- the kind of a put of unknown outcome, which is a deletion if it has no content
abbrev pub maybe_kind : Option (List ℕ) → Kind
maybe_kind (Some value) = MaybePut
maybe_kind None = MaybeDel

-- what a put or a deletion of unknown outcome writes: it has no version
abbrev pub GivesWrite : Rules → Data → Write → Type 0
GivesWrite rules d w =
    AsksKey d (maybe_kind w.content) w.key × GivesContent rules.format d (maybe_kind w.content) w.content
    × IsNothing (get (codes "version") d) × Fits rules.format w.content

-- the object, of the line of this number, has this client's name and this operation
abbrev pub Gives : Rules → ℕ → Data → Reported → Type 0
Gives rules number d (Known reported) = GivesName d reported.name × GivesOp rules d reported.op
Gives rules number d (Unknown put) = GivesName d put.name × GivesWrite rules d put.write × (put.line ≡ number)

-- the line is the JSON text of such an object
abbrev pub TextGives : Rules → ℕ → List ℕ → Reported → Type 0
TextGives rules number line reported = (d : Data) × IsJson line d × Gives rules number d reported

-- a blank line has no operation, and any other line has that of its object
abbrev pub LineGives : Rules → ℕ → List ℕ → Option Reported → Type 0
LineGives rules number line None = IsBlank line
LineGives rules number line (Some reported) = (IsBlank line → ⊥) × TextGives rules number line reported

-- ---- what is wrong with a line

abbrev pub HasName : Data → Type 0
HasName d = (name : List ℕ) × GivesName d name

-- more than one of the three members
abbrev pub HasSeveral : Data → Type 0
HasSeveral d =
    ((get (codes "put") d ≢ None) × (get (codes "get") d ≢ None)) ⊎ ((get (codes "put") d ≢ None) × (get (codes "del") d ≢ None))
    ⊎ ((get (codes "get") d ≢ None) × (get (codes "del") d ≢ None))

abbrev pub HasNoContent : Format → Data → Kind → Type 0
HasNoContent format d kind = (content : Option (List ℕ)) → GivesContent format d kind content → ⊥

-- the value is wrong, and the operation is no get that found nothing
abbrev pub LacksValue : Format → Data → Kind → Type 0
LacksValue format d kind = HasNoContent format d kind × (kind ≡ Get → FoundNothing d → ⊥)

-- the JSON of a version has the right form: that of a version, or of a version of the store's kind
abbrev pub HasForm : Versions → Data → Type 0
HasForm Plain d = (v : ℕ) × IsVersionJson v d × IsVersion v
HasForm (Ranked all) d = (of : AStoreVersion) × (d ≡ store_json of) × IsOfKind all of

abbrev pub HasNoVersion : Versions → Data → Type 0
HasNoVersion versions d = (at : Data) → get (codes "version") d ≡ Some at → HasForm versions at → ⊥

-- the version is missing or wrong, which any content needs, or it is there though the outcome is unknown
abbrev pub HasWrongVersion : Versions → Data → Kind → Type 0
HasWrongVersion versions d MaybePut = IsNothing (get (codes "version") d) → ⊥
HasWrongVersion versions d MaybeDel = IsNothing (get (codes "version") d) → ⊥
HasWrongVersion versions d _ = HasNoVersion versions d

-- the version is right
abbrev pub HasRightVersion : Versions → Data → Kind → Type 0
HasRightVersion versions d MaybePut = IsNothing (get (codes "version") d)
HasRightVersion versions d MaybeDel = IsNothing (get (codes "version") d)
HasRightVersion versions d _ = (version : ℕ) × GivesVersion versions d version

-- the content is right, and the version is not
abbrev pub LacksVersion : Rules → Data → Kind → Type 0
LacksVersion rules d kind = (content : Option (List ℕ)) × GivesContent rules.format d kind content × HasWrongVersion rules.versions d kind

-- the operation is a deletion or a get that found one, which format 1 does not have
abbrev pub LacksFormat : Rules → Data → Kind → Type 0
LacksFormat rules d kind = GivesContent rules.format d kind None × HasRightVersion rules.versions d kind × (rules.format ≡ One)

-- what is wrong with an object whose members checked before are right
abbrev pub IsWrong : Rules → Data → JsonLineFault → Type 0
IsWrong rules d NoClient = (name : List ℕ) → GivesName d name → ⊥
IsWrong rules d NoOperation = HasName d × (get (codes "put") d ≡ None) × (get (codes "get") d ≡ None) × (get (codes "del") d ≡ None)
IsWrong rules d BothOperations = HasName d × HasSeveral d
IsWrong rules d BadKey = HasName d × ((kind : Kind) × (at : Data) × IsAsked d kind at × ((key : List ℕ) → IsKey key → at ≢ text_json key))
IsWrong rules d BadValue = HasName d × ((kind : Kind) × (key : List ℕ) × AsksKey d kind key × LacksValue rules.format d kind)
IsWrong rules d BadVersion = HasName d × ((kind : Kind) × (key : List ℕ) × AsksKey d kind key × LacksVersion rules d kind)
IsWrong rules d NeedsFormat2 = HasName d × ((kind : Kind) × (key : List ℕ) × AsksKey d kind key × LacksFormat rules d kind)
IsWrong rules d _ = ⊥

-- what is wrong with a line that is not blank
abbrev pub IsWrongIn : Rules → List ℕ → JsonLineFault → Type 0
IsWrongIn rules line NoJson = (d : Data) → IsJson line d → ⊥
IsWrongIn rules line fault = (d : Data) × IsJson line d × IsWrong rules d fault

abbrev pub IsFaulty : Rules → List ℕ → JsonLineFault → Type 0
IsFaulty rules line fault = (IsBlank line → ⊥) × IsWrongIn rules line fault

-- ---- a version that has no rank

-- the JSON of a version of the store's kind that is not among those with ranks
abbrev pub IsUnrankedJson : Versions → Data → Type 0
IsUnrankedJson Plain d = ⊥
IsUnrankedJson (Ranked all) d = (of : AStoreVersion) × (d ≡ store_json of) × IsOfKind all of × (Contains all of → ⊥)

abbrev pub IsUnranked : Versions → Data → Type 0
IsUnranked versions d = (at : Data) × (get (codes "version") d ≡ Some at) × IsUnrankedJson versions at

-- the object's operation has such a version, and the members checked before are right
abbrev pub LacksRank : Rules → Data → Type 0
LacksRank rules d =
    HasName d × ((kind : Kind) × (key : List ℕ) × AsksKey d kind key
    × ((content : Option (List ℕ)) × GivesContent rules.format d kind content × IsUnranked rules.versions d))

abbrev pub TextLacksRank : Rules → List ℕ → Type 0
TextLacksRank rules line = (d : Data) × IsJson line d × LacksRank rules d

abbrev pub LineLacksRank : Rules → List ℕ → Type 0
LineLacksRank rules line = (IsBlank line → ⊥) × TextLacksRank rules line
