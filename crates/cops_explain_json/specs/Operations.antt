-- Operations in JSON.
use Rattle.std.specs.Prelude.{ℕ, List, [], ◌∷◌, ◌++◌, codes, map, Option, Some, None, slice_index_or}
use Rattle.serde_json.specs.Data.{Data, null}
use Rattle.cops_json.specs.Json.{number_json, text_json}
use Rattle.cops_types.specs.declared.op.OpName.{OpName}
use Rattle.cops_types.specs.Histories.{Operation, write, read, missed, op_at}
use Rattle.cops_types.specs.Texts.{version_text}
use Rattle.cops_explain.specs.LineNames.{ALineNames}
use Rattle.cops_explain.specs.Naming.{ANamedHistory}
use Rattle.cops_explain.specs.declared.naming.NamedHistory.{NamedHistory}
use Rattle.cops_explain.specs.declared.naming.Naming.{Naming}
use Rattle.cops_explain.specs.declared.naming.Naming.TheVariants.{Trace, Lines}
use Rattle.cops_explain_json.specs.Objects.{Member, bytes_member, list_json, object_json}

-- the borrowed history, with its naming
abbrev pub seen : NamedHistory → ANamedHistory
seen named = record { sessions = named.history.now.sessions; naming = named.naming.now }

-- the name of an operation's client in a recorder's lines
abbrev pub client_name : ALineNames → OpName → List ℕ
client_name names op = slice_index_or names.names op.client []

-- the number of an operation's line
abbrev pub line_number : ALineNames → OpName → ℕ
line_number names op = slice_index_or (slice_index_or names.lines op.client []) op.index 0

-- what a recorder's lines call an operation
abbrev pub line_members : Naming → OpName → List Member
line_members Trace op = []
line_members (Lines names) op =
    bytes_member (codes "name") (codes "name_hex") (client_name names op) ∷ (codes "line", number_json (line_number names op)) ∷ []

-- an operation's client and index, and what a recorder's lines call it
abbrev pub name_members : Naming → OpName → List Member
name_members naming op = (codes "client", number_json op.client) ∷ (codes "index", number_json op.index) ∷ line_members naming op

abbrev pub value_member : Option (List ℕ) → Member
value_member (Some value) = bytes_member (codes "value") (codes "value_hex") value
value_member None = (codes "value", null)

abbrev pub version_json : ℕ → Data
version_json version = text_json (version_text version)

-- put, del or get; the key; the value, if there is one; and the version
abbrev pub act_members : List ℕ → List ℕ → Option (List ℕ) → Data → List Member
act_members word key value version =
    (codes "operation", text_json word) ∷ bytes_member (codes "key") (codes "key_hex") key ∷ value_member value ∷ (codes "version", version) ∷ []

-- what an operation did
abbrev pub did_members : Option Operation → List Member
did_members (Some (write key (Some value) version)) = act_members (codes "put") key (Some value) (version_json version)
did_members (Some (write key None version)) = act_members (codes "del") key None (version_json version)
did_members (Some (read key value version)) = act_members (codes "get") key value (version_json version)
did_members (Some (missed key)) = act_members (codes "get") key None null
did_members None = []

-- what an operation is called, and what it did
abbrev pub operation_members : ANamedHistory → OpName → List Member
operation_members named op = name_members named.naming op ++ did_members (op_at named.sessions op)

abbrev pub operation_json : ANamedHistory → OpName → Data
operation_json named op = object_json (operation_members named op)

abbrev pub operations_json : ANamedHistory → List OpName → Data
operations_json named ops = list_json (map (operation_json named) ops)
