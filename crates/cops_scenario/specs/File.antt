-- The JSON of each part of a scenario.
use Rattle.std.specs.Prelude.{◌≡◌, ◌≢◌, ◌≤◌, ◌⊎◌, ℕ, List, [], ◌∷◌, length, map, codes, All, Option, None, Some, IfSome, IsUtf8}
use Rattle.serde_json.specs.Data.{Data, array, object, member, no_members}
use Rattle.serde_json.specs.Read.{read}
use Rattle.serde_json.specs.View.{items_of}
use Rattle.serde_json.specs.Find.{get, as_object}
use Rattle.cops_types.specs.Format.{number_of}
use Rattle.cops_types.specs.Texts.{version_text}
use Rattle.cops_json.specs.Json.{number_json, text_json}
use Rattle.cops_core.specs.declared.event.Event.{Event}
use Rattle.cops_core.specs.declared.event.Event.TheVariants.{Put, Del, Get, Deliver, Ask, Mark, Settle}
use Rattle.cops_scenario.specs.declared.fault.Field.{Field}
use Rattle.cops_scenario.specs.declared.fault.Field.TheVariants.{Root, Format as FormatField, DataCentres, Splits, Link, Turns, Retries, Repeat, Hold, Clients, Events}
use Rattle.cops_scenario.specs.declared.script.ScriptOp.{ScriptOp}
use Rattle.cops_scenario.specs.declared.script.ScriptOp.TheVariants as script
use Rattle.cops_scenario.specs.declared.script.ScriptedClient.{ScriptedClient}
use Rattle.cops_scenario.specs.declared.scenario.TheConstants.{MAX_CLIENTS}
use Rattle.cops_scenario.specs.Scenario.{AScenario}
use Rattle.cops_scenario.specs.Fields.{format_at, name_of, number_at, range_of}
use Rattle.cops_scenario.specs.Limits.{AreSplits, IsLegalClient, IsLegalScenario, AreLegalEvents}

abbrev pub list_json : List Data → Data
list_json items = array (items_of items)

-- an object of one member
abbrev pub one_json : List ℕ → Data → Data
one_json name of = object (member name of no_members)

-- the name of an event's kind
abbrev pub kind_of : Event → List ℕ
kind_of (Put client key value) = codes "put"
kind_of (Del client key) = codes "del"
kind_of (Get client key) = codes "get"
kind_of (Deliver dc version) = codes "deliver"
kind_of (Ask dc key version) = codes "ask"
kind_of (Mark dc version dep) = codes "mark"
kind_of (Settle dc version) = codes "settle"

-- an event's numbers, key, value and version
abbrev pub parts_of : Event → List Data
parts_of (Put client key value) = number_json client ∷ text_json key ∷ text_json value ∷ []
parts_of (Del client key) = number_json client ∷ text_json key ∷ []
parts_of (Get client key) = number_json client ∷ text_json key ∷ []
parts_of (Deliver dc version) = number_json dc ∷ text_json (version_text version) ∷ []
parts_of (Ask dc key version) = number_json dc ∷ text_json key ∷ text_json (version_text version) ∷ []
parts_of (Mark dc version dep) = number_json dc ∷ text_json (version_text version) ∷ number_json dep ∷ []
parts_of (Settle dc version) = number_json dc ∷ text_json (version_text version) ∷ []

abbrev pub event_json : Event → Data
event_json e = one_json (kind_of e) (list_json (parts_of e))

abbrev pub op_json : ScriptOp → Data
op_json (script.Put key value) = one_json (codes "put") (list_json (text_json key ∷ text_json value ∷ []))
op_json (script.Del key) = one_json (codes "del") (text_json key)
op_json (script.Get key) = one_json (codes "get") (text_json key)

-- the list of these items, which may be missing if there are none
abbrev pub IsListOrMissing : List Data → Option Data → Type 0
IsListOrMissing items None = items ≡ []
IsListOrMissing items (Some d) = d ≡ list_json items

-- the whole number of a member, or the default if there is no member
abbrev pub GivesNumber : Option ℕ → Option Data → ℕ → Type 0
GivesNumber None d n = d ≡ Some (number_json n)
GivesNumber (Some missing) None n = n ≡ missing
GivesNumber (Some missing) (Some d) n = d ≡ number_json n

-- the whole number of a field
abbrev pub GivesNumberAt : Data → Field → ℕ → Type 0
GivesNumberAt root field n = IfSome (range_of field) (λ range. GivesNumber range.missing (get (name_of field) root) n)

-- the whole numbers of a scenario
abbrev pub GivesNumbers : Data → AScenario → Type 0
GivesNumbers root s =
    GivesNumberAt root FormatField (number_of s.format) × GivesNumberAt root DataCentres s.place.dcs × GivesNumberAt root Link s.link × GivesNumberAt root Turns s.turns × GivesNumberAt root Retries s.retries
    × GivesNumberAt root Repeat s.repeat × GivesNumberAt root Hold s.hold

-- an object with the client's data centre and its script
pub record GivesClient (d : Data) (c : ScriptedClient) : Type 0 where
  pub at : get (codes "at") d ≡ Some (number_json c.at)
  pub script : IsListOrMissing (map op_json c.script.items) (get (codes "script") d)

-- one for each client, in order
abbrev pub GiveClients : List Data → List ScriptedClient → Type 0
GiveClients [] [] = Unit {0}
GiveClients (d ∷ ds) (c ∷ cs) = GivesClient d c × GiveClients ds cs
GiveClients [] (c ∷ cs) = ⊥
GiveClients (d ∷ ds) [] = ⊥

-- the events of a list, or none if it is missing
abbrev pub GivesEvents : Option Data → Option (List Event) → Type 0
GivesEvents None events = events ≡ None
GivesEvents (Some d) None = ⊥
GivesEvents (Some d) (Some events) = d ≡ list_json (map event_json events)

-- if there are events, no client has a script, not even an empty one
abbrev pub AreUnscripted : List Data → Option (List Event) → Type 0
AreUnscripted ds None = Unit {0}
AreUnscripted ds (Some events) = All (λ d. get (codes "script") d ≡ None) ds

-- the file's root has all parts of the scenario
pub record GivesScenario (root : Data) (s : AScenario) : Type 0 where
  pub numbers : GivesNumbers root s
  pub splits : IsListOrMissing (map text_json s.place.splits) (get (name_of Splits) root)
  pub clients : (ds : List Data) × (get (name_of Clients) root ≡ Some (list_json ds)) × GiveClients ds s.clients × AreUnscripted ds s.events
  pub events : GivesEvents (get (name_of Events) root) s.events

-- no whole number from the least to the most
abbrev pub IsNoNumber : ℕ → ℕ → Option Data → Type 0
IsNoNumber least most d = (n : ℕ) → least ≤ n → n ≤ most → d ≢ Some (number_json n)

-- no whole number of a range; if the field may be missing, it is there
abbrev pub IsNoNumberOf : Option ℕ → ℕ → ℕ → Option Data → Type 0
IsNoNumberOf None least most d = IsNoNumber least most d
IsNoNumberOf (Some missing) least most d = (d ≢ None) × IsNoNumber least most d

-- the field is no whole number of its range
abbrev pub IsWrongNumber : Data → Field → Type 0
IsWrongNumber root field = IfSome (range_of field) (λ range. IsNoNumberOf range.missing range.least range.most (get (name_of field) root))

-- the field has no split keys within their limits
abbrev pub GivesNoSplits : Data → Type 0
GivesNoSplits root = (splits : List (List ℕ)) → AreSplits splits → IsListOrMissing (map text_json splits) (get (name_of Splits) root) → ⊥

-- the field has no clients within their limits, at most 64
abbrev pub GivesNoClients : Data → Type 0
GivesNoClients root = (ds : List Data) (clients : List ScriptedClient) → get (name_of Clients) root ≡ Some (list_json ds) → GiveClients ds clients
    → length clients ≤ MAX_CLIENTS → All (IsLegalClient (format_at root) (number_at root DataCentres)) clients → ⊥

-- the field has no events within their limits that go with clients without scripts
abbrev pub GivesNoEvents : Data → Type 0
GivesNoEvents root = (ds : List Data) (events : Option (List Event)) → get (name_of Clients) root ≡ Some (list_json ds) → GivesEvents (get (name_of Events) root) events
    → AreLegalEvents (format_at root) events → AreUnscripted ds events → ⊥

-- the field is wrong: it is missing without a default, or has nothing that is legal there
abbrev pub IsWrong : Data → Field → Type 0
IsWrong root Root = as_object root ≡ None
IsWrong root FormatField = IsWrongNumber root FormatField
IsWrong root DataCentres = IsWrongNumber root DataCentres
IsWrong root Splits = GivesNoSplits root
IsWrong root Link = IsWrongNumber root Link
IsWrong root Turns = IsWrongNumber root Turns
IsWrong root Retries = IsWrongNumber root Retries
IsWrong root Repeat = IsWrongNumber root Repeat
IsWrong root Hold = IsWrongNumber root Hold
IsWrong root Clients = GivesNoClients root
IsWrong root Events = GivesNoEvents root

-- a whole number from the least to the most
abbrev pub IsNumber : ℕ → ℕ → Option Data → Type 0
IsNumber least most d = (n : ℕ) × (least ≤ n) × (n ≤ most) × (d ≡ Some (number_json n))

-- a whole number of a range, or missing if it may be
abbrev pub IsNumberOf : Option ℕ → ℕ → ℕ → Option Data → Type 0
IsNumberOf None least most d = IsNumber least most d
IsNumberOf (Some missing) least most d = (d ≡ None) ⊎ IsNumber least most d

-- the field is a whole number of its range
abbrev pub IsRightNumber : Data → Field → Type 0
IsRightNumber root field = IfSome (range_of field) (λ range. IsNumberOf range.missing range.least range.most (get (name_of field) root))

-- a file's field has the right form and is within its limits
abbrev pub IsRight : Data → Field → Type 0
IsRight root Root = as_object root ≢ None
IsRight root FormatField = IsRightNumber root FormatField
IsRight root DataCentres = IsRightNumber root DataCentres
IsRight root Splits = (splits : List (List ℕ)) × AreSplits splits × IsListOrMissing (map text_json splits) (get (name_of Splits) root)
IsRight root Link = IsRightNumber root Link
IsRight root Turns = IsRightNumber root Turns
IsRight root Retries = IsRightNumber root Retries
IsRight root Repeat = IsRightNumber root Repeat
IsRight root Hold = IsRightNumber root Hold
IsRight root Clients =
    (ds : List Data) × (clients : List ScriptedClient) × (get (name_of Clients) root ≡ Some (list_json ds)) × GiveClients ds clients
    × (length clients ≤ MAX_CLIENTS) × All (IsLegalClient (format_at root) (number_at root DataCentres)) clients
IsRight root Events = (events : Option (List Event)) × GivesEvents (get (name_of Events) root) events × AreLegalEvents (format_at root) events

-- the fields that are checked before a field
abbrev pub before : Field → List Field
before Root = []
before FormatField = Root ∷ []
before DataCentres = FormatField ∷ Root ∷ []
before Splits = DataCentres ∷ FormatField ∷ Root ∷ []
before Link = Splits ∷ DataCentres ∷ FormatField ∷ Root ∷ []
before Turns = Link ∷ Splits ∷ DataCentres ∷ FormatField ∷ Root ∷ []
before Retries = Turns ∷ Link ∷ Splits ∷ DataCentres ∷ FormatField ∷ Root ∷ []
before Repeat = Retries ∷ Turns ∷ Link ∷ Splits ∷ DataCentres ∷ FormatField ∷ Root ∷ []
before Hold = Repeat ∷ Retries ∷ Turns ∷ Link ∷ Splits ∷ DataCentres ∷ FormatField ∷ Root ∷ []
before Clients = Hold ∷ Repeat ∷ Retries ∷ Turns ∷ Link ∷ Splits ∷ DataCentres ∷ FormatField ∷ Root ∷ []
before Events = Clients ∷ Hold ∷ Repeat ∷ Retries ∷ Turns ∷ Link ∷ Splits ∷ DataCentres ∷ FormatField ∷ Root ∷ []

-- the fields before a field are right
abbrev pub AreRightBefore : Data → Field → Type 0
AreRightBefore root field = All (IsRight root) (before field)

-- the bytes are a JSON text of this scenario, which is within its limits
abbrev pub IsTextOf : List ℕ → AScenario → Type 0
IsTextOf bytes s =
    (root : Data) × IsUtf8 bytes × (read bytes ≡ Some root) × GivesScenario root s × IsLegalScenario s

-- the bytes are no JSON text
abbrev pub IsNoText : List ℕ → Type 0
IsNoText bytes = IsUtf8 bytes → read bytes ≡ None

-- the bytes are a JSON text in which the field is wrong, and no field before it
abbrev pub IsWrongText : List ℕ → Field → Type 0
IsWrongText bytes field = (root : Data) × IsUtf8 bytes × (read bytes ≡ Some root) × IsWrong root field × AreRightBefore root field

-- the bytes are no scenario: they are not JSON, or a field is wrong
abbrev pub IsNoScenario : List ℕ → Type 0
IsNoScenario bytes = IsNoText bytes ⊎ ((field : Field) × IsWrongText bytes field)
