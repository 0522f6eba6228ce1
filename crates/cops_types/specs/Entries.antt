-- Entries: operations as a history stores them, with numbers for their keys and, in some gets, the put in place of its value.
use Rattle.std.specs.Prelude.{◌≡◌, ◌≢◌, ◌↔◌, ◌<◌, ◌≤◌, ◌+◌, ◌⊎◌, ◌++◌, ◌∷◌, ℕ, List, [], length, map, Option, Some, None, option_copied, slice_get, slice_index_or, Bool, true, false, Contains, AllPairs}
use Rattle.cops_types.specs.declared.entry.Returned.{Returned}
use Rattle.cops_types.specs.declared.entry.StoredOp.{StoredOp}
use Rattle.cops_types.specs.declared.entry.StoredOp.TheVariants.{Put, Got, Sourced, Missed}
use Rattle.cops_types.specs.declared.entry.StoredOpRef.{StoredOpRef}
use Rattle.cops_types.specs.declared.entry.StoredOpRef.TheVariants.{Put as PutRef, Got as GotRef, Sourced as SourcedRef, Missed as MissedRef}
use Rattle.cops_types.specs.declared.op.OpName.{OpName}
use Rattle.cops_types.specs.declared.versioned_put.VersionedPut.{VersionedPut}
use Rattle.cops_types.specs.Lists.{item_at, number_at}
use Rattle.cops_types.specs.Histories.{Sessions, Operation, write, read, missed}

-- the entries of each client, in their order
abbrev pub EntryLists : Type 0
EntryLists = List (List StoredOp)

-- the entries; for each client whether there is room for its next one; the names of the puts in the order in which they were added; the gets stored
-- with what they returned, each at its number; for each entry its number among these gets, if it has one; and the room for further puts and such gets
pub record KeptEntries : Type 0 where
  pub all : EntryLists
  pub room : List Bool
  pub names : List OpName
  pub gets : List StoredOp
  pub get_numbers : List (List (Option ℕ))
  pub more_puts : ℕ
  pub more_gets : ℕ

-- the number of an entry's key
abbrev pub key_number_of : StoredOp → ℕ
key_number_of (Put key value version) = key
key_number_of (Got key value version) = key
key_number_of (Sourced key put version) = key
key_number_of (Missed key) = key

-- the content, if the entry is a put
abbrev pub value_in : Option StoredOp → Option (List ℕ)
value_in (Some (Put key value version)) = value
value_in _ = None

-- the content that the put of that name wrote
abbrev pub value_put : EntryLists → OpName → Option (List ℕ)
value_put all put = value_in (item_at all put)

-- the operation that an entry stands for
abbrev pub reported : List (List ℕ) → EntryLists → StoredOp → Operation
reported keys all (Put key value version) = write (slice_index_or keys key []) value version
reported keys all (Got key value version) = read (slice_index_or keys key []) value version
reported keys all (Sourced key put version) = read (slice_index_or keys key []) (value_put all put.name) version
reported keys all (Missed key) = missed (slice_index_or keys key [])

-- the operation of a get that returned this
abbrev pub returned : List (List ℕ) → Returned → Operation
returned keys got = read (slice_index_or keys got.key []) (option_copied got.value) got.version

-- the history that the entries stand for
abbrev pub reported_by : List (List ℕ) → EntryLists → Sessions
reported_by keys all = map (map (reported keys all)) all

-- the put that the entry names is there, with the entry's key and version
abbrev pub HasSource : EntryLists → StoredOp → Type 0
HasSource all (Sourced key put version) = item_at all put.name ≡ Some (Put key (value_put all put.name) version)
HasSource all _ = Unit {0}

-- the entry's key is there, and so is the put that it names, if it names one
pub record IsSound (keys : List (List ℕ)) (all : EntryLists) (entry : StoredOp) : Type 0 where
  pub key : key_number_of entry < length keys
  pub source : HasSource all entry

abbrev pub AreSound : List (List ℕ) → EntryLists → Type 0
AreSound keys all = (name : OpName) (entry : StoredOp) → item_at all name ≡ Some entry → IsSound keys all entry

-- the put that the entry names has the number in the entry
abbrev pub IsNumbered : List OpName → StoredOp → Type 0
IsNumbered names (Sourced key put version) = slice_get names put.number ≡ Some put.name
IsNumbered names _ = Unit {0}

-- the entry of that name is the put that a get returned
abbrev pub IsReturned : EntryLists → Returned → OpName → Type 0
IsReturned all got name = item_at all name ≡ Some (Put got.key (option_copied got.value) got.version)

-- the entry of that name is a get, which is stored with what it returned at that number
abbrev pub IsGetAt : KeptEntries → OpName → ℕ → Type 0
IsGetAt entries name n = (key version : ℕ) × (value : Option (List ℕ)) × (item_at entries.all name ≡ Some (Got key value version))
    × (slice_get entries.gets n ≡ Some (Got key value version))

-- each get that is stored with what it returned is at some number
abbrev pub HasGets : KeptEntries → Type 0
HasGets entries = (name : OpName) (key version : ℕ) (value : Option (List ℕ)) → item_at entries.all name ≡ Some (Got key value version)
    → (n : ℕ) × (slice_get entries.gets n ≡ Some (Got key value version))

-- the entry of that name is a get that names the put of that number
abbrev pub NamesPut : KeptEntries → OpName → ℕ → Type 0
NamesPut entries name n = (put : OpName) × (slice_get entries.names n ≡ Some put)
    × (key version : ℕ) × (item_at entries.all name ≡ Some (Sourced key (record { name = put; number = n }) version))

-- no client but this one loses room
abbrev pub KeepsOthersRoom : ℕ → List Bool → List Bool → Type 0
KeepsOthersRoom client old new = (c : ℕ) → c ≢ client → slice_index_or old c false ≡ true → slice_index_or new c false ≡ true

-- the entry that a reference borrows
abbrev pub referred : StoredOpRef → StoredOp
referred (PutRef key value version) = Put key (option_copied value) version.now
referred (GotRef key value version) = Got key (option_copied value) version.now
referred (SourcedRef key put value version) = Sourced key put version.now
referred (MissedRef key) = Missed key

-- the operation of a reference, given its key
abbrev pub with_key : List ℕ → StoredOpRef → Operation
with_key text (PutRef key value version) = write text (option_copied value) version.now
with_key text (GotRef key value version) = read text (option_copied value) version.now
with_key text (SourcedRef key put value version) = read text (option_copied value) version.now
with_key text (MissedRef key) = missed text

-- the reference has the value of the put that it names
abbrev pub HasValue : EntryLists → StoredOpRef → Type 0
HasValue all (SourcedRef key put value version) = option_copied value ≡ value_put all put.name
HasValue all _ = Unit {0}

-- making room changes no entry, and loses no room
pub record KeepsEntries (old new : KeptEntries) : Type 0 where
  pub all : new.all ≡ old.all
  pub names : new.names ≡ old.names
  pub gets : new.gets ≡ old.gets
  pub get_numbers : new.get_numbers ≡ old.get_numbers
  pub more_puts : old.more_puts ≤ new.more_puts
  pub more_gets : old.more_gets ≤ new.more_gets
  pub others : (client : ℕ) → slice_index_or old.room client false ≡ true → slice_index_or new.room client false ≡ true

-- the number of puts in an entry
abbrev pub puts_in : StoredOp → ℕ
puts_in (Put key value version) = 1
puts_in (Got key value version) = 0
puts_in (Sourced key put version) = 0
puts_in (Missed key) = 0

-- the entry was added, with a name if it is a put, and among the gets if it is stored with what it returned; it took at most one place of the room
-- for each
pub record GainsEntry (entry : StoredOp) (old new : KeptEntries) : Type 0 where
  pub names : length new.names ≡ length old.names + puts_in entry
  pub gets : (new.gets ≡ old.gets) ⊎ (new.gets ≡ old.gets ++ entry ∷ [])
  pub more_puts : old.more_puts ≤ new.more_puts + 1
  pub more_gets : old.more_gets ≤ new.more_gets + 1

-- each entry keeps its number, if it has one
abbrev pub KeepsNumbers : KeptEntries → KeptEntries → Type 0
KeepsNumbers old new = (name : OpName) (entry : StoredOp) → item_at old.all name ≡ Some entry → number_at new.get_numbers name ≡ number_at old.get_numbers name

-- all entries of puts by their names and versions, each once
pub record ListsEntries (all : EntryLists) (puts : List VersionedPut) : Type 0 where
  pub members : (p : VersionedPut) → Contains puts p ↔ ((key : ℕ) × (value : Option (List ℕ)) × (item_at all p.name ≡ Some (Put key value p.version)))
  pub once : AllPairs (λ p q. p.name ≢ q.name) puts
