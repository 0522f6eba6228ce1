-- Slots: the operations in a session, as numbers that refer to lists of puts and of gets.
use Rattle.std.specs.Prelude.{◌≡◌, ◌<◌, ◌++◌, ◌∷◌, [], ℕ, List, length, map, Bool, true, false, Option, Some, None, option_copied, slice_get, slice_index_or}
use Rattle.cops_types.specs.declared.entry.StoredOp.{StoredOp}
use Rattle.cops_types.specs.declared.entry.StoredOp.TheVariants.{Put, Got, Sourced, Missed}
use Rattle.cops_types.specs.declared.entry.StoredOpRef.{StoredOpRef}
use Rattle.cops_types.specs.declared.entry.StoredOpRef.TheVariants.{Sourced as SourcedRef}
use Rattle.cops_types.specs.declared.op.OpName.{OpName}
use Rattle.cops_types.specs.declared.slot.KeptGot.{KeptGot}
use Rattle.cops_types.specs.declared.slot.KeptPut.{KeptPut}
use Rattle.cops_types.specs.declared.slot.OpSlot.{OpSlot}
use Rattle.cops_types.specs.declared.slot.OpSlot.TheVariants.{Put as PutSlot, Got as GotSlot, Sourced as SourcedSlot, Missed as MissedSlot}
use Rattle.cops_types.specs.declared.versioned_put.VersionedPut.{VersionedPut}
use Rattle.cops_types.specs.Entries.{EntryLists}
use Rattle.cops_types.specs.Lists.{item_at}

-- the slots of each client, in their order, and for each client whether there is room for its next one
pub record KeptSlots : Type 0 where
  pub all : List (List OpSlot)
  pub room : List Bool

-- the content that a flag and a value stand for
abbrev pub content_of : Bool → List ℕ → Option (List ℕ)
content_of true value = Some value
content_of false value = None

abbrev pub put_shown : Option KeptPut → StoredOp
put_shown (Some p) = Put p.key (content_of p.has_value p.value) p.version
put_shown None = Missed 0

abbrev pub source_shown : ℕ → Option KeptPut → StoredOp
source_shown number (Some p) = Sourced p.key (record { name = p.name; number = number }) p.version
source_shown number None = Missed 0

abbrev pub got_shown : Option KeptGot → StoredOp
got_shown (Some g) = Got g.key (content_of g.has_value g.value) g.version
got_shown None = Missed 0

-- the entry that a slot stands for
abbrev pub shown : List KeptPut → List KeptGot → OpSlot → StoredOp
shown puts gets (PutSlot number) = put_shown (slice_get puts number)
shown puts gets (SourcedSlot number) = source_shown number (slice_get puts number)
shown puts gets (GotSlot number) = got_shown (slice_get gets number)
shown puts gets (MissedSlot key) = Missed key

-- the entries of each client
abbrev pub shown_by : List KeptPut → List KeptGot → List (List OpSlot) → EntryLists
shown_by puts gets slots = map (map (shown puts gets)) slots

-- a put with its version
abbrev pub versioned : KeptPut → VersionedPut
versioned put = record { version = put.version; name = put.name }

-- what the slot refers to is among this number of puts and gets
abbrev pub IsThere : ℕ → ℕ → OpSlot → Type 0
IsThere puts gets (PutSlot number) = number < puts
IsThere puts gets (SourcedSlot number) = number < puts
IsThere puts gets (GotSlot number) = number < gets
IsThere puts gets (MissedSlot key) = Unit {0}

-- the number of the get to which a slot refers, if that get is stored with what it returned
abbrev pub get_number_in : OpSlot → Option ℕ
get_number_in (GotSlot number) = Some number
get_number_in _ = None

-- the number of each slot
abbrev pub get_numbers_in : List (List OpSlot) → List (List (Option ℕ))
get_numbers_in slots = map (map get_number_in) slots

-- each slot refers to what is there; each put is in the slot of its name, and in no other; each get stored with what it returned has one slot, and in
-- a session their numbers rise
pub record AreKept (puts : List KeptPut) (gets : List KeptGot) (slots : List (List OpSlot)) : Type 0 where
  pub there : (name : OpName) (slot : OpSlot) → item_at slots name ≡ Some slot → IsThere (length puts) (length gets) slot
  pub named : (number : ℕ) (put : KeptPut) → slice_get puts number ≡ Some put → item_at slots put.name ≡ Some (PutSlot number)
  pub back : (name : OpName) (number : ℕ) → item_at slots name ≡ Some (PutSlot number) → (put : KeptPut) × (slice_get puts number ≡ Some put) × (put.name ≡ name)
  pub each : (number : ℕ) → number < length gets → (name : OpName) × (item_at slots name ≡ Some (GotSlot number))
  pub once : (a b : OpName) (number : ℕ) → item_at slots a ≡ Some (GotSlot number) → item_at slots b ≡ Some (GotSlot number) → a ≡ b
  pub rising : (a b : OpName) (m n : ℕ) → a.client ≡ b.client → a.index < b.index → item_at slots a ≡ Some (GotSlot m) → item_at slots b ≡ Some (GotSlot n) → m < n

-- the put that the entry names is the one of its number, and has the entry's value
abbrev pub IsFrom : List KeptPut → StoredOpRef → Type 0
IsFrom puts (SourcedRef key put value version) = (kept : KeptPut) × (slice_get puts put.number ≡ Some kept) × (kept.name ≡ put.name) × (content_of kept.has_value kept.value ≡ option_copied value)
IsFrom puts _ = Unit {0}

-- the name of a client's next entry
abbrev pub next_name : List (List OpSlot) → ℕ → OpName
next_name slots client = record { client = client; index = length (slice_index_or slots client []) }

-- an entry of that name was stored: a put among the puts and a get with what it returned among the gets, each at the end; and this is its slot
abbrev pub IsStored : StoredOp → OpName → List KeptPut → List KeptGot → List KeptPut → List KeptGot → OpSlot → Type 0
IsStored (Put key value version) name puts gets new_puts new_gets slot =
    (put : KeptPut) × (put.name ≡ name) × (put_shown (Some put) ≡ Put key value version) × (new_puts ≡ puts ++ put ∷ []) × (new_gets ≡ gets) × (slot ≡ PutSlot (length puts))
IsStored (Got key value version) name puts gets new_puts new_gets slot =
    (got : KeptGot) × (got_shown (Some got) ≡ Got key value version) × (new_puts ≡ puts) × (new_gets ≡ gets ++ got ∷ []) × (slot ≡ GotSlot (length gets))
IsStored (Sourced key put version) name puts gets new_puts new_gets slot = (new_puts ≡ puts) × (new_gets ≡ gets) × (slot ≡ SourcedSlot put.number)
IsStored (Missed key) name puts gets new_puts new_gets slot = (new_puts ≡ puts) × (new_gets ≡ gets) × (slot ≡ MissedSlot key)
