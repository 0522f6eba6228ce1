-- The operation of an entry's name, and when one entry is the source of another.
use Rattle.std.proofs.Common.{◌≡◌, ◌<◌, ℕ, List, [], length, map, get_or, slice_get, Bor, Option, Some, None, refl, sym, ap, ◌∙◌, inl, inr}
use Rattle.std.specs.Prelude.{◌⊎◌, ◌≢◌, IfSome, IfNone, option_copied}
use Rattle.std.specs.Option.{option_map}
use Rattle.std.proofs.lemmas.Option.{slice_get-get_or, slice_get-map}
use Rattle.cops_types.specs.declared.op.OpName.{OpName}
use Rattle.cops_types.specs.declared.entry.StoredOp.{StoredOp}
use Rattle.cops_types.specs.declared.entry.StoredOpRef.{StoredOpRef}
use Rattle.cops_types.specs.declared.entry.StoredOpRef.TheVariants.{Put as PutRef, Got as GotRef, Sourced as SourcedRef, Missed as MissedRef}
use Rattle.cops_types.specs.declared.entry.NumberedPut.{NumberedPut}
use Rattle.cops_types.specs.declared.value.Value.{Value}
use Rattle.cops_types.specs.declared.version.Version.{Version}
use Rattle.cops_types.specs.declared.entry.StoredOp.TheVariants.{Put, Got, Sourced, Missed}
use Rattle.cops_types.specs.Lists.{item_at, number_at}
use Rattle.cops_types.specs.Histories.{IsNamed, Puts, PutsVersion, SourceStep, op_at, Operation, write, read, missed}
use Rattle.cops_types.specs.Operations.{GetsVersion, key_of}
use Rattle.cops_types.specs.Entries.{EntryLists, AreSound, HasValue, ListsEntries, referred, with_key, value_put, reported, reported_by, key_number_of}
use Rattle.cops_types.specs.declared.versioned_put.VersionedPut.{VersionedPut}
use Rattle.cops_types.specs.KeySets.{AreDistinct}
use Rattle.cops_types.specs.PutLists.{AreAllPuts}
use Rattle.cops_types.proofs.Reporting.{op_at-reported}
use Rattle.cops_types.proofs.Showing.{mapped_from}

key_reported : (keys : List (List ℕ)) (all : EntryLists) (e : StoredOp) → key_of (reported keys all e) ≡ get_or keys (key_number_of e) []
key_reported keys all (Put key value version) = refl
key_reported keys all (Got key value version) = refl
key_reported keys all (Sourced key put version) = refl
key_reported keys all (Missed key) = refl

module _ (keys : List (List ℕ)) (all : EntryLists) (name : OpName) where
  -- without an entry there is no operation
  pub none_reported : None ≡ item_at all name → None ≡ op_at (reported_by keys all) name
  none_reported none = ap (option_map (reported keys all)) none ∙ sym (op_at-reported keys all name)

  -- with an entry, the operation is the one that it stands for
  pub reported_as : (e : StoredOp) (op : Operation) → Some e ≡ item_at all name → reported keys all e ≡ op → Some op ≡ op_at (reported_by keys all) name
  reported_as e op at is = ap Some (sym is) ∙ ap (option_map (reported keys all)) at ∙ sym (op_at-reported keys all name)

  -- so it is for a reference, given its key
  pub reported_with : (e : StoredOpRef) (key : List ℕ) → Some (referred e) ≡ item_at all name → HasValue all e → key ≡ get_or keys (key_number_of (referred e)) []
      → Some (with_key key e) ≡ op_at (reported_by keys all) name
  reported_with e key at has is = reported_as (referred e) (with_key key e) at (as_reported e has is)
    where
      as_reported : (e : StoredOpRef) → HasValue all e → key ≡ get_or keys (key_number_of (referred e)) [] → reported keys all (referred e) ≡ with_key key e
      as_reported (PutRef number value version) has is = ap (λ k. write k (option_copied value) version.now) (sym is)
      as_reported (GotRef number value version) has is = ap (λ k. read k (option_copied value) version.now) (sym is)
      as_reported (SourcedRef number put value version) has is = (λ j. read (sym is j) (sym has j) version.now)
      as_reported (MissedRef number) has is = ap missed (sym is)

  -- the operation's key has the entry's number
  pub key_numbered : (e : StoredOp) (number : ℕ) → AreSound keys all → Some e ≡ item_at all name → number ≡ key_number_of e → slice_get keys number ≡ option_map key_of (op_at (reported_by keys all) name)
  key_numbered e number sound at is =
      ap (slice_get keys) is ∙ slice_get-get_or keys (key_number_of e) [] (sound name e (sym at)).key ∙ ap Some (sym (key_reported keys all e))
      ∙ ap (option_map key_of) (reported_as e (reported keys all e) at refl)

  -- a reference to an entry that is no put stands for no put
  pub no_put_there : (e : StoredOpRef) → Some (referred e) ≡ item_at all name → ((key : ℕ) (value : Option (Bor Value)) (version : Bor Version) → e ≡ PutRef key value version → ⊥)
      → (version : ℕ) → ¬ PutsVersion (reported_by keys all) name version
  no_put_there (PutRef key value own) at not version puts = not key value own refl
  no_put_there (GotRef key value own) at not version puts = let both = reported_as (Got key (option_copied value) own.now) _ at refl ∙ puts.2 in cc
  no_put_there (SourcedRef key put value own) at not version puts = let both = reported_as (Sourced key put own.now) _ at refl ∙ puts.2 in cc
  no_put_there (MissedRef key) at not version puts = let both = reported_as (Missed key) _ at refl ∙ puts.2 in cc

  -- a reference to an entry that is no get which returned something stands for no such get
  pub no_got_there : (e : StoredOpRef) → Some (referred e) ≡ item_at all name → ((key : ℕ) (value : Option (Bor Value)) (version : Bor Version) → e ≡ GotRef key value version → ⊥)
      → ((key : ℕ) (put : NumberedPut) (value : Option (Bor Value)) (version : Bor Version) → e ≡ SourcedRef key put value version → ⊥) → (version : ℕ) → ¬ GetsVersion (reported_by keys all) name version
  no_got_there (PutRef key value own) at not nor version gets = let both = reported_as (Put key (option_copied value) own.now) _ at refl ∙ gets.2 in cc
  no_got_there (GotRef key value own) at not nor version gets = not key value own refl
  no_got_there (SourcedRef key put value own) at not nor version gets = nor key put value own refl
  no_got_there (MissedRef key) at not nor version gets = let both = reported_as (Missed key) _ at refl ∙ gets.2 in cc

-- an entry that stands for a put is a put's entry
entry_of_put : (keys : List (List ℕ)) (all : EntryLists) (found : Option StoredOp) (key : List ℕ) (content : Option (List ℕ)) (version : ℕ) → option_map (reported keys all) found ≡ Some (write key content version)
    → (number : ℕ) × (get_or keys number [] ≡ key) × (found ≡ Some (Put number content version))
entry_of_put keys all None key content version is = cc
entry_of_put keys all (Some (Put k v w)) key content version is =
    let own : get_or keys k [] ≡ key = cc in
    let value : v ≡ content = cc in
    let same : w ≡ version = cc in
    (k, own, (λ j. Some (Put k (value j) (same j))))
entry_of_put keys all (Some (Got k v w)) key content version is = cc
entry_of_put keys all (Some (Sourced k p w)) key content version is = cc
entry_of_put keys all (Some (Missed k)) key content version is = cc

module _ (keys : List (List ℕ)) (all : EntryLists) (put got : OpName) (key : ℕ) (value : Option (List ℕ)) (version : ℕ) (was_got : Some (read (get_or keys key []) value version) ≡ op_at (reported_by keys all) got) where
  -- a put of that key, value and version is the get's source
  pub source_there : item_at all put ≡ Some (Put key value version) → SourceStep (reported_by keys all) put got
  source_there at = record {
    key = get_or keys key [];
    content = value;
    version = version;
    put = op_at-reported keys all put ∙ ap (option_map (reported keys all)) at;
    got = sym was_got;
  }

  -- the get's source is such a put
  pub source_found : AreSound keys all → AreDistinct keys → key < length keys → SourceStep (reported_by keys all) put got → item_at all put ≡ Some (Put key value version)
  source_found sound distinct inside s =
      let same : Some (read s.key s.content s.version) ≡ Some (read (get_or keys key []) value version) = sym s.got ∙ sym was_got in
      let as_put : Some (write s.key s.content s.version) ≡ Some (write (get_or keys key []) value version) = cc in
      let e = entry_of_put keys all (item_at all put) (get_or keys key []) value version (sym (op_at-reported keys all put) ∙ s.put ∙ as_put) in
      let there = slice_get-get_or keys e.0 [] (sound put (Put e.0 value version) e.2).key in
      let number : e.0 ≡ key = distinct e.0 key (get_or keys e.0 []) there (slice_get-get_or keys key [] inside ∙ ap Some (sym e.1)) in
      e.2 ∙ ap (λ (n : ℕ). Some (Put n value version)) number

-- a reference to a put or to a get that found nothing has no source
pub no_source_there : (keys : List (List ℕ)) (all : EntryLists) (put got : OpName) (e : StoredOpRef) → Some (referred e) ≡ item_at all got
    → ((key : ℕ) × (value : Option (Bor Value)) × (version : Bor Version) × (e ≡ PutRef key value version)) ⊎ ((key : ℕ) × (e ≡ MissedRef key)) → SourceStep (reported_by keys all) put got → ⊥
no_source_there keys all put got e at is s =
    let report = λ (r : StoredOpRef). reported keys all (referred r) in
    elim is [
      | inl p ↦ let both = reported_as keys all got (referred e) (write (get_or keys p.0 []) (option_copied p.1) p.2.now) at (ap report p.3) ∙ s.got in cc
      | inr p ↦ let both = reported_as keys all got (referred e) (missed (get_or keys p.0 [])) at (ap report p.1) ∙ s.got in cc
    ]

-- the entries of puts stand for all puts
pub all_puts : (keys : List (List ℕ)) (all : EntryLists) (puts : List VersionedPut) → ListsEntries all puts → AreAllPuts (reported_by keys all) puts
all_puts keys all puts lists = record {
  members = λ p. (
    (λ there. let e = (lists.members p).0 there in (get_or keys e.0 [], e.1, op_at-reported keys all p.name ∙ ap (option_map (reported keys all)) e.2)),
    (λ put. let e = entry_of_put keys all (item_at all p.name) put.0 put.1 p.version (sym (op_at-reported keys all p.name) ∙ put.2) in (lists.members p).1 (e.0, put.1, e.2)),
  );
  once = lists.once;
}

-- the put whose number a get's entry names is its source
pub names_sources : (keys : List (List ℕ)) (all : EntryLists) → AreSound keys all → (names : List OpName) (got : OpName) (number : Option ℕ)
    → IfSome number (λ n. (put : OpName) × (slice_get names n ≡ Some put) × (key version : ℕ) × (item_at all got ≡ Some (Sourced key (record { name = put; number = n }) version)))
    → IfSome number (λ n. (put : OpName) × (slice_get names n ≡ Some put) × SourceStep (reported_by keys all) put got)
names_sources keys all sound names got (Some n) named =
    let put = named.0 in
    let key = named.2 in
    let version = named.3 in
    let at = named.4 in
    let entry = Sourced key (record { name = put; number = n }) version in
    let was_got = reported_as keys all got entry (read (get_or keys key []) (value_put all put) version) (sym at) refl in
    (put, named.1, source_there keys all put got key (value_put all put) version was_got (sound got entry at).source)
names_sources keys all sound names got None named = tt

module _ (keys : List (List ℕ)) (all : EntryLists) (name : OpName) where
  -- a put's entry stands for a put
  pub puts_of : (number : Option ℕ) → IfSome number (λ _. (key version : ℕ) × (value : Option (List ℕ)) × (item_at all name ≡ Some (Put key value version))) → IfSome number (λ _. Puts (reported_by keys all) name)
  puts_of (Some n) put = (put.1, (get_or keys put.0 [], put.2, op_at-reported keys all name ∙ ap (option_map (reported keys all)) put.3))
  puts_of None put = tt

  -- without a put's entry there is no put
  pub no_puts_of : (number : Option ℕ) → IfNone number ((key version : ℕ) (value : Option (List ℕ)) → item_at all name ≢ Some (Put key value version)) → IfNone number (¬ Puts (reported_by keys all) name)
  no_puts_of (Some n) none = tt
  no_puts_of None none = λ puts. let e = entry_of_put keys all (item_at all name) puts.1.0 puts.1.1 puts.0 (sym (op_at-reported keys all name) ∙ puts.1.2) in none e.0 puts.0 puts.1.1 e.2

-- ---- gets stored with what they returned

module _ (keys : List (List ℕ)) (all : EntryLists) (sound : AreSound keys all) (got : OpName) where
  -- a get that returned something has its source, or is stored with what it returned
  got_or_sourced : (version : ℕ) → GetsVersion (reported_by keys all) got version → ((key own : ℕ) × (value : Option (List ℕ)) × (item_at all got ≡ Some (Got key value own))) ⊎ ((put : OpName) × SourceStep (reported_by keys all) put got)
  got_or_sourced version gets_version = by_entry (item_at all got) refl
    where
      by_entry : (o : Option StoredOp) → item_at all got ≡ o → ((key own : ℕ) × (value : Option (List ℕ)) × (item_at all got ≡ Some (Got key value own))) ⊎ ((put : OpName) × SourceStep (reported_by keys all) put got)
      by_entry None at = let none = none_reported keys all got (sym at) in let there = gets_version.2 in absurd cc
      by_entry (Some (Put key value own)) at = let both = reported_as keys all got (Put key value own) _ (sym at) refl ∙ gets_version.2 in absurd cc
      by_entry (Some (Got key value own)) at = inl (key, own, value, at)
      by_entry (Some (Sourced key put own)) at =
          let source = (sound got (Sourced key put own) at).source in
          inr (put.name, source_there keys all put.name got key (value_put all put.name) own (reported_as keys all got (Sourced key put own) _ (sym at) refl) source)
      by_entry (Some (Missed key)) at = let both = reported_as keys all got (Missed key) _ (sym at) refl ∙ gets_version.2 in absurd cc

  pub sourced_unless_open : (number : Option ℕ) → IfNone number ((key version : ℕ) (value : Option (List ℕ)) → item_at all got ≢ Some (Got key value version))
      → IfNone number ((version : ℕ) → GetsVersion (reported_by keys all) got version → (put : OpName) × SourceStep (reported_by keys all) put got)
  sourced_unless_open (Some n) none = tt
  sourced_unless_open None none = λ version gets_version. elim (got_or_sourced version gets_version) [
    | inl kept ↦ absurd (none kept.0 kept.1 kept.2 kept.3)
    | inr sourced ↦ sourced
  ]

module _ (keys : List (List ℕ)) (all : EntryLists) (gets : List StoredOp) where
  abbrev pub IsOpen : OpName → ℕ → Type 0
  IsOpen got n = (op : Operation) × (slice_get (map (reported keys all) gets) n ≡ Some op) × (op_at (reported_by keys all) got ≡ Some op)

  -- the numbered get is that of an entry
  pub numbers_open : (got : OpName) (number : Option ℕ)
      → IfSome number (λ n. (key version : ℕ) × (value : Option (List ℕ)) × (item_at all got ≡ Some (Got key value version)) × (slice_get gets n ≡ Some (Got key value version)))
      → IfSome number (IsOpen got)
  numbers_open got (Some n) at = (
    reported keys all (Got at.0 at.2 at.1),
    slice_get-map (reported keys all) gets n ∙ ap (option_map (reported keys all)) at.4,
    op_at-reported keys all got ∙ ap (option_map (reported keys all)) at.3,
  )
  numbers_open got None at = tt

  -- each get that returned something is a numbered one, or has its source
  pub open_or_sourced : AreSound keys all
      → ((name : OpName) (key version : ℕ) (value : Option (List ℕ)) → item_at all name ≡ Some (Got key value version) → (n : ℕ) × (slice_get gets n ≡ Some (Got key value version)))
      → (got : OpName) (version : ℕ) → GetsVersion (reported_by keys all) got version
      → ((n : ℕ) × IsOpen got n) ⊎ ((put : OpName) × SourceStep (reported_by keys all) put got)
  open_or_sourced sound kept got version gets_version = elim (got_or_sourced keys all sound got version gets_version) [
    | inl k ↦
        let n = kept got k.0 k.1 k.2 k.3 in
        inl (
          n.0,
          (
            reported keys all (Got k.0 k.2 k.1),
            slice_get-map (reported keys all) gets n.0 ∙ ap (option_map (reported keys all)) n.1,
            op_at-reported keys all got ∙ ap (option_map (reported keys all)) k.3,
          ),
        )
    | inr sourced ↦ inr sourced
  ]

-- operations keep their numbers if entries do
pub operations_keep : (keys : List (List ℕ)) (all : EntryLists) (old new : List (List (Option ℕ))) → ((name : OpName) (entry : StoredOp) → item_at all name ≡ Some entry → number_at new name ≡ number_at old name)
    → (name : OpName) → IsNamed (reported_by keys all) name → number_at new name ≡ number_at old name
operations_keep keys all old new keeps name named =
    let entry = mapped_from (reported keys all) (item_at all name) named.0 (sym (op_at-reported keys all name) ∙ named.1) in
    keeps name entry.0 entry.1
