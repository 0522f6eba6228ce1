-- The operations of entries when one more entry is added.
use Rattle.std.proofs.Common.{◌≡◌, ℕ, ◌<◌, List, [], length, get_or, Some, refl, sym, ap, ◌∙◌, subst, arith, inl, inr, Option}
use Rattle.std.specs.Option.{option_map}
use Rattle.std.proofs.lemmas.Option.{slice_get_within}
use Rattle.cops_types.specs.declared.op.OpName.{OpName}
use Rattle.cops_types.specs.declared.entry.StoredOp.{StoredOp}
use Rattle.cops_types.specs.declared.entry.StoredOp.TheVariants.{Put, Got, Sourced, Missed}
use Rattle.cops_types.specs.Lists.{item_at, with_item}
use Rattle.cops_types.specs.Histories.{Sessions, op_at, with_op, Operation, write, read, missed}
use Rattle.cops_types.specs.Entries.{EntryLists, HasSource, IsSound, AreSound, reported, reported_by, value_in, value_put}
use Rattle.cops_types.specs.KeySets.{KeepsPlaces}
use Rattle.cops_types.specs.Recorded.{IsWithinLimits}
use Rattle.cops_types.proofs.Showing.{item_at-map, item_came_last, item_stays, length-map_map, map-same_items, map-with_item}

-- ---- one more entry

module _ (keys new : List (List ℕ)) (places : KeepsPlaces keys new) (all : EntryLists) (client : ℕ) (entry : StoredOp) (inside : client < length all) where
  value-same : (put : OpName) (key version : ℕ) → item_at all put ≡ Some (Put key (value_put all put) version) → value_put (with_item all client entry) put ≡ value_put all put
  value-same put key version at = ap value_in (item_stays all client entry inside put (Put key (value_put all put) version) at)

  -- an entry still stands for the same operation
  reported-same : (e : StoredOp) → IsSound keys all e → reported new (with_item all client entry) e ≡ reported keys all e
  reported-same (Put key value version) s = ap (λ (k : List ℕ). write k value version) (places.same key s.key)
  reported-same (Got key value version) s = ap (λ (k : List ℕ). read k value version) (places.same key s.key)
  reported-same (Sourced key put version) s = λ j. read (places.same key s.key j) (value-same put.name key version s.source j) version
  reported-same (Missed key) s = ap (λ (k : List ℕ). missed k) (places.same key s.key)

  source-same : (e : StoredOp) → HasSource all e → HasSource (with_item all client entry) e
  source-same (Put key value version) s = tt
  source-same (Got key value version) s = tt
  source-same (Sourced key put version) s =
      item_stays all client entry inside put.name (Put key (value_put all put.name) version) s ∙ ap (λ (v : Option (List ℕ)). Some (Put key v version)) (sym (value-same put.name key version s))
  source-same (Missed key) s = tt

  -- an entry stays sound
  sound-same : (e : StoredOp) → IsSound keys all e → IsSound new (with_item all client entry) e
  sound-same e s = record { key = omega (arith, s.key, places.longer); source = source-same e s.source }

  -- the history gains the operation of the new entry
  reported_by-more : AreSound keys all → reported_by new (with_item all client entry) ≡ with_op (reported_by keys all) client (reported new (with_item all client entry) entry)
  reported_by-more sound =
      let f = reported new (with_item all client entry) in
      map-with_item f all client entry
      ∙ ap (λ (h : Sessions). with_op h client (f entry)) (map-same_items f (reported keys all) all (λ name e at. reported-same e (sound name e at)))

same_places : (keys : List (List ℕ)) → KeepsPlaces keys keys
same_places keys = record { longer = omega arith; same = λ i inside. refl }

module _ (keys new : List (List ℕ)) (places : KeepsPlaces keys new) (all : EntryLists) (client : ℕ) (entry : StoredOp) (inside : client < length all) (sound : AreSound keys all) (fits : IsSound new all entry) where
  -- the history gains an operation
  pub reported_by-with_item : (op : Operation) → reported new all entry ≡ op → reported_by new (with_item all client entry) ≡ with_op (reported_by keys all) client op
  reported_by-with_item op is =
      reported_by-more keys new places all client entry inside sound
      ∙ ap (with_op (reported_by keys all) client) (reported-same new new (same_places new) all client entry inside entry fits ∙ is)

  -- all entries are sound
  pub sound-with_item : AreSound new (with_item all client entry)
  sound-with_item name e at =
      elim (item_came_last all client entry inside name e at) [
        | inl p ↦ sound-same keys new places all client entry inside e (sound name e p)
        | inr p ↦ subst (IsSound new (with_item all client entry)) p.0 (sound-same new new (same_places new) all client entry inside entry fits)
      ]

-- ---- the entry of a name

pub op_at-reported : (keys : List (List ℕ)) (all : EntryLists) (name : OpName) → op_at (reported_by keys all) name ≡ option_map (reported keys all) (item_at all name)
op_at-reported keys all name = item_at-map (reported keys all) all name

pub length-reported : (keys : List (List ℕ)) (all : EntryLists) (client : ℕ) → length (get_or (reported_by keys all) client []) ≡ length (get_or all client [])
length-reported keys all client = length-map_map (reported keys all) all client

-- the index of an entry is within the limit
pub limit_at : (keys : List (List ℕ)) (all : EntryLists) (name : OpName) (e : StoredOp) → IsWithinLimits (reported_by keys all) → item_at all name ≡ Some e → name.index < 1000000
limit_at keys all name e limits at = omega (arith, slice_get_within (get_or all name.client []) name.index e at, limits.each name.client, length-reported keys all name.client)
