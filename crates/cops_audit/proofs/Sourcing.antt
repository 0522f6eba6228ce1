-- The places of the sources of pending reads.
use Rattle.std.proofs.Common.{rules, ◌≡◌, ◌<◌, ℕ, List, [], ◌∷◌, ◌++◌, length, get_or, Option, Some, sym, ap, ◌∙◌, subst, inl, inr, arith, slice_get}
use Rattle.std.specs.Prelude.{◌⊎◌}
use Rattle.std.proofs.lemmas.Option.{slice_get_within}
use Rattle.cops_types.specs.declared.op.OpName.{OpName}
use Rattle.cops_types.specs.declared.versioned_put.VersionedPut.{VersionedPut}
use Rattle.cops_types.specs.Histories.{Sessions, IsPut, SourceStep, op_at, Operation, read}
use Rattle.cops_types.specs.Operations.{GetsVersion}
use Rattle.cops_types.specs.Recorded.{Recorded, IsPendingAt}
use Rattle.cops_types.specs.Verdicts.{AllHaveSources}
use Rattle.cops_audit.specs.declared.summaries.OpPlace.TheVariants.{Got as SeenGot}
use Rattle.cops_audit.specs.Summaries.{IsSeen}
use Rattle.cops_audit.specs.Placing.{AreSourcePlaces, IsSourcePlace}
use Rattle.cops_audit.proofs.Listing.{slice_get_there}
use Rattle.cops_audit.proofs.Marks.{slice_get_push}
use Rattle.cops_audit.proofs.Unique.{stands}

-- the get with that name, whose source is at that place
pub source_seen : (h : Sessions) (table : List VersionedPut) (got : OpName) (op : Operation) (place : ℕ) → IsSourcePlace h table op place → op_at h got ≡ Some op → IsSeen h table got (SeenGot place)
source_seen h table got op place p at = search rules

-- the put at the place that was looked up
pub source_stands : (h : Sessions) (table : List VersionedPut) (op : Operation) (place : ℕ) (d : VersionedPut) → place < length table
    → (key : List ℕ) (content : Option (List ℕ)) (version : ℕ) → (get_or table place d).version ≡ version → IsPut h (get_or table place d).name key content version → op ≡ read key content version → IsSourcePlace h table op place
source_stands h table op place d inside key content version has_version puts got =
    let put = get_or table place d in
    (put.name, key, content, version, stands table place d inside ∙ (λ j. Some (record { version = has_version j; name = put.name })), puts, got)

-- one more place
pub places_push : (r : Recorded) (table : List VersionedPut) (places : List ℕ) (place : ℕ) → AreSourcePlaces r table places
    → ((op : Operation) → slice_get r.gets (length places) ≡ Some op → IsSourcePlace r.sessions table op place) → AreSourcePlaces r table (places ++ place ∷ [])
places_push r table places place are is number found op get at = elim (slice_get_push places place found number at) [
  | inl old ↦ are number found op get old
  | inr new ↦ subst (IsSourcePlace r.sessions table op) new.1 (is op (sym (ap (slice_get r.gets) new.0) ∙ get))
]

-- where there is a place for each pending read, each get has its source
pub all_sourced : (r : Recorded) (table : List VersionedPut) (places : List ℕ) → AreSourcePlaces r table places → length places ≡ length r.gets
    → ((got : OpName) (version : ℕ) → GetsVersion r.sessions got version → ((number : ℕ) × IsPendingAt r number got) ⊎ ((put : OpName) × SourceStep r.sessions put got)) → AllHaveSources r.sessions
all_sourced r table places are whole others name f = elim (others name f.version (f.key, f.content, f.got)) [
  | inr sourced ↦ f.none sourced.0 sourced.1
  | inl it ↦
      let at = it.1 in
      let inside : it.0 < length places = omega (arith, slice_get_within r.gets it.0 at.0 at.1, whole) in
      let place = slice_get_there places it.0 inside in
      let seen = source_seen r.sessions table name at.0 place.0 (are it.0 place.0 at.0 at.1 place.1) at.2 in
      f.none seen.0 seen.4
]
