-- Causal summaries: what each operation did, by places in the table of puts in order of versions.
use Rattle.std.specs.Prelude.{◌≡◌, ◌<◌, ◌≤◌, ◌+◌, ◌++◌, ◌⊎◌, ℕ, List, [], length, slice_index_or, slice_get, slice_range, Option, Some}
use Rattle.cops_types.specs.declared.op.OpName.{OpName}
use Rattle.cops_types.specs.Histories.{Sessions, IsMissed, PutsVersion, SourceStep}
use Rattle.cops_types.specs.Operations.{GetsVersion}
use Rattle.cops_types.specs.Faults.{HasNoSource}
use Rattle.cops_audit.specs.declared.op_version.OpVersion.{OpVersion}
use Rattle.cops_audit.specs.declared.op_version.OpVersion.TheVariants as op_version
use Rattle.cops_audit.specs.declared.flat.Span.{Span}
use Rattle.cops_types.specs.declared.versioned_put.VersionedPut.{VersionedPut}
use Rattle.cops_audit.specs.declared.summaries.Summary.{Summary}
use Rattle.cops_audit.specs.declared.summaries.OpPlace.{OpPlace}
use Rattle.cops_audit.specs.declared.summaries.OpPlace.TheVariants.{Put, Got, Missed, Sourceless}

-- the version that an operation put or got, or that it found nothing
abbrev pub HasDone : Sessions → OpName → OpVersion → Type 0
HasDone h name (op_version.Put version) = PutsVersion h name version
HasDone h name (op_version.Got version) = GetsVersion h name version
HasDone h name op_version.Missed = (key : List ℕ) × IsMissed h name key

-- the number just above the place of what was seen: for a get without a source the number of puts with lower versions, 0 where nothing was found
abbrev pub above : OpPlace → ℕ
above (Put place) = place + 1
above (Got place) = place + 1
above Missed = 0
above (Sourceless place) = place

-- the put at this place is this one, with this version
abbrev pub StandsAt : List VersionedPut → ℕ → OpName → ℕ → Type 0
StandsAt table place put version = slice_get table place ≡ Some (record { version = version; name = put })

-- the puts before a place are those of lower versions
pub record Divides (table : List VersionedPut) (place version : ℕ) : Type 0 where
  pub inside : place ≤ length table
  pub before : (k : ℕ) (put : OpName) (own : ℕ) → StandsAt table k put own → k < place → own < version
  pub from : (k : ℕ) (put : OpName) (own : ℕ) → StandsAt table k put own → place ≤ k → version ≤ own

-- what an operation did: a put by its own place, a get by its source's, or without a source by the place where its version divides the puts
abbrev pub IsSeen : Sessions → List VersionedPut → OpName → OpPlace → Type 0
IsSeen h table name (Put place) = (version : ℕ) × PutsVersion h name version × StandsAt table place name version
IsSeen h table name (Got place) = (put : OpName) × (version : ℕ) × StandsAt table place put version × GetsVersion h name version × SourceStep h put name
IsSeen h table name Missed = (key : List ℕ) × IsMissed h name key
IsSeen h table name (Sourceless place) = (f : HasNoSource h name) × Divides table place f.version

-- the least upper bound of `above` over the first operations of a session
pub record IsMark (session : List Summary) (count mark : ℕ) : Type 0 where
  pub bounds : (i : ℕ) (summary : Summary) → i < count → slice_get session i ≡ Some summary → above summary.seen ≤ mark
  pub reached : (mark ≡ 0) ⊎ ((i : ℕ) × (summary : Summary) × (i < count) × (slice_get session i ≡ Some summary) × (above summary.seen ≡ mark))

-- the summaries of all operations of a session, each with its mark
pub record IsSessionSummarized (h : Sessions) (table : List VersionedPut) (client : ℕ) (session : List Summary) : Type 0 where
  pub whole : length session ≡ length (slice_index_or h client [])
  pub seen : (i : ℕ) (summary : Summary) → slice_get session i ≡ Some summary → IsSeen h table (record { client = client; index = i }) summary.seen
  pub marks : (i : ℕ) (summary : Summary) → slice_get session i ≡ Some summary → IsMark session (i + 1) summary.mark

-- the summaries of a session were added at the end
abbrev pub AddsSession : Sessions → List VersionedPut → ℕ → List Summary → List Summary → Type 0
AddsSession h table client old new = (session : List Summary) × IsSessionSummarized h table client session × (new ≡ old ++ session)

-- the summaries of the sessions of the clients from one up to another
pub record AreSummarized (h : Sessions) (table : List VersionedPut) (first end : ℕ) (summaries : List (List Summary)) : Type 0 where
  pub clients : first + length summaries ≡ end
  pub sessions : (k : ℕ) → k < length summaries → IsSessionSummarized h table (first + k) (slice_index_or summaries k [])

-- the summary of an operation
abbrev pub summary_at : List (List Summary) → OpName → Option Summary
summary_at summaries name = slice_get (slice_index_or summaries name.client []) name.index

-- the summaries of all sessions
pub record IsSummarized (h : Sessions) (table : List VersionedPut) (summaries : List (List Summary)) : Type 0 where
  pub clients : length summaries ≡ length h
  pub sessions : (client : ℕ) → client < length h → IsSessionSummarized h table client (slice_index_or summaries client [])

-- the summary says that the operation is a get without a source
abbrev pub IsSourceless : List (List Summary) → OpName → Type 0
IsSourceless summaries name = (place : ℕ) × (mark : ℕ) × (summary_at summaries name ≡ Some (record { seen = Sourceless place; mark = mark }))

-- each summary has its mark
abbrev pub AreMarks : List Summary → Type 0
AreMarks session = (i : ℕ) (summary : Summary) → slice_get session i ≡ Some summary → IsMark session (i + 1) summary.mark

-- the summaries from one place up to another
abbrev pub span_of : List Summary → Span → List Summary
span_of summaries span = slice_range summaries span.from span.to

-- both places are within the summaries, in their order
abbrev pub IsWithin : List Summary → Span → Type 0
IsWithin summaries span = (span.from ≤ span.to) × (span.to ≤ length summaries)

-- the summaries of sessions, and the capacities for summaries and for sessions
pub record Flat : Type 0 where
  pub sessions : List (List Summary)
  pub summary_room : ℕ
  pub session_room : ℕ
