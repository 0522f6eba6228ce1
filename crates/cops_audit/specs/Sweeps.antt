-- Pasts as counts, built by walking causal summaries backward.
use Rattle.std.specs.Prelude.{◌≡◌, ◌<◌, ◌≤◌, ◌+◌, ◌-◌, ◌*◌, ◌^◌, ◌⊎◌, ℕ, List, [], length, slice_index, slice_index_or, slice_get, Some, Contains, sum_by, vec_len, vec_capacity, replicate}
use Rattle.cops_types.specs.declared.limits.TheConstants.{MAX_CLIENT_OPS, MAX_OPS}
use Rattle.cops_types.specs.declared.op.OpName.{OpName}
use Rattle.cops_types.specs.declared.versioned_put.VersionedPut.{VersionedPut}
use Rattle.cops_audit.specs.declared.summaries.Summary.{Summary}
use Rattle.cops_audit.specs.declared.summaries.OpPlace.{OpPlace}
use Rattle.cops_audit.specs.declared.summaries.OpPlace.TheVariants.{Put, Got, Sourceless}
use Rattle.cops_audit.specs.declared.sweep.OpRange.{OpRange}
use Rattle.cops_audit.specs.declared.sweep.Sweep.{Sweep}
use Rattle.cops_audit.specs.Summaries.{AreMarks, StandsAt, summary_at}

-- the names that counts stand for: for each client, as many of its first operations as its count says
abbrev pub Counted : List ℕ → OpName → Type 0
Counted counts name = name.index < slice_index counts name.client

-- summaries that fit the table, where each put is above all that its session saw before
pub record AreRising (table : List VersionedPut) (summaries : List (List Summary)) : Type 0 where
  pub marks : (client : ℕ) → AreMarks (slice_index_or summaries client [])
  pub puts : (place : ℕ) (put : OpName) (version : ℕ) → StandsAt table place put version → (mark : ℕ) × (summary_at summaries put ≡ Some (record { seen = Put place; mark = mark })) × (mark ≤ place + 1)
  pub seen_puts : (name : OpName) (place mark : ℕ) → summary_at summaries name ≡ Some (record { seen = Put place; mark = mark }) → (version : ℕ) × StandsAt table place name version
  pub seen_gets : (name : OpName) (place mark : ℕ) → summary_at summaries name ≡ Some (record { seen = Got place; mark = mark }) → (put : OpName) × (version : ℕ) × StandsAt table place put version
  pub seen_sourceless : (name : OpName) (place mark : ℕ) → summary_at summaries name ≡ Some (record { seen = Sourceless place; mark = mark }) → place ≤ length table
  pub small : (name : OpName) (summary : Summary) → summary_at summaries name ≡ Some summary → name.index < MAX_CLIENT_OPS
  pub few : length table ≤ MAX_OPS

-- from an operation to a later one of its session, or from a put to a get that returned it
abbrev pub SummaryStep : List VersionedPut → List (List Summary) → OpName → OpName → Type 0
SummaryStep table summaries from to =
    ((from.client ≡ to.client) × (from.index < to.index) × (summary : Summary) × (summary_at summaries to ≡ Some summary))
    ⊎ ((place : ℕ) × (version : ℕ) × (mark : ℕ) × StandsAt table place from version × (summary_at summaries to ≡ Some (record { seen = Got place; mark = mark })))

-- one or more such steps
pub data SummaryPast (table : List VersionedPut) (summaries : List (List Summary)) (from : OpName) : OpName → Type 0 where
  step : {to : OpName} → SummaryStep table summaries from to → SummaryPast table summaries from to
  more : {by to : OpName} → SummaryPast table summaries from by → SummaryStep table summaries by to → SummaryPast table summaries from to

-- the operation is in the range, or in one of the ranges
abbrev pub InRange : OpRange → OpName → Type 0
InRange range name = (name.client ≡ range.client) × (range.from ≤ name.index) × (name.index < range.to)

-- the operation next after a range, and the range with it
abbrev pub next_after : OpRange → OpName
next_after range = record { client = range.client; index = range.to }

abbrev pub with_next : OpRange → OpRange
with_next range = record { client = range.client; from = range.from; to = range.to + 1 }

abbrev pub InSome : List OpRange → OpName → Type 0
InSome ranges name = (range : OpRange) × Contains ranges range × InRange range name

-- what an operation saw is recorded: of a put its place, of a get its source, unless that is below the floor
pub record IsLearned (table : List VersionedPut) (firsts : List ℕ) (floor : ℕ) (sweep : Sweep) (seen : OpPlace) : Type 0 where
  pub put : (place first : ℕ) → seen ≡ Put place → slice_get firsts place ≡ Some first → place < slice_index sweep.newest first
  pub got : (place : ℕ) (put : OpName) (version : ℕ) → seen ≡ Got place → floor ≤ place → StandsAt table place put version → Counted sweep.counts put

-- what is counted and has a mark above the floor is recorded, except for the operations that are still to be visited
pub record IsSweeping (table : List VersionedPut) (summaries : List (List Summary)) (firsts : List ℕ) (floor : ℕ) (sweep : Sweep) (IsOpen : OpName → Type 0) : Type 0 where
  pub clients : length sweep.counts ≡ length summaries
  pub places : length table ≤ length sweep.newest
  pub newest : (first place : ℕ) → slice_index sweep.newest first ≡ place + 1 → (put : OpName) × (version : ℕ) × StandsAt table place put version × Counted sweep.counts put × (slice_get firsts place ≡ Some first)
  pub open_counted : (name : OpName) → IsOpen name → Counted sweep.counts name
  pub pending_counted : (name : OpName) → InSome sweep.pending.items name → Counted sweep.counts name
  pub learned : (name : OpName) (summary : Summary) → Counted sweep.counts name → summary_at summaries name ≡ Some summary → floor < summary.mark
      → IsLearned table firsts floor sweep summary.seen ⊎ (InSome sweep.pending.items name ⊎ IsOpen name)

-- more is counted, and what is new is in the past of what was counted
pub record Grows (table : List VersionedPut) (summaries : List (List Summary)) (old new : Sweep) : Type 0 where
  pub kept : (name : OpName) → Counted old.counts name → Counted new.counts name
  pub past : (name : OpName) → Counted new.counts name → Counted old.counts name ⊎ ((by : OpName) × Counted old.counts by × SummaryPast table summaries name by)

-- a bound of how much is still to be counted and visited
abbrev pub work_left : Sweep → ℕ
work_left sweep = 2 * sum_by (λ count. 2 ^ 32 - count) sweep.counts + vec_len sweep.pending

-- the first `to` operations of a client are counted too
pub record Raises (old new : Sweep) (client to : ℕ) : Type 0 where
  pub counts : (name : OpName) → Counted new.counts name → Counted old.counts name ⊎ ((name.client ≡ client) × (name.index < to))
  pub kept : (name : OpName) → Counted old.counts name → Counted new.counts name
  pub raised : (name : OpName) → name.client ≡ client → name.index < to → Counted new.counts name
  pub pending : (name : OpName) → Counted new.counts name → Counted old.counts name ⊎ InSome new.pending.items name
  pub still : (name : OpName) → InSome old.pending.items name → InSome new.pending.items name
  pub pending_counted : (name : OpName) → InSome new.pending.items name → InSome old.pending.items name ⊎ Counted new.counts name
  pub width : length new.counts ≡ length old.counts
  pub newest : new.newest ≡ old.newest
  pub work : work_left new ≤ work_left old

-- the first places of puts are places
pub record ArePlaces (table : List VersionedPut) (firsts : List ℕ) : Type 0 where
  pub whole : length firsts ≡ length table
  pub inside : (place first : ℕ) → slice_get firsts place ≡ Some first → first < length table

-- the put at a place becomes the newest one on its key, unless a newer one was known
pub record TakesPut (firsts old new : List ℕ) (place : ℕ) : Type 0 where
  pub width : length new ≡ length old
  pub higher : (first : ℕ) → slice_index old first ≤ slice_index new first
  pub known : (first : ℕ) → slice_get firsts place ≡ Some first → place < slice_index new first
  pub only : (first other : ℕ) → slice_index new first ≡ other + 1 → (slice_index old first ≡ other + 1) ⊎ ((place ≡ other) × (slice_get firsts place ≡ Some first))

-- what an operation saw is recorded, unless it is below the floor
pub record Learns (table : List VersionedPut) (firsts : List ℕ) (floor : ℕ) (old new : Sweep) (seen : OpPlace) : Type 0 where
  pub counts : (name : OpName) → Counted new.counts name → Counted old.counts name
      ⊎ ((place : ℕ) × (put : OpName) × (version : ℕ) × (seen ≡ Got place) × StandsAt table place put version × (name.client ≡ put.client) × (name.index ≤ put.index))
  pub kept : (name : OpName) → Counted old.counts name → Counted new.counts name
  pub pending : (name : OpName) → Counted new.counts name → Counted old.counts name ⊎ InSome new.pending.items name
  pub still : (name : OpName) → InSome old.pending.items name → InSome new.pending.items name
  pub pending_counted : (name : OpName) → InSome new.pending.items name → InSome old.pending.items name ⊎ Counted new.counts name
  pub clients : length new.counts ≡ length old.counts
  pub places : length new.newest ≡ length old.newest
  pub higher : (first : ℕ) → slice_index old.newest first ≤ slice_index new.newest first
  pub newest : (first place : ℕ) → slice_index new.newest first ≡ place + 1 → (slice_index old.newest first ≡ place + 1) ⊎ ((seen ≡ Put place) × (slice_get firsts place ≡ Some first))
  pub learned : IsLearned table firsts floor new seen
  pub work : work_left new ≤ work_left old

-- all that is counted is in the past of the operation
abbrev pub IsAbout : List VersionedPut → List (List Summary) → Sweep → OpName → Type 0
IsAbout table summaries sweep op = (name : OpName) → Counted sweep.counts name → SummaryPast table summaries name op

-- the put at this place is in the past, and no put at a later place with this first place is
pub record IsNewestIn (table : List VersionedPut) (summaries : List (List Summary)) (firsts : List ℕ) (op : OpName) (first place : ℕ) : Type 0 where
  pub put : OpName
  pub version : ℕ
  pub stands : StandsAt table place put version
  pub has_first : slice_get firsts place ≡ Some first
  pub past : SummaryPast table summaries put op
  pub newest : (other : ℕ) (q : OpName) (w : ℕ) → StandsAt table other q w → slice_get firsts other ≡ Some first → place < other → ¬ SummaryPast table summaries q op

-- no put from a place on with this first place is in the past
abbrev pub NoneFrom : List VersionedPut → List (List Summary) → List ℕ → OpName → ℕ → ℕ → Type 0
NoneFrom table summaries firsts op first from = (place : ℕ) (put : OpName) (version : ℕ) → StandsAt table place put version → slice_get firsts place ≡ Some first → from ≤ place → ¬ SummaryPast table summaries put op

-- nothing is counted, for this number of clients and puts
pub record IsFresh (clients puts : ℕ) (sweep : Sweep) : Type 0 where
  pub counts : sweep.counts ≡ replicate clients 0
  pub newest : sweep.newest ≡ replicate puts 0
  pub pending : sweep.pending.items ≡ []

-- nothing is left to visit, and there is a count for each session and a place for each put
pub record IsIdle (sessions puts : ℕ) (sweep : Sweep) : Type 0 where
  pub empty : sweep.pending.items ≡ []
  pub clients : length sweep.counts ≡ sessions
  pub places : puts ≤ length sweep.newest

-- each put is in its session
abbrev pub Covers : List ℕ → List VersionedPut → Type 0
Covers lengths table = (place : ℕ) (put : OpName) (version : ℕ) → StandsAt table place put version → put.index < slice_index lengths put.client

-- `pending` has capacity for all ranges that may still be added, whatever more is counted of sessions of these lengths, and there is space for
-- `space` ranges and places
pub record HasRoom (space : ℕ) (lengths : List ℕ) (sweep : Sweep) : Type 0 where
  pub width : length sweep.counts ≡ length lengths
  pub within : (client : ℕ) → slice_index sweep.counts client ≤ slice_index lengths client
  pub few : sum_by (λ n. n) lengths ≤ space
  pub whole : space ≤ vec_capacity sweep.pending
  pub places : space ≤ length sweep.newest
  pub left : vec_len sweep.pending + sum_by (λ n. n) lengths ≤ vec_capacity sweep.pending + sum_by (λ n. n) sweep.counts
