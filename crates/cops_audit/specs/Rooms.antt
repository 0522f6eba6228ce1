-- The vectors that the search for faults fills, with capacity for a history.
use Rattle.std.specs.Prelude.{◌≡◌, ◌≤◌, ℕ, List, [], length, vec_capacity}
use Rattle.cops_types.specs.Histories.{Sessions}
use Rattle.cops_types.specs.Counts.{count_of}
use Rattle.cops_types.specs.Recorded.{IsWithinLimits}
use Rattle.cops_audit.specs.declared.summaries.Summary.{Summary}
use Rattle.cops_audit.specs.declared.room.Scratch.{Scratch}
use Rattle.cops_audit.specs.KeyIndexes.{HasCapacity}
use Rattle.cops_audit.specs.Summaries.{Flat, IsSummarized}
use Rattle.cops_audit.specs.Tables.{IsVersionTable}

-- capacity for `count` operations
pub record HasSpace (count : ℕ) (room : Scratch) : Type 0 where
  pub table : count ≤ vec_capacity room.table
  pub places : count ≤ vec_capacity room.places
  pub keys : HasCapacity count room.keys
  pub suspects : count ≤ vec_capacity room.suspects
  pub floors : count ≤ vec_capacity room.floors
  pub pending : count ≤ vec_capacity room.sweep.pending
  pub newest : count ≤ length room.sweep.newest

-- the same counts, and still nothing to visit
pub record IsSameButSpace (old new : Scratch) : Type 0 where
  pub counts : new.sweep.counts ≡ old.sweep.counts
  pub empty : old.sweep.pending.items ≡ [] → new.sweep.pending.items ≡ []

-- capacity for all operations, and a count for each client; nothing is left to visit
pub record IsReady (h : Sessions) (room : Scratch) : Type 0 where
  pub space : HasSpace room.space room
  pub enough : count_of h ≤ room.space
  pub counts : length room.sweep.counts ≡ length h
  pub empty : room.sweep.pending.items ≡ []

-- a ready room, with capacity for the summaries of as many operations
pub record Fits (h : Sessions) (room : Scratch) (flat : Flat) : Type 0 where
  pub ready : IsReady h room
  pub sessions : length h ≤ flat.session_room
  pub summaries : room.space ≤ flat.summary_room

-- a ready room for a history, with its puts and the summaries of its operations
pub record IsSummarizedIn (h : Sessions) (room : Scratch) (sessions : List (List Summary)) : Type 0 where
  pub ready : IsReady h room
  pub limits : IsWithinLimits h
  pub table : IsVersionTable h room.table.items
  pub few : length room.table.items ≤ count_of h
  pub summaries : IsSummarized h room.table.items sessions
