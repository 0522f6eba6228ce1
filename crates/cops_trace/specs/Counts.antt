-- The counts of a trace's text so far, which are all that decides what may come next.
use Rattle.std.specs.Prelude.{◌≡◌, ℕ, ◌+◌, ◌<◌, List, length, replicate, slice_index_or, slice_set}
use Rattle.cops_types.specs.declared.format.Format.{Format}
use Rattle.cops_types.specs.declared.limits.TheConstants.{MAX_CLIENT_OPS, MAX_OPS}
use Rattle.cops_trace.specs.Text.{ATrace, turn}
use Rattle.cops_trace.specs.Next.{Progress}

-- the format that the head names, the index of each client's next record, and the number of all records
pub record ACounts : Type 0 where
  pub format : Format
  pub next : List ℕ
  pub total : ℕ

-- the counts of no records, with `clients` clients
abbrev pub nothing : Format → ℕ → ACounts
nothing format clients = record { format = format; next = replicate clients 0; total = 0 }

-- the index of a client's next record
abbrev pub next_of : ACounts → ℕ → ℕ
next_of c client = slice_index_or c.next client 0

-- the counts with one more record of a client
abbrev pub counted : ACounts → ℕ → ACounts
counted c client = record { format = c.format; next = slice_set c.next client (next_of c client + 1); total = c.total + 1 }

-- there is such a client, and it may have one more record
abbrev pub HasTurn : ACounts → ℕ → Type 0
HasTurn c client = (client < length c.next) × (next_of c client < MAX_CLIENT_OPS) × (c.total < MAX_OPS)

-- the progress of a text with these counts, at this offset
abbrev pub progress_from : ℕ → ACounts → Progress
progress_from at c = record { format = c.format; clients = length c.next; turn = next_of c; total = c.total; at = at }

-- they are the counts of a trace
pub record AreCountsOf (t : ATrace) (c : ACounts) : Type 0 where
  pub format : c.format ≡ t.format
  pub clients : length c.next ≡ t.clients
  pub next : (client : ℕ) → next_of c client ≡ turn client t.records
  pub total : c.total ≡ length t.records
