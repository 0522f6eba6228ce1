-- The state of a recorder: records in order of arrival, and the reserved slots.
use Rattle.std.specs.Prelude.{◌≡◌, ℕ, ◌+◌, ◌-◌, ◌<◌, ◌≤◌, ◌^◌, List, [], ◌∷◌, ◌++◌, length, map, All, slice_index_or, slice_set, ◌⊎◌}
use Rattle.std.specs.List.{sum_by}
use Rattle.cops_types.specs.declared.format.Format.{Format}
use Rattle.cops_types.specs.Format.{IsInFormat}
use Rattle.cops_types.specs.Operations.{operation_of}
use Rattle.cops_types.specs.declared.limits.TheConstants.{MAX_CLIENT_OPS, MAX_OPS}
use Rattle.cops_types.specs.declared.op.Op.{Op}
use Rattle.cops_trace.specs.declared.record.Record.{Record}
use Rattle.cops_trace.specs.Text.{ATrace, record_of, turn}
use Rattle.cops_record.specs.declared.records.Seat.{Seat}

-- the format of the trace, the records in order of arrival, and a seat for each client
pub record State : Type 0 where
  pub format : Format
  pub records : List Record
  pub seats : List Seat

abbrev pub seat : ℕ → ℕ → Seat
seat filled reserved = record { filled = filled; reserved = reserved }

-- the seat of a client, or an empty one where there is no such client
abbrev pub seat_of : State → ℕ → Seat
seat_of s client = slice_index_or s.seats client (seat 0 0)

-- one more slot is reserved for the client
abbrev pub with_slot : State → ℕ → State
with_slot s client = record s { seats = slice_set s.seats client (seat (seat_of s client).filled ((seat_of s client).reserved + 1)) }

-- one slot fewer is reserved for the client
abbrev pub without_slot : State → ℕ → State
without_slot s client = record s { seats = slice_set s.seats client (seat (seat_of s client).filled ((seat_of s client).reserved - 1)) }

-- a slot of the client is filled: its operation becomes the next record
abbrev pub with_op : State → ℕ → Op → State
with_op s client op =
    record {
      format = s.format;
      records = s.records ++ record { client = client; op = op } ∷ [];
      seats = slice_set s.seats client (seat ((seat_of s client).filled + 1) ((seat_of s client).reserved - 1));
    }

-- the number of all reserved slots
abbrev pub slots : List Seat → ℕ
slots seats = sum_by (λ (s : Seat). s.reserved) seats

-- the client has 1,000,000 records and slots, or all clients together have 16,000,000
abbrev pub IsFull : State → ℕ → Type 0
IsFull s client = ((seat_of s client).filled + (seat_of s client).reserved ≡ MAX_CLIENT_OPS) ⊎ (length s.records + slots s.seats ≡ MAX_OPS)

-- the trace of what was recorded
abbrev pub recorded : State → ATrace
recorded s = record { format = s.format; clients = length s.seats; records = map record_of s.records }

-- the records are in the format, the seats count those of their clients, and records and slots together are within a trace's limits
pub record IsKept (format : Format) (seats : List Seat) (records : List Record) (reserved capacity : ℕ) : Type 0 where
  pub clients : length seats < 2 ^ 16
  pub known : All (λ (r : Record). r.client < length seats) records
  pub in_format : All (λ (r : Record). IsInFormat format (operation_of r.op)) records
  pub counted : (c : ℕ) (d : Seat) → c < length seats → (slice_index_or seats c d).filled ≡ turn c (map record_of records)
  pub session : (c : ℕ) (d : Seat) → c < length seats → (slice_index_or seats c d).filled + (slice_index_or seats c d).reserved ≤ MAX_CLIENT_OPS
  pub all_slots : reserved ≡ slots seats
  pub total : length records + reserved ≤ MAX_OPS
  pub room : length records + reserved ≤ capacity
