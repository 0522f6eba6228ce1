-- How a trace is stored: the sessions, and the clients in order of arrival.
use Rattle.std.specs.Prelude.{◌≡◌, ℕ, ◌<◌, ◌==◌, List, [], ◌∷◌, ◌++◌, length, count_by, slice_index_or}
use Rattle.cops_types.specs.declared.format.Format.{Format}
use Rattle.cops_types.specs.declared.limits.TheConstants.{MAX_CLIENT_OPS, MAX_OPS}
use Rattle.cops_types.specs.Format.{IsInFormat}
use Rattle.cops_types.specs.Histories.{Sessions, Operation, missed}
use Rattle.cops_trace.specs.Text.{ARecord, ATrace, IsTrace, sessions_of, turn}

-- the operation with this index in the client's session, which has to be there
abbrev pub op_in : Sessions → ℕ → ℕ → Operation
op_in h client index = slice_index_or (slice_index_or h client []) index (missed [])

-- the records of these arrivals, after earlier ones: each client's operations in their order
abbrev pub records_from : Sessions → List ℕ → List ℕ → List ARecord
records_from h earlier [] = []
records_from h earlier (c ∷ cs) = record { client = c; op = op_in h c (count_by (λ d. d == c) earlier) } ∷ records_from h (earlier ++ c ∷ []) cs

-- the trace of a format that is stored so
abbrev pub trace_of : Format → Sessions → List ℕ → ATrace
trace_of format h arrivals = record { format = format; clients = length h; records = records_from h [] arrivals }

-- the arrivals are an order of the sessions' operations: each client comes as often as its session has operations
abbrev pub IsOrder : Sessions → List ℕ → Type 0
IsOrder h arrivals = (client : ℕ) → count_by (λ d. d == client) arrivals ≡ length (slice_index_or h client [])

-- the stored data is a trace, and the sessions are those that it records
pub record IsKept (format : Format) (h : Sessions) (arrivals : List ℕ) : Type 0 where
  pub is_trace : IsTrace (trace_of format h arrivals)
  pub sessions : h ≡ sessions_of (trace_of format h arrivals)

-- the trace with one more record
abbrev pub grown : ATrace → ARecord → ATrace
grown t r = record { format = t.format; clients = t.clients; records = t.records ++ r ∷ [] }

-- the client, or the trace, has the most operations allowed
abbrev pub IsFull : ATrace → ℕ → Type 0
IsFull t client = (turn client t.records < MAX_CLIENT_OPS × length t.records < MAX_OPS) → ⊥

-- the client may have one more record
abbrev pub MayGrow : ATrace → ℕ → Type 0
MayGrow t client = (client < t.clients) × (turn client t.records < MAX_CLIENT_OPS) × (length t.records < MAX_OPS)

-- the trace may have this record as its next: the operation is in the trace's format too
abbrev pub MayHave : ATrace → ARecord → Type 0
MayHave t r = MayGrow t r.client × IsInFormat t.format r.op
