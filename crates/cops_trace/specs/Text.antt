-- Traces, the only text of each, and the sessions that it records.
use Rattle.std.specs.Prelude.{ℕ, ◌<◌, ◌≤◌, ◌^◌, List, [], ◌∷◌, ◌++◌, length, count_by, replicate, ◌==◌}
use Rattle.std.specs.List.{AllByRecursion}
use Rattle.cops_types.specs.declared.limits.TheConstants.{MAX_CLIENT_OPS, MAX_OPS}
use Rattle.cops_types.specs.declared.format.Format.{Format}
use Rattle.cops_types.specs.Format.{Fits, number_of}
use Rattle.cops_types.specs.KeyValue.{IsKey}
use Rattle.cops_types.specs.Version.{IsVersion}
use Rattle.cops_types.specs.Histories.{Sessions, Operation, write, read, missed, with_op}
use Rattle.cops_wire.specs.declared.message.Message.TheVariants.{TraceHead, TraceEnd}
use Rattle.cops_wire.specs.Message.{encoded}
use Rattle.cops_wire.specs.Records.{record_message}
use Rattle.cops_trace.specs.declared.record.Record.{Record}
use Rattle.cops_types.specs.Operations.{operation_of}

-- one operation of one client
pub record ARecord : Type 0 where
  pub client : ℕ
  pub op : Operation

abbrev pub record_of : Record → ARecord
record_of r = record { client = r.client; op = operation_of r.op }

-- a format, a number of clients, and their operations in order of arrival
pub record ATrace : Type 0 where
  pub format : Format
  pub clients : ℕ
  pub records : List ARecord

-- the sessions after these records: each adds its operation at the end of its client's session
abbrev pub sessions_after : Sessions → List ARecord → Sessions
sessions_after h [] = h
sessions_after h (r ∷ rs) = sessions_after (with_op h r.client r.op) rs

-- the sessions that a trace records
abbrev pub sessions_of : ATrace → Sessions
sessions_of t = sessions_after (replicate t.clients []) t.records

-- the number of the client's records
abbrev pub turn : ℕ → List ARecord → ℕ
turn client records = count_by (λ r. r.client == client) records

-- the operation has an encoding in the format
abbrev pub IsOp : Format → Operation → Type 0
IsOp format (write key content version) = IsKey key × Fits format content × IsVersion version
IsOp format (read key content version) = IsKey key × Fits format content × IsVersion version
IsOp format (missed key) = IsKey key

-- the clients are in range, the operations are legal, and the limits hold
pub record IsTrace (t : ATrace) : Type 0 where
  pub clients : t.clients < 2 ^ 16
  pub named : AllByRecursion (λ r. (r.client < t.clients) × IsOp t.format r.op) t.records
  pub each : (client : ℕ) → turn client t.records ≤ MAX_CLIENT_OPS
  pub all : length t.records ≤ MAX_OPS

-- the encoding of a record that comes after these: its index is the number of its client's earlier ones
abbrev pub record_text : List ARecord → ARecord → List ℕ
record_text earlier r = encoded (record_message r.client (turn r.client earlier) r.op)

-- the encodings of records that come after these
abbrev pub records_text : List ARecord → List ARecord → List ℕ
records_text earlier [] = []
records_text earlier (r ∷ rs) = record_text earlier r ++ records_text (earlier ++ r ∷ []) rs

-- the head, which names the format, and the records
unfoldable pub beginning : ATrace → List ℕ
beginning t = encoded (TraceHead (number_of t.format) t.clients) ++ records_text [] t.records

-- the end, which counts the records
abbrev pub end_text : ATrace → List ℕ
end_text t = encoded (TraceEnd (length t.records))

-- the head, the records and the end
abbrev pub text : ATrace → List ℕ
text t = beginning t ++ end_text t
