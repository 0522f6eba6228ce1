-- Records of a trace: the message of each record, and the record of a message.
use Rattle.std.specs.Prelude.{ℕ, Option, Some, None}
use Rattle.cops_types.specs.Histories.{Operation, write, read, missed}
use Rattle.cops_types.specs.OpViews.{viewed}
use Rattle.cops_types.specs.declared.op.Op.TheVariants.{Put, Del, Got, Gone, Missed}
use Rattle.cops_wire.specs.declared.message.Message.{Message}
use Rattle.cops_wire.specs.declared.message.Message.TheVariants.{TracePut, TraceGot, TraceMissed, TraceDel, TraceGone}
use Rattle.cops_wire.specs.declared.record.TraceRecord.{TraceRecord}
use Rattle.cops_wire.specs.declared.record_view.RecordView.{RecordView}

-- the message of a client's operation at this index of its session
abbrev pub record_message : ℕ → ℕ → Operation → Message
record_message client index (write key (Some value) version) = TracePut client index key value version
record_message client index (read key (Some value) version) = TraceGot client index key value version
record_message client index (missed key) = TraceMissed client index key
record_message client index (write key None version) = TraceDel client index key version
record_message client index (read key None version) = TraceGone client index key version

-- the record of a message, if the message is one
abbrev pub record_of_message : Message → Option TraceRecord
record_of_message (TracePut client index key value version) = Some (record { client = client; index = index; op = Put key value version })
record_of_message (TraceGot client index key value version) = Some (record { client = client; index = index; op = Got key value version })
record_of_message (TraceMissed client index key) = Some (record { client = client; index = index; op = Missed key })
record_of_message (TraceDel client index key version) = Some (record { client = client; index = index; op = Del key version })
record_of_message (TraceGone client index key version) = Some (record { client = client; index = index; op = Gone key version })
record_of_message _ = None

-- the message of a borrowed record
abbrev pub borrowed_message : RecordView → Message
borrowed_message r = record_message r.client r.index (viewed r.op)
