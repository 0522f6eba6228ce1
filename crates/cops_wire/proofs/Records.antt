-- A record and its message are one.
use Rattle.std.proofs.Common.{◌≡◌, ℕ, Some, None, refl}
use Rattle.cops_types.specs.Operations.{operation_of}
use Rattle.cops_types.specs.OpViews.{op_viewed, viewed}
use Rattle.cops_types.specs.declared.op.Op.{Op}
use Rattle.cops_types.specs.declared.op.Op.TheVariants.{Put, Del, Got, Gone, Missed}
use Rattle.cops_types.specs.declared.op_view.OpView.{OpView}
use Rattle.cops_types.specs.declared.op_view.OpView.TheVariants.{Put as SeenPut, Got as SeenGot, Missed as SeenMissed}
use Rattle.cops_wire.specs.Records.{record_message, record_of_message}
use Rattle.cops_wire.specs.declared.message.Message.{Message}
use Rattle.cops_wire.specs.declared.message.Message.TheVariants.{TracePut, TraceGot, TraceMissed, TraceDel, TraceGone}
use Rattle.cops_wire.specs.declared.record.TraceRecord.{TraceRecord}

pub record_again : (client index : ℕ) (op : Op) → record_of_message (record_message client index (operation_of op)) ≡ Some (record { client = client; index = index; op = op })
record_again client index (Put key value version) = refl
record_again client index (Got key value version) = refl
record_again client index (Del key version) = refl
record_again client index (Gone key version) = refl
record_again client index (Missed key) = refl

-- the same of an operation that is borrowed
pub borrowed_again : (client index : ℕ) (op : OpView) → record_of_message (record_message client index (viewed op)) ≡ Some (record { client = client; index = index; op = op_viewed op })
borrowed_again client index (SeenPut key (Some value) version) = refl
borrowed_again client index (SeenPut key None version) = refl
borrowed_again client index (SeenGot key (Some value) version) = refl
borrowed_again client index (SeenGot key None version) = refl
borrowed_again client index (SeenMissed key) = refl

pub message_is : (m : Message) (r : TraceRecord) → record_of_message m ≡ Some r → m ≡ record_message r.client r.index (operation_of r.op)
message_is (TracePut client index key value version) r is = let same : record { client = client; index = index; op = Put key value version } ≡ r = cc in rw (← same) refl
message_is (TraceGot client index key value version) r is = let same : record { client = client; index = index; op = Got key value version } ≡ r = cc in rw (← same) refl
message_is (TraceMissed client index key) r is = let same : record { client = client; index = index; op = Missed key } ≡ r = cc in rw (← same) refl
message_is (TraceDel client index key version) r is = let same : record { client = client; index = index; op = Del key version } ≡ r = cc in rw (← same) refl
message_is (TraceGone client index key version) r is = let same : record { client = client; index = index; op = Gone key version } ≡ r = cc in rw (← same) refl
message_is _ r is = absurd cc
