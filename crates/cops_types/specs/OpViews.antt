-- Operations that are borrowed as bytes.
use Rattle.std.specs.Prelude.{Some, None}
use Rattle.cops_types.specs.Histories.{Operation, write, read, missed}
use Rattle.cops_types.specs.declared.op.Op.{Op}
use Rattle.cops_types.specs.declared.op.Op.TheVariants.{Put, Del, Got, Gone, Missed}
use Rattle.cops_types.specs.declared.op_view.OpView.{OpView}
use Rattle.cops_types.specs.declared.op_view.OpView.TheVariants.{Put as SeenPut, Got as SeenGot, Missed as SeenMissed}

-- the operation that is borrowed
abbrev pub viewed : OpView → Operation
viewed (SeenPut key value version) = write key value version
viewed (SeenGot key value version) = read key value version
viewed (SeenMissed key) = missed key

-- the operation with a key and a value of its own
abbrev pub op_viewed : OpView → Op
op_viewed (SeenPut key (Some value) version) = Put key value version
op_viewed (SeenPut key None version) = Del key version
op_viewed (SeenGot key (Some value) version) = Got key value version
op_viewed (SeenGot key None version) = Gone key version
op_viewed (SeenMissed key) = Missed key
