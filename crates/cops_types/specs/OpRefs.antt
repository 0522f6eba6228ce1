-- Operations borrowed from a history.
use Rattle.std.specs.Prelude.{option_copied}
use Rattle.cops_types.specs.Histories.{Operation, write, read, missed}
use Rattle.cops_types.specs.declared.op_ref.OpRef.{OpRef}
use Rattle.cops_types.specs.declared.op_ref.OpRef.TheVariants.{Put, Got, Missed}

-- the borrowed operation
abbrev pub seen : OpRef → Operation
seen (Put key value version) = write key.now (option_copied value) version.now
seen (Got key value version) = read key.now (option_copied value) version.now
seen (Missed key) = missed key.now
