use Rattle.std.proofs.Common.{◌≡◌, take}
use Rattle.cops_record.proofs.records.Records.copy_from.Given as goal

abbrev pub invariant-loop-record : goal.invariant-loop-record
invariant-loop-record l = l.copies.items ≡ take l.record-index l.rest
