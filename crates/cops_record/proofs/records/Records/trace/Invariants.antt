use Rattle.std.proofs.Common.{◌≡◌}
use Rattle.cops_record.proofs.Turns.{front}
use Rattle.cops_record.proofs.records.Records.trace.Given as goal

abbrev pub invariant-loop-record : goal.invariant-loop-record
invariant-loop-record l = (l.record-items ≡ l.self.records) × (l.trace ≡ front l.self l.record-index)
