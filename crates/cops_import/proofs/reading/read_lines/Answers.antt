use Rattle.std.proofs.Common.{◌++◌, ◌^◌, take, ◌∙◌, arith}
use Rattle.std.proofs.lemmas.List.{length-append}
use Rattle.cops_types.specs.Counted.{inner}
use Rattle.cops_types.proofs.Devices.{consumed}
use Rattle.cops_import.proofs.Inputs.{all_read, fault_as, fault_read, long_read}
use Rattle.cops_import.proofs.Records.{cut_so_far}
use Rattle.cops_import.proofs.reading.read_lines.Goals as goal

pub returns-in-Err-clause-err : goal.returns-in-Err-clause-err
returns-in-Err-clause-err g c = λ from u.
    let now = c.loop.invariant.fed.3 from u in
    record { cut = cut_so_far g.W.Write.contents from _ _ now.taken.ops.wrote; heard = now.taken.ops.wrote.heard }

pub returns-in-Err-take_piece-clause-err : goal.returns-in-Err-take_piece-clause-err
returns-in-Err-take_piece-clause-err g c = λ from u. (c.in-Err-take_piece.ensures.err from c.loop.invariant.fed.0 (c.loop.invariant.fed.3 from u)).left

pub returns-in-Err-take_piece-clause-fault : goal.returns-in-Err-take_piece-clause-fault
returns-in-Err-take_piece-clause-fault g c = λ from u.
    let read = c.loop.invariant.fed in
    let stop = c.in-Err-take_piece.ensures.err from read.0 (read.3 from u) in
    fault_as _ _ _ _ _ c.in-Err-take_piece.fault c.loop.invariant.rules c.loop.invariant.expected
    (fault_read _ _ _ read.0 (take c.in-Ok.count c.read.new.buf) _ _ c.in-Err-take_piece.fault read.1 c.in-Ok.ensures.bytes.0 stop.says)

pub loop-preserved : goal.loop-preserved
loop-preserved g c =
    let read = c.loop.invariant.fed in
    let taken = take c.in-Ok.count c.read.new.buf in
    record {
      fed = (read.0 ++ taken, consumed _ _ _ read.0 taken read.1 c.in-Ok.ensures.bytes.0, omega (arith, length-append read.0 taken, c.in-Ok.ensures.bound.1, read.2, c.if-count-eq0.false), λ from u. c.in-Ok-take_piece.ensures.ok from read.0 (read.3 from u));
      count = c.in-Ok.ensures.count ∙ c.loop.invariant.count;
      expected = c.in-Ok-take_piece.ensures.expected ∙ c.loop.invariant.expected;
      rules = c.in-Ok-take_piece.ensures.rules ∙ c.loop.invariant.rules;
    }

pub returns-then-count-eq0-clause-ok : goal.returns-then-count-eq0-clause-ok
returns-then-count-eq0-clause-ok g c = λ from u.
    let read = c.loop.invariant.fed in
    let bytes = c.in-Ok.ensures.bytes in
    (read.0, read.3 from u, all_read _ _ _ read.0 read.1 (rw c.if-count-eq0.true at bytes.0) (bytes.1 c.if-count-eq0.true (omega arith)))

pub returns-clause-err : goal.returns-clause-err
returns-clause-err g c = λ from u.
    let now = c.loop.invariant.fed.3 from u in
    record { cut = cut_so_far g.W.Write.contents from _ _ now.taken.ops.wrote; heard = now.taken.ops.wrote.heard }

pub returns-clause-fault : goal.returns-clause-fault
returns-clause-fault g c = λ from u.
    let read = c.loop.invariant.fed in
    long_read (g.R.Read.remaining (inner c.args.lines.now)) (g.R.Read.remaining (inner c.loop.lines)) read.0 (2 ^ 40) read.1 (omega (arith, read.2, c.loop-test.false))
