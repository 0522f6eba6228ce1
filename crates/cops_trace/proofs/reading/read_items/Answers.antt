use Rattle.std.proofs.Common.{◌++◌, [], take, refl, sym, ◌∙◌, arith, ℕ, List}
use Rattle.std.proofs.lemmas.Result.{err_from_is_err_and}
use Rattle.std.proofs.lemmas.List.{length-append}
use Rattle.cops_trace.specs.Parsing.{SettledInto, stage_of}
use Rattle.cops_trace.proofs.Feeding.{settled_len, all_read, fault_read, stops_device, stops_no_cut}
use Rattle.cops_trace.proofs.Underway.{into_none}
use Rattle.cops_types.proofs.Devices.{consumed, consumed_none}
use Rattle.cops_trace.proofs.reading.read_items.Goals as goal

pub loop-init : goal.loop-init
loop-init g c =
    let parser = c.new-parser.result in
    record {
      read = ([], consumed_none _, into_none g.S.Sink.took parser.begun parser.reader c.new-parser.ensures.reader c.new-parser.ensures.begun, omega arith, omega arith);
      count = refl;
    }

pub take_piece-requires : goal.take_piece-requires
take_piece-requires g c = c.loop.invariant.read.2.into.underway

pub returns-in_err-take_piece-clause-err : goal.returns-in_err-take_piece-clause-err
returns-in_err-take_piece-clause-err g c =
    let r = c.loop.invariant.read in
    let p = err_from_is_err_and c.from_residual.result c.from_residual.ensures.1 in
    rw (p.1, p.2) (fault_read _ _ _ c.in_err-take_piece.field-0.0 (consumed _ _ _ _ _ r.1 c.in-Ok.ensures.bytes.0) (c.in_err-take_piece.ensures r.0 r.2.into))

pub returns-in_err-take_piece-clause-failed : goal.returns-in_err-take_piece-clause-failed
returns-in_err-take_piece-clause-failed g c = λ e.
    let r = c.loop.invariant.read in
    let p = err_from_is_err_and c.from_residual.result c.from_residual.ensures.1 in
    let stops = c.in_err-take_piece.ensures r.0 r.2.into in
    absurd (stops_device _ c.in_err-take_piece.field-0.0 stops (let same = sym p.1 ∙ e in let q = p.2 in cc))

pub loop-preserved : goal.loop-preserved
loop-preserved g c =
    let r = c.loop.invariant.read in
    let bytes = c.in-Ok.ensures.bytes in
    let bound = c.in-Ok.ensures.bound in
    let taken = take c.in-Ok.count c.read.new.buf in
    record {
      read = (r.0 ++ taken, consumed _ _ _ _ _ r.1 bytes.0, c.in_ok-take_piece.ensures r.0 r.2.into, omega (arith, length-append r.0 taken, bound.1, r.3, c.if-count-eq0.false), omega (arith, length-append r.0 taken, bound.0, bound.1, r.4));
      count = c.in-Ok.ensures.count ∙ c.loop.invariant.count;
    }

pub returns-then-count-eq0-clause-ok : goal.returns-then-count-eq0-clause-ok
returns-then-count-eq0-clause-ok g c =
    let r = c.loop.invariant.read in
    let read = c.in-Ok.ensures.bytes in
    let parser = c.loop.parser in
    let nothing = rw c.if-count-eq0.true at read.0 in
    all_read (λ (bytes : List ℕ). SettledInto g.S.Sink.took bytes parser.begun parser.reader) _ _ _ r.0 r.1 nothing (read.1 c.if-count-eq0.true (omega arith)) r.2

pub returns-clause-err : goal.returns-clause-err
returns-clause-err g c =
    let r = c.loop.invariant.read in
    let into = r.2.into in
    absurd (omega (arith, settled_len r.0 (stage_of into.underway.trace c.loop.parser.reader) into.state r.2.settled, r.3, c.loop-test.false))

pub returns-in_err-take_piece-clause-no_cut : goal.returns-in_err-take_piece-clause-no_cut
returns-in_err-take_piece-clause-no_cut g c =
    let r = c.loop.invariant.read in
    let p = err_from_is_err_and c.from_residual.result c.from_residual.ensures.1 in
    let stops = c.in_err-take_piece.ensures r.0 r.2.into in
    rw (p.1, p.2) (λ offset. stops_no_cut _ c.in_err-take_piece.field-0.0 offset stops)
