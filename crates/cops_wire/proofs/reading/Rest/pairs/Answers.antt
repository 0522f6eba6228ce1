use Rattle.std.proofs.Common.{◌∙◌}
use Rattle.std.proofs.lemmas.Result.{err_from_is_err_and}
use Rattle.cops_wire.specs.Reading.{pairs_at}
use Rattle.cops_wire.proofs.Pairs.{goes_on, stops, is_done}
use Rattle.cops_wire.proofs.reading.Rest.pairs.Goals as goal

pub returns-in_err-pair-clause-field : goal.returns-in_err-pair-clause-field
returns-in_err-pair-clause-field c =
    let p = err_from_is_err_and c.from_residual-in_err-pair.result c.from_residual-in_err-pair.ensures.1 in
    rw (p.1, p.2) (stops c.in_err-pair.field-0.0 c.loop.pairs.items c.args.count c.loop.counter c.loop.self.bytes.now (pairs_at c.args.count c.args.self.now.bytes.now) c.loop-test.true c.in_err-pair.ensures.field c.loop.invariant.read)

pub loop-preserved : goal.loop-preserved
loop-preserved c =
    record { read = rw c.in_ok-push.ensures.items (goes_on c.loop.pairs.items c.args.count c.loop.counter c.loop.self.bytes.now c.in_ok-pair.pair c.pair.new.self.bytes.now (pairs_at c.args.count c.args.self.now.bytes.now) c.loop-test.true c.in_ok-pair.ensures.field c.loop.invariant.read); format = c.in_ok-pair.ensures.format ∙ c.loop.invariant.format }

pub returns-clause-field : goal.returns-clause-field
returns-clause-field c = is_done c.loop.pairs.items c.args.count c.loop.counter c.loop.self.bytes.now (pairs_at c.args.count c.args.self.now.bytes.now) c.loop-test.false c.loop.invariant.read
