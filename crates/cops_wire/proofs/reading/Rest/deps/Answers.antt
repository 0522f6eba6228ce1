use Rattle.std.proofs.Common.{refl, arith}
use Rattle.cops_types.specs.Format.{most_deps}
use Rattle.cops_wire.proofs.Pairs.{deps_read, deps_refused}
use Rattle.cops_wire.proofs.Answering.{most_deps_le}
use Rattle.cops_wire.proofs.reading.Rest.deps.Goals as goal

pub returns-in-Ok-new-clause-field : goal.returns-in-Ok-new-clause-field
returns-in-Ok-new-clause-field c =
    let ok = c.in-Ok-new.ensures.ok in
    let read = deps_read (most_deps c.args.self.now.format) c.args.self.now.bytes.now c.in_ok-count.count c.u16.new.self.bytes.now c.in-Ok.pairs.items c.pairs.new.self.bytes.now c.in_ok-count.ensures.field (omega (arith, c.most_deps-most.ensures)) c.in-Ok.ensures.field ok.1.1.0 in
    rw ok.0 read

pub returns-in-Err-new-clause-field : goal.returns-in-Err-new-clause-field
returns-in-Err-new-clause-field c =
    let refused = deps_refused (most_deps c.args.self.now.format) c.args.self.now.bytes.now c.in_ok-count.count c.u16.new.self.bytes.now c.in-Ok.pairs.items c.pairs.new.self.bytes.now c.in_ok-count.ensures.field (omega (arith, c.most_deps-most.ensures)) c.in-Ok.ensures.field (λ le. c.in-Err-new.ensures.bad (omega (arith, le, most_deps_le c.args.self.now.format))) in
    rw c.bad-bad.ensures (refused, refl)
