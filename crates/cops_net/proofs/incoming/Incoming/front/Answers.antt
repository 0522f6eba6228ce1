use Rattle.std.proofs.Common.{arith}
use Rattle.cops_net.proofs.Encodings.{taken_off, taken_len}
use Rattle.cops_net.proofs.incoming.Incoming.front.Goals as goal

pub overflow_sub-self : goal.overflow_sub-self
overflow_sub-self c =
    let h = rw c.in-Ok-Some.field-0-is at c.in-Ok-Some.ensures.next in
    let off = taken_off c.args.self.now.feeder.format c.in-Ok-Some.message c.args.self.now.feeder.rest c.next.new.self.rest h.0 h.1 in
    omega (arith, taken_len c.in-Ok-Some.message c.args.self.now.feeder.rest c.next.new.self.rest off, c.body_len.ensures, c.args.self.now.counts)

pub overflow_sub-self-in-Ok-Some : goal.overflow_sub-self-in-Ok-Some
overflow_sub-self-in-Ok-Some c =
    let h = rw c.in-Ok-Some.field-0-is at c.in-Ok-Some.ensures.next in
    let off = taken_off c.args.self.now.feeder.format c.in-Ok-Some.message c.args.self.now.feeder.rest c.next.new.self.rest h.0 h.1 in
    omega (arith, taken_len c.in-Ok-Some.message c.args.self.now.feeder.rest c.next.new.self.rest off, c.body_len.ensures, c.args.self.now.counts)

pub invariant_of-self : goal.invariant_of-self
invariant_of-self c =
    let h = rw c.in-Ok-Some.field-0-is at c.in-Ok-Some.ensures.next in
    let off = taken_off c.args.self.now.feeder.format c.in-Ok-Some.message c.args.self.now.feeder.rest c.next.new.self.rest h.0 h.1 in
    omega (arith, taken_len c.in-Ok-Some.message c.args.self.now.feeder.rest c.next.new.self.rest off, c.body_len.ensures, c.args.self.now.counts)

pub returns-in-Ok-Some-clause-front : goal.returns-in-Ok-Some-clause-front
returns-in-Ok-Some-clause-front c =
    let h = rw c.in-Ok-Some.field-0-is at c.in-Ok-Some.ensures.next in
    (h.0, taken_off c.args.self.now.feeder.format c.in-Ok-Some.message c.args.self.now.feeder.rest c.next.new.self.rest h.0 h.1)
