use Rattle.std.proofs.Common.{◌≡◌, map}
use Rattle.cops_check.specs.Numbers.{numbers_after, op_lines}
use Rattle.cops_check.proofs.numbers.op_lines.Given as goal

abbrev pub invariant-loop-client : goal.invariant-loop-client
invariant-loop-client l = numbers_after (map (λ numbers. numbers.items) l.table.items) l.client-iterator.a.rest.now l.client-iterator.b.rest.now ≡ op_lines l.fn.clients l.fn.arrivals l.fn.numbers
