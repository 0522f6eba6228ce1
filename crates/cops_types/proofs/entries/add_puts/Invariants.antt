use Rattle.std.proofs.Common.{◌≡◌, map, take}
use Rattle.std.specs.Prelude.{vec_capacity}
use Rattle.cops_types.specs.Slots.{versioned}
use Rattle.cops_types.proofs.entries.add_puts.Given as goal

abbrev pub invariant-loop-put : goal.invariant-loop-put
invariant-loop-put l = record {
  puts : l.to.items ≡ map versioned (take l.put-index l.puts);
  capacity : vec_capacity l.to ≡ vec_capacity l.fn.to;
}
