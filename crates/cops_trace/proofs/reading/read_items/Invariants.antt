use Rattle.std.proofs.Common.{◌≡◌, ℕ, ◌*◌, ◌≤◌, List, length}
use Rattle.std.specs.Io.KnownBytes.{Consumes}
use Rattle.cops_types.specs.Counted.{failures, inner}
use Rattle.cops_trace.specs.Parsing.{SettledInto}
use Rattle.cops_trace.proofs.reading.read_items.Given as goal

abbrev pub invariant-loop : goal.invariant-loop
invariant-loop g l =
    let remaining = g.R.Read.remaining in
    let took = g.S.Sink.took in
    record {
      read : (fed : List ℕ) × Consumes (remaining (inner l.fn.reader)) (remaining (inner l.reader)) fed × SettledInto took fed l.parser.begun l.parser.reader × (l.counter ≤ length fed) × (length fed ≤ 65536 * l.counter);
      count : failures l.reader ≡ failures l.fn.reader;
    }
