use Rattle.std.proofs.Common.{◌≡◌, ◌≤◌, ℕ, List, [], length}
use Rattle.std.specs.Io.KnownBytes.{Consumes}
use Rattle.cops_types.specs.Counted.{failures, inner}
use Rattle.cops_types.specs.declared.counted.Counted.{Counted}
use Rattle.cops_import.specs.Underway.{IsUnderway, expected_of, rules_of}
use Rattle.cops_import.proofs.reading.read_lines.Given as goal

abbrev pub invariant-loop : goal.invariant-loop
invariant-loop g l =
    let remaining = g.R.Read.remaining in
    record {
      fed : (fed : List ℕ) × Consumes (remaining (inner l.fn.lines)) (remaining (inner l.lines)) fed × (l.counter ≤ length fed)
          × ((from : Counted g.row.W.Denot) → IsUnderway g.W.Write.contents from [] l.fn.importer → IsUnderway g.W.Write.contents from fed l.importer);
      count : failures l.lines ≡ failures l.fn.lines;
      expected : expected_of l.importer ≡ expected_of l.fn.importer;
      rules : rules_of l.importer ≡ rules_of l.fn.importer;
    }
