use Rattle.std.proofs.Common.{◌≡◌, ℕ, List, ◌++◌, length}
use Rattle.cops_types.specs.declared.counted.Counted.{Counted}
use Rattle.cops_import.specs.Underway.{IsUnderway, expected_of, rules_of}
use Rattle.cops_import.proofs.importer.Importer.take_piece.Given as goal

abbrev pub invariant-loop-part : goal.invariant-loop-part
invariant-loop-part g l = record {
  read : (before : List ℕ) × (l.piece ≡ before ++ l.rest) × ((from : Counted g.row.W.Denot) (fed : List ℕ) → IsUnderway g.W.Write.contents from fed l.fn.self → IsUnderway g.W.Write.contents from (fed ++ before) l.self);
  expected : expected_of l.self ≡ expected_of l.fn.self;
  rules : rules_of l.self ≡ rules_of l.fn.self;
}

abbrev pub decreases-loop-part : goal.decreases-loop-part
decreases-loop-part g l = length l.rest
