use Rattle.std.proofs.Common.{◌≡◌, ℕ, ltb, true, false, subst, arith, rules}
use Rattle.std.specs.List.Sorted.{IsPartitionPoint}
use Rattle.std.proofs.lemmas.List.Sorted.{IsPartitionPoint-from_clause, IsPartitionedBy-ltb}
use Rattle.std.proofs.lemmas.Bool.{ltb-true, ltb-false}
use Rattle.cops_audit.proofs.Ascending.{maxima_rise}
use Rattle.cops_audit.proofs.Emptiness.{at_index}
use Rattle.cops_audit.proofs.climbing.first_from.Goals as goal

point : (c : goal.After-partition_point) → IsPartitionPoint (λ y. ltb y c.args.version ≡ true) (λ y. ltb y c.args.version ≡ false) c.args.maxima.now c.partition_point.result
point c = IsPartitionPoint-from_clause (λ (n : ℕ). ltb n c.args.version) c.args.maxima.now c.partition_point.result c.partition_point.ensures.partitioned
    (IsPartitionedBy-ltb (λ (n : ℕ). n) c.args.maxima.now c.args.version (maxima_rise c.requires.0 c.requires.1 c.args.maxima.now c.requires.2)) (λ a r q k. search rules)

pub returns-clause-before : goal.returns-clause-before
returns-clause-before c = λ i maximum less at.
    let here = at_index c.args.maxima.now i maximum maximum at in
    ltb-true maximum c.args.version (subst (λ (x : ℕ). ltb x c.args.version ≡ true) here.1 ((point c).0 i maximum (omega arith) less))

pub returns-clause-from : goal.returns-clause-from
returns-clause-from c = λ i maximum le at.
    let here = at_index c.args.maxima.now i maximum maximum at in
    ltb-false maximum c.args.version (subst (λ (x : ℕ). ltb x c.args.version ≡ false) here.1 ((point c).1 i maximum le here.0))
