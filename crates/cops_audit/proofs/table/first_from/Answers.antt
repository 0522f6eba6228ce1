use Rattle.std.proofs.Common.{ltb, arith, rules}
use Rattle.std.proofs.lemmas.List.Sorted.{IsPartitionPoint-from_clause, IsPartitionedBy-ltb}
use Rattle.std.proofs.lemmas.Bool.{ltb-false, ltb-true}
use Rattle.cops_types.specs.declared.versioned_put.VersionedPut.{VersionedPut}
use Rattle.cops_audit.proofs.Places.{never_falls}
use Rattle.cops_audit.proofs.table.first_from.Goals as goal

pub returns-clause-before : goal.returns-clause-before
returns-clause-before c =
    let point = IsPartitionPoint-from_clause (λ (p : VersionedPut). ltb p.version c.as_u64-version.result) c.args.table.now c.partition_point.result c.partition_point.ensures.partitioned
    (IsPartitionedBy-ltb (λ (p : VersionedPut). p.version) c.args.table.now c.as_u64-version.result (never_falls c.args.table.now c.requires)) (λ a r q k. search rules) in
    λ k d less. omega (arith, ltb-true _ _ (point.0 k d (omega arith) less), c.as_u64-version.ensures.number)

pub returns-clause-from : goal.returns-clause-from
returns-clause-from c =
    let point = IsPartitionPoint-from_clause (λ (p : VersionedPut). ltb p.version c.as_u64-version.result) c.args.table.now c.partition_point.result c.partition_point.ensures.partitioned
    (IsPartitionedBy-ltb (λ (p : VersionedPut). p.version) c.args.table.now c.as_u64-version.result (never_falls c.args.table.now c.requires)) (λ a r q k. search rules) in
    λ k d le inside. omega (arith, ltb-false _ _ (point.1 k d le inside), c.as_u64-version.ensures.number)
