use Rattle.std.proofs.Common.{◌≡◌, true, sym, ap, subst}
use Rattle.cops_types.specs.Histories.{SourceStep}
use Rattle.cops_types.specs.Operations.{GetsVersion}
use Rattle.cops_types.specs.declared.versioned_put.VersionedPut.{VersionedPut}
use Rattle.cops_audit.proofs.Collect.{item_at}
use Rattle.cops_audit.proofs.Places.{stands_item, same_put_at}
use Rattle.cops_audit.proofs.Gets.{divides_at, source_at}
use Rattle.cops_audit.proofs.summaries.see_source.Goals as goal

pub returns-then-is_source : goal.returns-then-is_source
returns-then-is_source c =
    let put = c.index-table-place.result in
    let here = stands_item c.args.table.now c.args.place put c.requires.inside c.index-table-place.is in
    let gets = subst (GetsVersion c.args.history.now.sessions c.args.got) (ap (λ (p : VersionedPut). p.version) (sym c.index-table-place.is)) (c.requires.version put) in
    (put.name, put.version, here, gets, c.is_source.ensures.source.0 c.if-is_source.true)

pub returns-else-is_source : goal.returns-else-is_source
returns-else-is_source c =
    let h = c.args.history.now.sessions in
    let put = c.index-table-place.result in
    let here = stands_item c.args.table.now c.args.place put c.requires.inside c.index-table-place.is in
    let gets = subst (GetsVersion h c.args.got) (ap (λ (p : VersionedPut). p.version) (sym c.index-table-place.is)) (c.requires.version put) in (
      record {
        key = gets.0;
        content = gets.1;
        version = put.version;
        got = gets.2;
        none = λ other s.
            let there = source_at h c.args.table.now c.requires.table other c.args.got put.version c.args.place gets c.requires.inside (λ d. ap (λ (p : VersionedPut). p.version) (item_at c.args.table.now c.args.place put d c.requires.inside c.index-table-place.is)) s in
            let same = (same_put_at c.args.table.now c.requires.table.rising c.args.place other put.name put.version put.version there here).0 in
            let is : c.is_source.result ≡ true = c.is_source.ensures.source.1 (subst (λ p. SourceStep h p c.args.got) same s) in
            cc;
      },
      divides_at h c.args.table.now c.requires.table c.args.place put.name put.version here,
    )
