use Rattle.std.proofs.Common.{List, subst, sym}
use Rattle.std.proofs.lemmas.List.{take_rest}
use Rattle.cops_types.specs.declared.versioned_put.VersionedPut.{VersionedPut}
use Rattle.cops_report.specs.Puts.{HasPut}
use Rattle.cops_report.proofs.PutLemmas.{from_all}
use Rattle.cops_report.proofs.puts.from_version.Goals as goal

pub returns-clause-all : goal.returns-clause-all
returns-clause-all c n has =
    let puts = c.args.puts.now in
    let start = c.first_from.result in
    subst (λ (xs : List VersionedPut). HasPut xs n c.args.version) (sym (take_rest puts start)) (from_all puts c.args.version start c.first_from.ensures.before n has)
