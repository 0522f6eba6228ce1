use Rattle.std.proofs.Common.{refl, arith}
use Rattle.cops_types.specs.declared.op.OpName.{OpName}
use Rattle.cops_audit.proofs.Searching.{finds_on, search_ends, search_finds, search_on}
use Rattle.cops_audit.proofs.search.look_through.Goals as goal

pub loop-index-preserved : goal.loop-index-preserved
loop-index-preserved c =
    let h = c.args.history.now.sessions in
    let name : OpName = record { client = c.args.range.client; index = c.loop-index.index } in
    record {
      searching = search_on h c.loop-index.search c.take_sources.new.search name c.args.range.to (omega arith) c.loop-index.invariant.searching c.in_ok-take_sources.ensures.takes c.in_ok-take_sources.ensures.sources;
      finds = finds_on h c.args.search.now c.loop-index.search c.take_sources.new.search c.loop-index.invariant.finds
          (search_finds h c.loop-index.search c.take_sources.new.search name (c.loop-index.invariant.searching.open_counted name (refl, omega arith, omega arith)) c.in_ok-take_sources.ensures.takes);
      work = omega (arith, c.in_ok-take_sources.ensures.work, c.loop-index.invariant.work);
    }

pub returns-clause-searching : goal.returns-clause-searching
returns-clause-searching c = search_ends c.args.history.now.sessions c.loop-index.search _ (λ n there. omega (arith, there.1, there.2)) c.loop-index.invariant.searching
