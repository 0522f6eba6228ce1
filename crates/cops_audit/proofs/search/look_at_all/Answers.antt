use Rattle.std.proofs.Common.{refl, arith}
use Rattle.std.proofs.lemmas.List.{nil_from_length}
use Rattle.cops_audit.proofs.Searching.{finds_on, search_done, search_popped}
use Rattle.cops_audit.proofs.search.look_at_all.Goals as goal

pub look_through-requires-clause-searching : goal.look_through-requires-clause-searching
look_through-requires-clause-searching c = search_popped c.args.history.now.sessions c.loop-range.search _ c.in-Some.range refl c.in-Some.ensures.items c.loop-range.invariant.searching

pub loop-range-preserved : goal.loop-range-preserved
loop-range-preserved c = record {
  searching = c.in_ok-look_through.ensures.searching;
  finds = finds_on c.args.history.now.sessions c.args.search.now c.loop-range.search c.look_through.new.search c.loop-range.invariant.finds
      (record { kept = c.in_ok-look_through.ensures.finds.kept; past = c.in_ok-look_through.ensures.finds.past });
}

pub returns-clause-searching : goal.returns-clause-searching
returns-clause-searching c = search_done c.args.history.now.sessions c.loop-range.search _ refl (nil_from_length c.loop-range.search.pending.items (omega (arith, c.in_default.ensures.cases.0))) (nil_from_length c.pop.new.self.items (omega (arith, c.in_default.ensures.cases.1))) c.loop-range.invariant.searching
