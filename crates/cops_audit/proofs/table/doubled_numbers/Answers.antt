use Rattle.std.proofs.Common.{true, sym, refl, arith}
use Rattle.std.proofs.Math.ListN.{length-set}
use Rattle.std.proofs.lemmas.Option.{slice_get_within}
use Rattle.cops_audit.proofs.Doubling.{report_all, report_more}
use Rattle.cops_audit.proofs.table.doubled_numbers.Goals as goal

pub index_mut-requires : goal.index_mut-requires
index_mut-requires c =
    let at = (c.in-Some.ensures.number c.in-Some.number).0 refl in
    omega (arith, slice_get_within c.args.history.now.puts c.in-Some.number c.index-put.result.now.name at, c.loop-k.invariant.len, c.loop-k.are_doubled.ok.0)

pub unreachable-requires : goal.unreachable-requires
unreachable-requires c =
    let h = c.args.history.now.sessions in
    let put = c.index-put.result.now in
    let own = ((c.in_ok-puts.ensures h c.requires).members put).0 (c.loop-k.k, omega (arith, c.loop-k-test.true, c.len-k-end.ensures, c.in_ok-puts.puts.ok.0), sym c.index-put.ensures) in
    c.in-None.ensures.none (put.version, own.0)

pub loop-k-preserved : goal.loop-k-preserved
loop-k-preserved c =
    let puts = c.args.history.now.puts in
    let put = c.index-put.result.now in
    let number = c.in-Some.number in
    let own = c.in-Some.ensures.number in
    let flags = c.loop-k.are_doubled.items in
    record {
      len = omega (arith, length-set flags number true, c.loop-k.invariant.len);
      report = report_more puts c.in_ok-puts.puts.items c.loop-k.k (omega (arith, c.loop-k-test.true, c.len-k-end.ensures, c.in_ok-puts.puts.ok.0)) put c.index-put.ensures number ((own number).0 refl)
          (λ n at. let both = (own n).1 at in cc) flags c.loop-k.invariant.len c.loop-k.invariant.report;
    }

pub returns : goal.returns
returns c = report_all c.args.history.now c.in_ok-puts.puts.items c.loop-k.k c.loop-k.are_doubled.items (omega (arith, c.loop-k-test.false, c.len-k-end.ensures, c.in_ok-puts.puts.ok.0))
    (c.in_ok-puts.ensures c.args.history.now.sessions c.requires) c.loop-k.invariant.len c.loop-k.invariant.report
