use Rattle.std.proofs.Common.{◌≡◌, ◌<◌, ℕ, Some, length, arith, refl, slice_get, slice_index_or}
use Rattle.std.proofs.Math.ListN.{length-set}
use Rattle.cops_types.proofs.Sessions.{puts-le}
use Rattle.cops_types.specs.declared.versioned_put.VersionedPut.{VersionedPut}
use Rattle.cops_audit.proofs.Places.{inside_table, put_at, stands_at}
use Rattle.cops_audit.proofs.Fitting.{no_ok}
use Rattle.cops_audit.proofs.Positions.{all_more, number_inside, reported_more}
use Rattle.cops_audit.proofs.put_places.set_places.Goals as goal

pub index_mut-requires : goal.index_mut-requires
index_mut-requires c =
    let own = c.in-Some.ensures.number in
    omega (
      arith,
      number_inside c.args.history.now.sessions c.args.history.now.puts c.args.table.now c.requires c.loop-place.place c.loop-place-test.true c.index-table-place.result c.in-Some.number ((own c.in-Some.number).0 refl)
          (λ n at. let both = (own n).1 at in cc) c.loop-place.places.items c.loop-place.invariant.len,
      c.loop-place.places.ok.0,
    )

pub unreachable-requires : goal.unreachable-requires
unreachable-requires c =
    let put = put_at c.args.history.now.sessions c.args.table.now c.requires.table c.loop-place.place c.index-table-place.result c.loop-place-test.true in
    c.in-None.ensures.none ((slice_index_or c.args.table.now c.loop-place.place c.index-table-place.result).version, put)

pub loop-place-preserved : goal.loop-place-preserved
loop-place-preserved c =
    let h = c.args.history.now.sessions in
    let puts = c.args.history.now.puts in
    let table = c.args.table.now in
    let k = c.loop-place.place in
    let l = c.loop-place.invariant in
    let number = c.in-Some.number in
    let own = c.in-Some.ensures.number in
    let at = (own number).0 refl in
    let alone : (n : ℕ) → slice_get puts n ≡ Some (slice_index_or table k c.index-table-place.result).name → n ≡ number = λ n there. let both = (own n).1 there in cc in
    let places = c.loop-place.places.items in
    record {
      len = omega (arith, length-set places number k, l.len);
      reports = reported_more h puts table c.requires k c.loop-place-test.true c.index-table-place.result number at alone places l.len l.reports;
      numbered = all_more h puts table c.requires k c.loop-place-test.true c.index-table-place.result number at alone places l.len l.numbered;
      capacity = l.capacity;
    }

pub returns-clause-places : goal.returns-clause-places
returns-clause-places c =
    let table = c.args.table.now in
    let l = c.loop-place.invariant in
    record {
      report = λ k number put version stands named. l.reports k number put version (let inside : k < length table = inside_table table k put version stands in omega (arith, inside, c.loop-place-test.false)) stands named;
      all = λ k inside.
          let none : VersionedPut = record { version = 0; name = record { client = 0; index = 0 } } in
          let put = slice_index_or table k none in
          let stands = stands_at table k none inside in
          let numbered = l.numbered k put.name put.version (omega (arith, inside, c.loop-place-test.false)) stands in
          (numbered.0, l.reports k numbered.0 put.name put.version (omega (arith, inside, c.loop-place-test.false)) stands numbered.1);
    }

pub returns-in_err-resize-clause-succeeds : goal.returns-in_err-resize-clause-succeeds
returns-in_err-resize-clause-succeeds c = λ enough. no_ok (c.in_err-resize.ensures.succeeds (omega (arith, enough, c.puts.ensures.count, c.clear.ensures.capacity, puts-le c.args.history.now.sessions)))
