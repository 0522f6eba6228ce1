use Rattle.std.proofs.Common.{◌≤◌, ◌+◌, length, subst, sym}
use Rattle.std.specs.List.{list_any}
use Rattle.std.specs.Str.{bytes_eq}
use Rattle.cops_types.specs.KeySets.{KeepsPlaces}
use Rattle.cops_types.proofs.Keys.{places_kept, one_more, distinct_keys}
use Rattle.cops_types.proofs.key_set.KeySet.number.Goals as goal

pub returns-clause-gains : goal.returns-clause-gains
returns-clause-gains c =
    let keys = c.self.inside.keys.keys in
    let there = list_any (bytes_eq c.args.key) keys in
    let now = rw c.unwrap-number.ensures at c.insert_full.ensures.keys in
    rw (← c.self.view_is) (record {
      places = subst (KeepsPlaces keys) (sym now) (places_kept keys c.args.key there);
      distinct = distinct_keys c.insert_full.new.self.keys c.insert_full.ensures.unique;
      few = subst (λ k. length k ≤ length keys + 1) (sym now) (one_more keys c.args.key there);
      spare = c.insert_full.ensures.spare;
    })
