use Rattle.std.proofs.Common.{◌≡◌, ◌≤◌, ℕ, List, Some, get_or, slice_get, sym, ◌∙◌, ap, subst, inl, inr, arith}
use Rattle.std.proofs.Math.ListN.{length-set}
use Rattle.std.proofs.Math.Nat.{eq-or-lt_of_le}
use Rattle.std.specs.Option.{option_map}
use Rattle.std.proofs.lemmas.Option.{slice_get_within}
use Rattle.cops_types.specs.Histories.{write}
use Rattle.cops_types.specs.Operations.{key_of}
use Rattle.cops_audit.specs.Keys.{OnKey}
use Rattle.cops_audit.proofs.Linking.{on_key, same_key, written}
use Rattle.cops_audit.proofs.Places.{inside_table}
use Rattle.cops_audit.proofs.Unique.{stands}
use Rattle.cops_audit.proofs.keys.set_keys.Goals as goal
use Rattle.cops_audit.proofs.keys.set_keys.Goals.{then-place-table, else-place-table}

pub number_of-requires : goal.number_of-requires
number_of-requires c =
    let own = (c.requires.table.table.members c.index-table-place.result).0 (get_or c.args.places.now c.loop-reported.reported-index 0, c.if-place-table.true, sym c.index-table-place.is) in
    (write own.0 own.1 c.index-table-place.result.version, own.2)

pub loop-reported-preserved : goal.loop-reported-preserved
loop-reported-preserved c =
    let h = c.args.history.now.sessions in
    let table = c.args.table.now in
    let places = c.args.places.now in
    let keys = c.loop-reported.keys.items in
    let i = c.loop-reported.reported-index in
    let l = c.loop-reported.invariant in
    let reported = get_or places i 0 in
    let here : slice_get places i ≡ Some reported = stands places i 0 c.loop-reported-test.true in
    let same_place : (n place : ℕ) → n ≡ i → slice_get places n ≡ Some place → reported ≡ place = λ n place same at. let e : Some reported ≡ Some place = sym here ∙ ap (slice_get places) (sym same) ∙ at in cc in
    elim c.if-place-table.branch [
      | then-place-table w ↦ rw w.keys-is
          (let put = w.index-table-place.result in
          let inside = w.if-place-table.true in
          let number = w.number_of.result in
          let own = (c.requires.table.table.members put).0 (reported, inside, sym w.index-table-place.is) in
          let on_own : OnKey h table reported own.0 = on_key h table c.requires.table reported put own.0 put.version inside w.index-table-place.is (own.1, own.2) in
          let right : (key : List ℕ) → OnKey h table reported key → slice_get c.args.history.now.keys number ≡ Some key = λ key on.
          let one = same_key h table c.requires.table.rising reported own.0 key on_own on in
          w.number_of.ensures.key key (ap (option_map key_of) own.2 ∙ ap (λ x. Some x) one) in
          record {
            count = omega (arith, length-set keys reported number, l.count);
            each = λ n place m key less at there on. elim (written keys reported place number m there) [
              | inl new ↦ subst (λ (x : ℕ). slice_get c.args.history.now.keys x ≡ Some key) new.1 (right key (subst (λ (j : ℕ). OnKey h table j key) new.0 on))
              | inr old ↦ elim (eq-or-lt_of_le (let le : n ≤ i = omega (arith, less) in le)) [
                | inl same ↦ absurd (old.0 (sym (same_place n place same at)))
                | inr before ↦ l.each n place m key before at old.1 on
              ]
            ];
            capacity = l.capacity;
          })
      | else-place-table w ↦ rw w.keys-is
          record {
            count = l.count;
            each = λ n place m key less at there on. elim (eq-or-lt_of_le (let le : n ≤ i = omega (arith, less) in le)) [
              | inl same ↦ let inside = inside_table table place on.0 on.1 on.2 in let e = same_place n place same at in absurd (omega (arith, inside, e, w.if-place-table.false))
              | inr before ↦ l.each n place m key before at there on
            ];
            capacity = l.capacity;
          }
    ]

pub returns-clause-keys : goal.returns-clause-keys
returns-clause-keys c = record {
  whole = c.loop-reported.invariant.count;
  each = λ place number key at on.
      let reported = c.requires.places.all place (inside_table c.args.table.now place on.0 on.1 on.2) in
      c.loop-reported.invariant.each reported.0 place number key (let less = slice_get_within c.args.places.now reported.0 place reported.1 in omega (arith, less, c.loop-reported-test.false)) reported.1 at on;
}
