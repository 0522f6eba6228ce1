use Rattle.std.proofs.Common.{◌≡◌, vec_len, Option, Some, None, true, is_some, length, refl, sym, ap, subst, arith, inl, inr, ◌∙◌}
use Rattle.std.proofs.lemmas.Bool.{eqb-true}
use Rattle.std.proofs.lemmas.Bool.Decides.{nat_tests}
use Rattle.cops_report.specs.declared.marks.Mark.{Mark}
use Rattle.cops_report.specs.Marks.{Table, HasPlace, unmarked, with_mark}
use Rattle.cops_report.proofs.LevelLemmas.{fresh_start, level_start, none_contained, rising_one, search_start}
use Rattle.cops_report.proofs.Tables.{open-unmarked, open-with_mark, places-unmarked, places-with_mark, mark_at-unmarked}
use Rattle.cops_report.proofs.search.search.Goals as goal
use Rattle.cops_report.proofs.search.search.Goals.{then-loop-marks-test+else-is_none, else-loop-marks-test}

some_is : (o : Option Mark) → is_some o ≡ true → (m : Mark) × (o ≡ Some m)
some_is (Some m) e = (m, refl)
some_is None e = absurd cc

pub set-requires : goal.set-requires
set-requires c =
    let there = (places-unmarked c.args.history.now.sessions c.args.to).1 c.requires.named in
    subst (λ (t : Table). HasPlace t c.args.to) (sym c.in_ok-marks.ensures.unmarked) there

pub loop-marks-init : goal.loop-marks-init
loop-marks-init c =
    let h = c.args.history.now.sessions in
    let to = c.args.to in
    let m : Mark = record { steps = 0; next = to } in
    let is = c.set.ensures ∙ ap (λ (t : Table). with_mark t to m) c.in_ok-marks.ensures.unmarked in
    let there = (places-unmarked h to).1 c.requires.named in
    rw is
    (record {
      reached = record {
        search = search_start h to m refl c.requires.named;
        is_level = level_start h to m refl c.requires.named c.in_ok-names.names.items c.in_ok-names.ensures.items;
        fresh = fresh_start h to m refl c.requires.named;
        rising = rising_one c.in_ok-names.names.items to c.in_ok-names.ensures.items;
        places = places-with_mark (unmarked h) h to m (places-unmarked h);
      };
      count = omega (arith, ap length c.in_ok-names.ensures.items, open-unmarked h, c.in_ok-marks.ensures.limit, open-with_mark (unmarked h) to m there (mark_at-unmarked h to));
    })

pub loop-marks-preserved : goal.loop-marks-preserved
loop-marks-preserved c =
    let given = c.in_ok-level.ensures in
    record {
      reached = given.next c.args.to c.loop-marks.invariant.reached;
      count = grind (arith, nat_tests, given.count, given.steps, c.loop-marks.invariant.count, c.loop-marks-test.ensures);
    }

pub returns : goal.returns
returns c =
    let inv = c.loop-marks.invariant.reached in
    elim c.loop-marks-test.branch [
      | then-loop-marks-test+else-is_none w ↦
          let m = some_is w.get.result w.if-is_none.ensures in
          record { depth = c.loop-marks.level.steps; search = inv.search; fresh = λ n has. none_contained n ((inv.fresh n).1 has); ends = inl (m.0, sym w.get.ensures ∙ m.1) }
      | else-loop-marks-test w ↦
          record {
            depth = c.loop-marks.level.steps;
            search = inv.search;
            fresh = λ n has. none_contained n ((inv.fresh n).1 has);
            ends = inr (λ n has. let k = (inv.is_level n).1 has in absurd (omega (arith, k.1, eqb-true (vec_len c.loop-marks.level.names) 0 (sym w.loop-marks-test.ensures))));
          }
    ]
