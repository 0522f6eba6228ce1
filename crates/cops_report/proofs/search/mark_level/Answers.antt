use Rattle.std.proofs.Common.{◌≢◌, ◌+◌, ◌<◌, length, take, get_or, refl, sym, ap, subst, arith, inl, inr}
use Rattle.std.proofs.lemmas.List.{take_all, take_more}
use Rattle.std.proofs.lemmas.List.Elements.{Contains-get_or}
use Rattle.std.proofs.lemmas.List.Sorted.{length_permutation}
use Rattle.cops_types.specs.declared.op.OpName.{OpName}
use Rattle.cops_types.specs.Past.{Step}
use Rattle.cops_report.specs.declared.marks.Mark.{Mark}
use Rattle.cops_report.specs.Marks.{IsMarked}
use Rattle.cops_report.specs.Searches.{IsLevel, IsSearch}
use Rattle.cops_report.proofs.GainLemmas.{gains_more}
use Rattle.cops_report.proofs.LevelLemmas.{fresh_end, level_end, level_named, level_next, level_permuted, level_same, not_before, sessions_marked}
use Rattle.cops_report.proofs.OrderLemmas.{rising_sorted}
use Rattle.cops_report.proofs.SearchLemmas.{search_more}
use Rattle.cops_report.proofs.search.mark_level.Goals as goal

abbrev no_name : OpName
no_name = record { client = 0; index = 0 }

pub loop-next-init : goal.loop-next-init
loop-next-init c =
    let begun = c.requires.begun.1 in
    record {
      search = λ to s. s;
      next = subst (IsLevel c.args.marks.now (c.args.level.now.steps + 1)) (sym c.new-names.ensures.items) begun.fresh;
      same = rw c.as_slice-reached.ensures.value begun.is_level;
      rising = rw c.as_slice-reached.ensures.value begun.rising;
      count = omega (arith, ap length c.new-names.ensures.items);
      places = begun.places;
    }

pub mark_session-requires-clause-named : goal.mark_session-requires-clause-named
mark_session-requires-clause-named c =
    let inv = c.loop-next.invariant in
    level_named c.args.history.now.sessions c.loop-next.marks c.args.level.now.steps c.as_slice-reached.result.now c.loop-next.next-index no_name inv.places inv.same c.loop-next-test.true

pub mark_session-requires-clause-nearer : goal.mark_session-requires-clause-nearer
mark_session-requires-clause-nearer c =
    let inv = c.loop-next.invariant in
    let begun = c.requires.begun in
    sessions_marked c.args.history.now.sessions begun.0 c.loop-next.marks c.args.level.now.steps c.as_slice-reached.result.now c.loop-next.next-index no_name c.loop-next-test.true
    inv.rising inv.same (inv.search begun.0 begun.1.search)

pub loop-next-preserved : goal.loop-next-preserved
loop-next-preserved c =
    let h = c.args.history.now.sessions in
    let s = c.loop-next.marks in
    let t = c.mark_sources.new.marks in
    let d = c.args.level.now.steps in
    let level = c.as_slice-reached.result.now in
    let i = c.loop-next.next-index in
    let n = get_or level i no_name in
    let mark : Mark = record { steps = d + 1; next = n } in
    let names = c.loop-next.names.items in
    let more = c.mark_sources.new.names.items in
    let inv = c.loop-next.invariant in
    let lt : i < length level = c.loop-next-test.true in
    let later = c.in_ok-mark_sources.ensures.gains in
    let g = gains_more h mark s c.mark_session.new.marks t names c.mark_session.new.names.items more c.in_ok-mark_session.ensures.gains later in
    let other : d ≢ d + 1 = omega arith in
    let all : (a : OpName) → Step h a n → IsMarked t a = λ a st. elim st [
      | inl session ↦ (let m = c.in_ok-mark_session.ensures.all a session in (m.0, later.kept a m.0 m.1))
      | inr source ↦ c.in_ok-mark_sources.ensures.all a source
    ] in
    record {
      search = λ to begun.
          let more_done = search_more h to mark s t d (take i level) names more (inv.search to begun) g refl ((inv.same n).0 (Contains-get_or level i no_name lt))
          (not_before s d level i no_name inv.same inv.rising lt) all in
          subst (IsSearch h to t d) (sym (take_more level i no_name lt)) more_done;
      next = level_next h mark s t names more (d + 1) refl g inv.next;
      same = level_same h mark s t names more level d other g inv.same;
      rising = inv.rising;
      count = omega (arith, g.count, inv.count);
      places = λ k. (λ p. (inv.places k).0 ((g.places k).0 p), λ named. (g.places k).1 ((inv.places k).1 named));
    }

pub returns-clause-next : goal.returns-clause-next
returns-clause-next c = λ to begun.
    let h = c.args.history.now.sessions in
    let t = c.loop-next.marks in
    let d = c.args.level.now.steps in
    let level = c.as_slice-reached.result.now in
    let inv = c.loop-next.invariant in
    let names = c.sort_unstable.new.self.items in
    let done : IsSearch h to t d level = subst (IsSearch h to t d) (take_all c.loop-next.next-index level (omega arith)) (inv.search to begun.search) in
    record {
      search = level_end h to t d level done inv.same;
      is_level = level_permuted t (d + 1) c.loop-next.names.items names c.sort_unstable.ensures.permutation inv.next;
      fresh = fresh_end h to t d level done;
      rising = rising_sorted names c.sort_unstable.ensures.sorted;
      places = inv.places;
    }

pub returns-clause-count : goal.returns-clause-count
returns-clause-count c = omega (arith, c.loop-next.invariant.count, length_permutation _ _ c.sort_unstable.ensures.permutation)
