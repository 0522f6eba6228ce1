use Rattle.std.proofs.Common.{◌≤◌, get_or, length, refl, arith, inl, inr}
use Rattle.std.proofs.lemmas.Bool.{cases_lt}
use Rattle.std.proofs.lemmas.Option.{slice_get-get_or}
use Rattle.cops_audit.proofs.Linking.{next_at}
use Rattle.cops_audit.proofs.Places.{inside_table}
use Rattle.cops_audit.proofs.Suspecting.{got_clear, got_far, got_is, on_source}
use Rattle.cops_audit.proofs.window.got_suspect.Goals as goal
use Rattle.cops_audit.proofs.window.got_suspect.Goals.{then-from-mark-via-then-from-mark, then-from-mark-via-else-from-mark+then-from-analysis}

pub returns-then-from-mark-clause-none : goal.returns-then-from-mark-clause-none
returns-then-from-mark-clause-none c =
    let h = c.args.analysis.now.history.now.sessions in
    let table = c.args.analysis.now.table.now in
    let op = c.args.op in
    let place = c.args.place in
    let inside = inside_table table place c.requires.got.0 c.requires.got.1 c.requires.got.2 in
    let next = get_or c.args.analysis.now.nexts.now place 0 in
    let links = next_at h table c.args.analysis.now.nexts.now c.requires.analysis.nexts place inside next refl in
    let clear = λ (past : length table ≤ next). got_clear h table c.requires.analysis.table op place c.requires.got c.args.mark (links.1 past) in
    elim c.then-from-mark.branch [
      | then-from-mark-via-then-from-mark w ↦ elim (cases_lt next (length table)) [
        | inl less ↦ got_far h table c.requires.analysis.table op place c.requires.got c.args.mark next (links.0 less) w.if-from-mark.true
        | inr past ↦ clear past
      ]
      | then-from-mark-via-else-from-mark+then-from-analysis w ↦ clear (omega (arith, w.if-from-analysis.true))
    ]

pub returns-clause-suspect : goal.returns-clause-suspect
returns-clause-suspect c =
    let h = c.args.analysis.now.history.now.sessions in
    let table = c.args.analysis.now.table.now in
    let inside = inside_table table c.args.place c.requires.got.0 c.requires.got.1 c.requires.got.2 in
    let next = get_or c.args.analysis.now.nexts.now c.args.place 0 in
    let first = get_or c.args.analysis.now.firsts.now c.args.place 0 in
    let at = slice_get-get_or c.args.analysis.now.firsts.now c.args.place 0 (omega (arith, inside, c.requires.analysis.firsts.whole)) in
    let is = c.requires.analysis.firsts.each c.args.place first c.requires.got.4.key at
    (on_source h table c.requires.analysis.table c.args.op c.args.place c.requires.got) in (
      refl,
      got_is h table c.requires.analysis.table c.args.op c.args.place c.requires.got first next
          ((next_at h table c.args.analysis.now.nexts.now c.requires.analysis.nexts c.args.place inside next refl).0 (omega (arith, c.if-from-analysis.false)))
          (omega arith, is.on_key, λ p _ on. is.least p on),
    )
