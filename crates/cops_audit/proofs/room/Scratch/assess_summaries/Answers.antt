use Rattle.std.proofs.Common.{AllPairs, Contains, sym, subst, arith}
use Rattle.cops_types.specs.declared.op.OpName.{OpName}
use Rattle.cops_types.specs.Faults.{HasNoSource, IsBefore, Lists}
use Rattle.cops_types.specs.Histories.{IsNamed}
use Rattle.cops_audit.specs.Names.{ListsAmong}
use Rattle.cops_audit.specs.SoFar.{IsWaiting}
use Rattle.cops_audit.specs.Summaries.{IsSourceless}
use Rattle.cops_audit.proofs.Lasting.{all_wait, not_true, seen_summaries, seen_table, waits}
use Rattle.cops_audit.proofs.Naming.{names_listed}
use Rattle.cops_audit.proofs.room.Scratch.assess_summaries.Goals as goal

pub has_stale-requires-clause-sources : goal.has_stale-requires-clause-sources
has_stale-requires-clause-sources c =
    let h = c.args.history.now.sessions in
    all_wait (subst (Lists (λ n. n) (IsNamed h)) (sym c.all.ensures.names) (names_listed h)) (c.has_mismatched.ensures.waiting (not_true c.if-has_mismatched.false))

pub count_sourceless-waiting-requires-clause-in_order : goal.count_sourceless-waiting-requires-clause-in_order
count_sourceless-waiting-requires-clause-in_order c = subst (AllPairs IsBefore) (sym c.all-2.ensures.names) (names_listed c.args.history.now.sessions).in_order

pub returns-then-waiting-eq0-clause-so_far : goal.returns-then-waiting-eq0-clause-so_far
returns-then-waiting-eq0-clause-so_far c =
    let h = c.args.history.now.sessions in
    let listed = c.count_sourceless-waiting.ensures in
    let waiting = subst (λ ns. (got : OpName) → Contains ns got → HasNoSource h got → IsWaiting h got) c.all.ensures.names (c.has_mismatched.ensures.waiting (not_true c.if-has_mismatched.false)) in
    let w = waits (names_listed h) (seen_table c.as_slice-table.ensures.value c.requires.summarized.table) (seen_summaries c.as_slice-table.ensures.value c.requires.summarized.summaries) waiting
    c.requires.above (c.in_ok-stale.ensures.none (not_true c.if-stale.false)) (subst (λ ns. ListsAmong (λ n. n) (IsSourceless c.args.summaries.now) ns listed.0) c.all-2.ensures.names listed.1) in
    (w.lasting, λ n waits. let at = (w.waiting.members n).1 waits in omega (arith, at.1, listed.2, c.if-waiting-eq0.true))

pub returns-clause-so_far : goal.returns-clause-so_far
returns-clause-so_far c =
    let h = c.args.history.now.sessions in
    let listed = c.count_sourceless-waiting.ensures in
    let waiting = subst (λ ns. (got : OpName) → Contains ns got → HasNoSource h got → IsWaiting h got) c.all.ensures.names (c.has_mismatched.ensures.waiting (not_true c.if-has_mismatched.false)) in
    let w = waits (names_listed h) (seen_table c.as_slice-table.ensures.value c.requires.summarized.table) (seen_summaries c.as_slice-table.ensures.value c.requires.summarized.summaries) waiting
    c.requires.above (c.in_ok-stale.ensures.none (not_true c.if-stale.false)) (subst (λ ns. ListsAmong (λ n. n) (IsSourceless c.args.summaries.now) ns listed.0) c.all-2.ensures.names listed.1) in
    (w.lasting, omega (arith, c.if-waiting-eq0.false), listed.0, w.waiting, listed.2)
