use Rattle.std.proofs.Common.{◌<◌, ◌-◌, arith, length, sym, subst}
use Rattle.cops_types.specs.Histories.{PutsVersion}
use Rattle.cops_audit.proofs.Ascending.{above_all, first_reaches}
use Rattle.cops_audit.proofs.Unique.{stands}
use Rattle.cops_audit.proofs.climbing.first_not_below.Goals as goal
use Rattle.cops_audit.proofs.climbing.first_not_below.Goals.{After-first_from-first}

pub returns-in_default-clause-none : goal.returns-in_default-clause-none
returns-in_default-clause-none c = λ e f. c.in_default.ensures.none f.own f.put

pub returns-then-maxima-name-clause-none : goal.returns-then-maxima-name-clause-none
returns-then-maxima-name-clause-none c = λ e f.
    let i = c.args.name.index - 1 in
    let maxima = c.args.maxima.now in
    let inside : i < length maxima = omega (arith, c.requires.before, c.if-name-eq0.false) in
    above_all c.args.history.now.sessions c.args.name c.in-Some.version c.in-Some.ensures.put maxima c.requires.maxima _ (stands maxima i 0 inside)
    (omega (arith, c.if-maxima-name.true, c.as_u64-version.ensures.number)) e f

below : (c : After-first_from-first) → c.first_from-first.result < c.args.name.index
below c =
    let i = c.args.name.index - 1 in
    let maxima = c.args.maxima.now in
    let inside : i < length maxima = omega (arith, c.requires.before, c.if-name-eq0.false) in
    let not : ¬ (i < c.first_from-first.result) = λ less. omega (arith, c.first_from-first.ensures.before i _ less (stands maxima i 0 inside), c.if-maxima-name.false) in
    omega (arith, not, c.if-name-eq0.false)

pub overflow_cast-result : goal.overflow_cast-result
overflow_cast-result c = omega (arith, below c, c.well_formed)

pub returns-clause-first : goal.returns-clause-first
returns-clause-first c =
    first_reaches c.args.history.now.sessions c.args.name _ (subst (PutsVersion c.args.history.now.sessions c.args.name) (sym c.as_u64-version.ensures.number) c.in-Some.ensures.put) c.args.maxima.now c.requires.maxima c.first_from-first.result
    (omega (arith, c.as_u64-version.ensures.version.0, c.as_u64-version.ensures.number)) (below c) c.requires.before c.first_from-first.ensures.before c.first_from-first.ensures.from
