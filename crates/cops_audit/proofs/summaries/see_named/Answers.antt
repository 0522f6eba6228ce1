use Rattle.std.proofs.Common.{◌≡◌, ◌∙◌, ℕ, refl, subst, Some}
use Rattle.cops_audit.specs.Summaries.{StandsAt}
use Rattle.cops_audit.proofs.Places.{stands_put}
use Rattle.cops_audit.proofs.summaries.see_named.Goals as goal

pub returns-in-Some : goal.returns-in-Some
returns-in-Some c =
    let table = c.args.index.now.table.now in
    let put = c.in-Some.ensures.0 in
    let source = c.in-Some.ensures.2 in
    let at = stands_put c.args.index.now.history.now.sessions table c.requires.table.table put source.version (source.key, source.content, source.put) in
    let found : Some c.in_ok-place.place ≡ Some at.0 = c.in_ok-place.ensures ∙ c.requires.places.report at.0 c.in-Some.number put source.version at.1 c.in-Some.ensures.1 in
    let same : at.0 ≡ c.in_ok-place.place = cc in
    (put, source.version, subst (λ (k : ℕ). StandsAt table k put source.version) same at.1, (source.key, source.content, source.got), source)

pub returns-in-Some-put_number : goal.returns-in-Some-put_number
returns-in-Some-put_number c =
    let table = c.args.index.now.table.now in
    let number = c.in-Some-put_number.number in
    let puts = c.in-Some-put_number.ensures.put in
    let at = stands_put c.args.index.now.history.now.sessions table c.requires.table.table c.args.name puts.0 puts.1 in
    let named = (c.in-Some-put_number.ensures.number number).0 refl in
    let found : Some c.in_ok-place-2.place ≡ Some at.0 = c.in_ok-place-2.ensures ∙ c.requires.places.report at.0 number c.args.name puts.0 at.1 named in
    let same : at.0 ≡ c.in_ok-place-2.place = cc in
    (puts.0, puts.1, subst (λ (k : ℕ). StandsAt table k c.args.name puts.0) same at.1)
