use Rattle.std.proofs.Common.{◌≡◌, ◌≤◌, ◌<◌, ◌∷◌, [], ◌++◌, length, ap, ◌∙◌, List, ℕ, arith}
use Rattle.std.proofs.lemmas.Result.{err_from_is_err_and}
use Rattle.cops_types.specs.declared.limits.TheConstants.{MAX_CLIENT_OPS, MAX_OPS}
use Rattle.cops_types.specs.Histories.{Sessions, with_op}
use Rattle.cops_types.specs.Operations.{operation_of}
use Rattle.cops_trace.specs.Kept.{trace_of}
use Rattle.cops_trace.proofs.Lists.{not_refused}
use Rattle.cops_trace.proofs.Keeping.{kept_refused, kept_grown, kept_turn, kept_count, trace_grown}
use Rattle.cops_trace.proofs.trace.Trace.push.Goals as goal

pub returns-in_err-reserve-clause-too_many : goal.returns-in_err-reserve-clause-too_many
returns-in_err-reserve-clause-too_many c =
    let p = err_from_is_err_and c.from_residual.result c.from_residual.ensures.1 in
    rw (p.1, p.2, ← c.self.view_is) (kept_refused c.self.inside.format c.self.inside.history.sessions c.self.inside.arrivals.items c.args.client _ c.self.invariant c.in_err-reserve.ensures.too_many)

pub returns-in_err-reserve-2-clause-too_many : goal.returns-in_err-reserve-2-clause-too_many
returns-in_err-reserve-2-clause-too_many c =
    let p = err_from_is_err_and c.from_residual-in_err-reserve-2.result c.from_residual-in_err-reserve-2.ensures.1 in
    let not = c.in_ok-reserve.ensures.too_many.1 in
    rw (p.1, p.2, ← c.self.view_is)
    (kept_refused c.self.inside.format c.self.inside.history.sessions c.self.inside.arrivals.items c.args.client _ c.self.invariant (λ e. absurd cc, λ full. let bad = not full in absurd cc))

pub invariant_of-self-2 : goal.invariant_of-self-2
invariant_of-self-2 c =
    let h = c.self.inside.history.sessions in
    let cs = c.self.inside.arrivals.items in
    let there : length h ≤ c.args.client → ⊥ = λ le. let bad = c.in_ok-reserve.ensures.unknown.1 le in absurd cc in
    let inside : c.args.client < length h = omega (arith, there) in
    let turns = kept_turn c.self.inside.format h cs c.args.client c.self.invariant in
    let all = kept_count c.self.inside.format h cs c.self.invariant in
    let room = not_refused _ _ MAX_CLIENT_OPS MAX_OPS (λ full. let bad = c.in_ok-reserve.ensures.too_many.1 (inside, full) in absurd cc) in
    let kept = kept_grown c.self.inside.format h cs c.args.client (operation_of c.args.op) c.self.invariant inside ((rw c.as_ref.ensures at c.is_op.ensures.op) (rw (← c.self.view_is) at c.requires)) (omega (arith, turns, room.0)) (omega (arith, all, room.1)) in
    let grown_h : c.push.new.self.sessions ≡ with_op h c.args.client (operation_of c.args.op) = c.in_ok-push.ensures.ok ∙ ap (λ (g : Sessions). with_op g c.args.client (operation_of c.args.op)) c.in_ok-reserve.ensures.same in
    let grown_cs : c.push_reserved.new.self.items ≡ cs ++ c.args.client ∷ [] = c.push_reserved.ensures.items ∙ ap (λ (l : List ℕ). l ++ c.args.client ∷ []) c.in_ok-reserve-2.ensures.items in
    rw (grown_h, grown_cs) kept

pub returns-clause-ok : goal.returns-clause-ok
returns-clause-ok c =
    let h = c.self.inside.history.sessions in
    let cs = c.self.inside.arrivals.items in
    let there : length h ≤ c.args.client → ⊥ = λ le. let bad = c.in_ok-reserve.ensures.unknown.1 le in absurd cc in
    let inside : c.args.client < length h = omega (arith, there) in
    let grown_h : c.push.new.self.sessions ≡ with_op h c.args.client (operation_of c.args.op) = c.in_ok-push.ensures.ok ∙ ap (λ (g : Sessions). with_op g c.args.client (operation_of c.args.op)) c.in_ok-reserve.ensures.same in
    let grown_cs : c.push_reserved.new.self.items ≡ cs ++ c.args.client ∷ [] = c.push_reserved.ensures.items ∙ ap (λ (l : List ℕ). l ++ c.args.client ∷ []) c.in_ok-reserve-2.ensures.items in
    rw (← c.self.view_is)
    (ap (λ (g : Sessions). trace_of c.self.inside.format g c.push_reserved.new.self.items) grown_h ∙ ap (trace_of c.self.inside.format (with_op h c.args.client (operation_of c.args.op))) grown_cs
    ∙ trace_grown c.self.inside.format h cs c.args.client (operation_of c.args.op) c.self.invariant inside)

pub returns-clause-too_many : goal.returns-clause-too_many
returns-clause-too_many c =
    rw (← c.self.view_is) (kept_refused c.self.inside.format c.self.inside.history.sessions c.self.inside.arrivals.items c.args.client _ c.self.invariant c.in_ok-reserve.ensures.too_many)
