use Rattle.std.proofs.Common.{ℕ, List, get_or, refl, sym, ap, subst, ◌∙◌, arith}
use Rattle.std.proofs.lemmas.List.{take_all}
use Rattle.cops_types.specs.Histories.{op_at}
use Rattle.cops_types.specs.OpRefs.{seen}
use Rattle.cops_trace.proofs.Arriving.{kept_order, order_count, partly_all, partly_next, partly_none, partly_there, partly_turn, IsPartly}
use Rattle.cops_trace.proofs.trace.is_trace.Goals as goal
use Rattle.cops_trace.proofs.trace.is_trace.Goals.{in_default-via-in-Some+else-is_op, in_default-via-in_default}

pub returns-then-arrivals-len-clause-order : goal.returns-then-arrivals-len-clause-order
returns-then-arrivals-len-clause-order c =
    (λ no. absurd cc, λ both. absurd (c.if-arrivals-len.true (order_count c.args.history.now.sessions c.args.arrivals.now both.0 ∙ sym c.len.ensures.count)))

pub loop-n-init : goal.loop-n-init
loop-n-init c = partly_none c.args.format c.args.history.now.sessions c.args.counts (omega (arith, c.len.ensures.limits.clients)) c.requires

pub add-requires : goal.add-requires
add-requires c =
    partly_turn c.args.format c.args.history.now.sessions c.args.arrivals.now c.loop-n.n c.loop-n.counts c.next-index.result (seen c.in-Some.op) c.loop-n.invariant c.loop-n-test.true
    (c.if-arrivals-len.false ∙ c.len.ensures.count) c.len.ensures.limits (c.next-index.ensures, c.in-Some.ensures.limit, c.in-Some.ensures.operation)

pub loop-n-preserved : goal.loop-n-preserved
loop-n-preserved c =
    let is = c.is_op.ensures.op (c.is_op.ensures.format.0 c.if-is_op.true) in
    rw c.add.ensures (partly_next c.args.format c.args.history.now.sessions c.args.arrivals.now c.loop-n.n c.loop-n.counts c.next-index.result (seen c.in-Some.op) c.loop-n.invariant c.loop-n-test.true
    (c.if-arrivals-len.false ∙ c.len.ensures.count) c.len.ensures.limits (c.next-index.ensures, c.in-Some.ensures.limit, c.in-Some.ensures.operation) is)

pub returns-in_default-clause-order : goal.returns-in_default-clause-order
returns-in_default-clause-order c =
    let h = c.args.history.now.sessions in
    let cs = c.args.arrivals.now in
    let d = get_or cs c.loop-n.n 0 in (
      λ no. absurd cc,
      λ both. elim c.in_default.branch [
        | in_default-via-in-Some+else-is_op w ↦
            sym w.if-is_op.false ∙ w.is_op.ensures.format.1 (both.1 (record { client = d; index = c.next-index.result }) (seen w.in-Some.op) (sym w.in-Some.ensures.operation))
        | in_default-via-in_default w ↦
            let there = partly_there c.args.format h cs c.loop-n.n c.loop-n.counts c.loop-n.invariant both.0 c.loop-n-test.true in
            let none = w.in_default.ensures.operation ∙ ap (λ (i : ℕ). op_at h (record { client = d; index = i })) c.next-index.ensures ∙ there in
            absurd cc
      ],
    )

pub returns-clause-kept : goal.returns-clause-kept
returns-clause-kept c = λ yes.
    let h = c.args.history.now.sessions in
    let cs = c.args.arrivals.now in
    partly_all c.args.format h cs c.loop-n.counts (subst (λ (l : List ℕ). IsPartly c.args.format h l c.loop-n.counts) (take_all c.loop-n.n cs (omega (arith, c.loop-n-test.false))) c.loop-n.invariant)
    (c.if-arrivals-len.false ∙ c.len.ensures.count)

pub returns-clause-order : goal.returns-clause-order
returns-clause-order c = (λ yes. kept_order c.args.format c.args.history.now.sessions c.args.arrivals.now (returns-clause-kept c refl), λ both. refl)
