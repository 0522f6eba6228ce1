use Rattle.std.proofs.Common.{◌≡◌, ◌+◌, ℕ, replicate, ap, arith, subst, sym, ◌∙◌, ◌++◌, List}
use Rattle.std.proofs.lemmas.List.{take_all}
use Rattle.cops_types.specs.declared.put_record.PutRecord.{PutRecord}
use Rattle.cops_replication.specs.Lanes.{repeated}
use Rattle.cops_replication.proofs.Repeating.{repeated_next, repeated_once}
use Rattle.cops_replication.proofs.outbox.repeated.Goals as goal

pub returns-then-repeat-eq0 : goal.returns-then-repeat-eq0
returns-then-repeat-eq0 c = subst (λ (n : ℕ). c.args.puts.items ≡ repeated n c.args.puts.items) (sym c.if-repeat-eq0.true) (repeated_once c.args.puts.items)

pub loop-put-preserved : goal.loop-put-preserved
loop-put-preserved c =
    let items = c.deref-put-items.result.now in
    let put = c.put-item.result in
    c.in_ok-push_times.ensures ∙ ap (λ (n : ℕ). c.loop-put.all.items ++ replicate (n + 1) put) c.from.ensures
    ∙ ap (λ (l : List PutRecord). l ++ replicate (c.args.repeat + 1) put) c.loop-put.invariant ∙ repeated_next c.args.repeat c.loop-put.put-index items put c.loop-put-test.true c.put-item.is

pub returns : goal.returns
returns c = c.loop-put.invariant ∙ ap (repeated c.args.repeat) (take_all c.loop-put.put-index c.deref-put-items.result.now (omega arith) ∙ c.deref-put-items.ensures.value)
