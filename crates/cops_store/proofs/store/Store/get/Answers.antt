use Rattle.std.proofs.Common.{sym}
use Rattle.cops_store.proofs.Indexing.{missed, missed_at, got}
use Rattle.cops_store.proofs.store.Store.get.Goals as goal

pub returns-in_err-at : goal.returns-in_err-at
returns-in_err-at c =
    rw (← c.self.view_is, c.from_residual.ensures) (sym (missed c.self.inside.keys.entries c.self.inside.pairs.entries c.args.key.now c.self.invariant c.in_err-at.ensures.value))

pub returns-in_err-place : goal.returns-in_err-place
returns-in_err-place c =
    rw (← c.self.view_is, c.from_residual-in_err-place.ensures)
    (sym (missed_at c.self.inside.keys.entries c.self.inside.pairs.entries c.args.key.now c.in_ok-at.field-0.now c.self.invariant c.in_ok-at.ensures.value c.in_err-place.ensures.entry))

pub returns : goal.returns
returns c =
    rw (← c.self.view_is, c.as_ref.ensures.value)
    (sym (got c.self.inside.keys.entries c.self.inside.pairs.entries c.args.key.now c.in_ok-at.field-0.now (c.in_ok-place.place.now, c.in_ok-place.value.now) c.self.invariant c.in_ok-at.ensures.value c.in_ok-place.ensures.entry))
