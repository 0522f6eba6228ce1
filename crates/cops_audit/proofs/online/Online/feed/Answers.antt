use Rattle.std.proofs.Common.{◌<◌, inl, inr, length, sym, subst}
use Rattle.std.proofs.lemmas.Bool.{cases_lt}
use Rattle.cops_types.specs.Operations.{operation_of}
use Rattle.cops_audit.specs.Rooms.{Fits}
use Rattle.cops_audit.proofs.Growing.{succeeded}
use Rattle.cops_audit.proofs.online.Online.feed.Goals as goal

pub invariant_of-self-2 : goal.invariant_of-self-2
invariant_of-self-2 c =
    let sessions = c.reserve.new.self.sessions in
    let inside : c.args.client < length sessions = elim (cases_lt c.args.client (length sessions)) [ inl less ↦ less | inr le ↦ let unknown = c.in-Ok.ensures.unknown.1 le in absurd cc ] in
    subst (λ h. Fits h c.grow.new.self c.grow.new.summaries) (sym c.in-Ok.ensures.ok) (succeeded c.grow.result _ (c.grow.ensures.ok c.args.client (operation_of c.args.op) inside) c.if-is_err.ensures.value)
