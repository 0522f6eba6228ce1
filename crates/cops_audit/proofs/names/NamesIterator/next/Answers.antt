use Rattle.std.proofs.Common.{◌+◌, ◌-◌, ◌∷◌, ◌∙◌, ℕ, ap, length, refl, sym, take, arith}
use Rattle.cops_types.specs.declared.op.OpName.{OpName}
use Rattle.cops_audit.specs.Names.{names_after}
use Rattle.cops_audit.proofs.Naming.{names_first, take_first}
use Rattle.cops_audit.proofs.names.NamesIterator.next.Goals as goal

pub returns-clause-steps : goal.returns-clause-steps
returns-clause-steps c =
    let on = c.if-not-go_on.ensures in
    let name : OpName = record { client = c.go_on.new.self.client; index = c.go_on.new.self.index } in
    ap (take c.args.self.now.left) (sym (on.same refl) ∙ names_first c.go_on.new.self.history.now.sessions name.client name.index (on.there refl))
    ∙ take_first c.args.self.now.left name _ (omega (arith, c.if-self-eq0.false))
    ∙ ap (λ (n : ℕ). name ∷ take (n - 1) (names_after c.go_on.new.self.history.now.sessions name.client (name.index + 1))) (sym on.left)

pub returns-clause-goes : goal.returns-clause-goes
returns-clause-goes c = record { on = λ ends. (tt, tt, omega (arith, ap length (returns-clause-steps c))); keeps = tt; rests = λ ends. tt }
