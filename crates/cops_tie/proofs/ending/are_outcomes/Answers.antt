use Rattle.std.proofs.Common.{◌≡◌, ℕ, ◌<◌, ◌∙◌, List, [], Bool, true, false, length, slice_index_or, refl, sym, ap, subst, arith, below_more}
use Rattle.std.proofs.lemmas.List.{get_or_default}
use Rattle.cops_types.specs.Histories.{Operation}
use Rattle.cops_core.specs.Opened.{AWorld}
use Rattle.cops_scenario.specs.declared.script.ScriptOp.{ScriptOp}
use Rattle.cops_scenario.specs.declared.script.ScriptedClient.{ScriptedClient}
use Rattle.cops_tie.specs.declared.outcome.ClientOutcome.{ClientOutcome}
use Rattle.cops_tie.specs.declared.outcome.ClientOutcome.TheVariants.{Done}
use Rattle.cops_tie.specs.Outcomes.{IsOutcome}
use Rattle.cops_tie.proofs.ending.are_outcomes.Goals as goal

-- `IsOutcome` with its arguments replaced by equal ones
moved : (a b : AWorld) (i : ℕ) (script other : List ScriptOp) (session seen : List Operation) (o p : ClientOutcome) → a ≡ b → script ≡ other → session ≡ seen → o ≡ p
    → IsOutcome a.setting a.world i script session o → IsOutcome b.setting b.world i other seen p
moved a b i script other session seen o p e f g h at =
    subst (λ (k : AWorld). IsOutcome k.setting k.world i other seen p) e
    (subst (λ (x : List ScriptOp). IsOutcome a.setting a.world i x seen p) f
    (subst (λ (x : List Operation). IsOutcome a.setting a.world i script x p) g
    (subst (λ (x : ClientOutcome). IsOutcome a.setting a.world i script session x) h at)))

true_is_false : (b : Bool) → b ≡ true → b ≡ false → ⊥
true_is_false b e f = cc

pub returns-then-not-branch : goal.returns-then-not-branch
returns-then-not-branch c = (
  λ f. absurd (true_is_false false f refl),
  λ are.
      let i = c.loop-i.i in
      let item = c.index-clients-i.result in
      let there = moved c.args.world.now c.loop-i.world i _ _ _ _ _ _ (sym c.loop-i.invariant.same) (sym c.deref.ensures.value) refl refl (are.each i item Done c.loop-i-test.true) in
      absurd (true_is_false c.in_ok-is_outcome.field-0 (c.in_ok-is_outcome.ensures.is.1 there) c.if-not-branch.true),
)

pub loop-i-preserved : goal.loop-i-preserved
loop-i-preserved c =
    let i = c.loop-i.i in
    let w = c.args.world.now in
    let clients = c.args.clients.now in
    let outcomes = c.args.outcomes.now in
    let sessions = c.args.history.now.sessions in
    let item = c.index-clients-i.result in
    let yes = c.if-not-branch.false in
    let lt : i < length outcomes = omega (arith, c.loop-i-test.true, c.if-outcomes-clients.false) in
    let P : ℕ → Type 0 = λ k. (x : ScriptedClient) (o : ClientOutcome) → IsOutcome w.setting w.world k (slice_index_or clients k x).script.items (slice_index_or sessions k []) (slice_index_or outcomes k o) in
    let here : P i = λ x o.
    moved c.loop-i.world w i _ _ _ _ _ _ c.loop-i.invariant.same
    (c.deref.ensures.value ∙ ap (λ (y : ScriptedClient). y.script.items) (get_or_default clients i item x c.loop-i-test.true))
    refl (get_or_default outcomes i Done o lt) (c.in_ok-is_outcome.ensures.is.0 yes) in
    record {
      same = c.in_ok-is_outcome.ensures.stays yes ∙ c.loop-i.invariant.same;
      each = λ k x o less. below_more P i (λ n h y p. c.loop-i.invariant.each n y p h) here k less x o;
    }
