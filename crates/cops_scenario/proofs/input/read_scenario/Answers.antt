use Rattle.std.proofs.Common.{◌≡◌, ℕ, List, Option, Some, None, Err, inl, inr, ap, subst}
use Rattle.std.specs.Prelude.{IfSome}
use Rattle.cops_scenario.specs.declared.fault.Field.{Field}
use Rattle.cops_scenario.specs.File.{IsWrongText, IsNoScenario}
use Rattle.cops_scenario.proofs.input.read_scenario.Goals as goal

-- bytes in which a field is wrong decode to no scenario
wrong_reports : (known : Option (List ℕ)) (bytes : List ℕ) (field : Field) → IfSome known (λ all. bytes ≡ all) → IsWrongText bytes field → IfSome known IsNoScenario
wrong_reports None bytes field same wrong = tt
wrong_reports (Some all) bytes field same wrong = inr (field, subst (λ (b : List ℕ). IsWrongText b field) same wrong)

pub returns-clause-none : goal.returns-clause-none
returns-clause-none g c =
    let wrong = rw c.deref.ensures.value at (c.in-Err-BadField.ensures.bad_field c.in-Err-BadField.field (ap (λ e. Err e) c.in-Err-BadField.field-0-is)) in
    let all = rw c.in-Some.is at c.in_ok-bytes.ensures.all in
    elim c.in_ok-faulty-in-Err-BadField.ensures.status [
      | inl faulty ↦ inr (faulty, wrong_reports _ _ c.in-Err-BadField.field all wrong)
      | inr failed ↦ inl failed
    ]
