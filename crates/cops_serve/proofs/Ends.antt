-- How serving ends, by what was read, and how the scenario was served.
use Rattle.std.proofs.Common.{◌≡◌, ◌⊎◌, inl, inr, ℕ, Bool, true, List, Option, None, Some, Result, Ok, Err, IfOk, IfSome, subst, arith}
use Rattle.std.specs.Global.{Vec}
use Rattle.std.specs.Io.KnownBytes.{Appends}
use Rattle.cops_trace.specs.Text.{ATrace, text as text_of}
use Rattle.cops_command.specs.Status.{number}
use Rattle.cops_command.specs.declared.status.Status.TheVariants.{Accepted, Failed}
use Rattle.cops_scenario.specs.File.{IsTextOf}
use Rattle.cops_scenario.specs.Scenario.{AScenario}
use Rattle.cops_serve.specs.declared.ending.Finished.{Finished}
use Rattle.cops_serve.specs.Serving.{EndsAs, EndsTraced, IsServedAs}

module _ (sessions : ℕ) (s : AScenario) (keeps : Bool) (made_old made_new old new : Option (List ℕ)) where
  -- what was left is that of such a front end
  abbrev pub IsFinished : Finished → Type 0
  IsFinished f = IsServedAs sessions s f.trace f.report.items

  -- the report is that of what was left, whose trace was written, if it is kept
  abbrev pub IsTraced : {F : Type 0} → Result Finished F → Vec ℕ → Type 0
  IsTraced served report = (f : Finished) × (served ≡ Ok f) × (report ≡ f.report) × (keeps ≡ true → Appends made_old made_new (text_of f.trace))

  -- the report was printed, or something failed
  abbrev pub IsPrinted : {F : Type 0} → Result (Vec ℕ) F → ℕ → Type 0
  IsPrinted report status = (status ≡ number Failed) ⊎ ((v : Vec ℕ) × (report ≡ Ok v) × Appends old new v.items)

  -- the report of such a front end was printed, and its trace written before, if it is kept
  abbrev pub IsReported : Type 0
  IsReported = (t : ATrace) × (text : List ℕ) × IsServedAs sessions s t text × (keeps ≡ true → Appends made_old made_new (text_of t)) × Appends old new text

  reported : {F : Type 0} (served : Result Finished F) (report : Result (Vec ℕ) F) → IfOk served IsFinished → IfOk report (IsTraced served)
      → (v : Vec ℕ) × (report ≡ Ok v) × Appends old new v.items → IsReported
  reported {F} served report finished traced (v, is, gained) =
      let t : IsTraced served v = subst (λ (r : Result (Vec ℕ) F). IfOk r (IsTraced served)) is traced in (
        t.0.trace,
        t.0.report.items,
        subst (λ (r : Result Finished F). IfOk r IsFinished) t.1 finished,
        t.3,
        subst (λ (w : Vec ℕ). Appends old new w.items) t.2 gained,
      )

  -- that, or something failed
  abbrev pub Ended : ℕ → Type 0
  Ended status = (status ≡ number Failed) ⊎ IsReported

  pub printed : {E F : Type 0} (served : Result Finished F) (report : Result (Vec ℕ) F) (result : Result ℕ E) → IfOk served IsFinished → IfOk report (IsTraced served)
      → IfOk result (IsPrinted report) → IfOk result Ended
  printed served report (Err e) finished traced gained = tt
  printed served report (Ok status) finished traced gained = elim gained [ inl failed ↦ inl failed | inr left ↦ inr (reported served report finished traced left) ]

  accepted : (status : ℕ) (bytes : Option (List ℕ)) → IfSome bytes (λ (b : List ℕ). IsTextOf b s) → status ≡ number Accepted → IsReported
      → IfSome bytes (λ (b : List ℕ). EndsAs b sessions status old new)
  accepted status None read is (t, text, served, traced, gained) = tt
  accepted status (Some b) read is (t, text, served, traced, gained) = inl (is, (s, read, (text, (t, served), gained)))

  pub ended : {E : Type 0} (result : Result ℕ E) (bytes : Option (List ℕ)) → IfSome bytes (λ (b : List ℕ). IsTextOf b s)
      → IfOk result (λ (status : ℕ). (status ≡ number Accepted) ⊎ (status ≡ number Failed)) → IfOk result Ended
      → IfOk result (λ (status : ℕ). (status ≡ number Failed) ⊎ IfSome bytes (λ (b : List ℕ). EndsAs b sessions status old new))
  ended (Err e) bytes read status left = tt
  ended (Ok n) bytes read status left =
      elim status [
        | inl is ↦ elim left [
          | inl failed ↦ inl failed
          | inr reported ↦ inr (accepted n bytes read is reported)
        ]
        | inr failed ↦ inl failed
      ]

  with_trace : (bytes : Option (List ℕ)) → IfSome bytes (λ (b : List ℕ). IsTextOf b s) → keeps ≡ true → IsReported
      → IfSome bytes (λ (b : List ℕ). EndsTraced b sessions made_old made_new old new)
  with_trace None read kept (t, text, served, traced, gained) = tt
  with_trace (Some b) read kept (t, text, served, traced, gained) =
      record { scenario = s; trace = t; report = text; is_text = read; served = served; traced = traced kept; printed = gained }

  pub ended_traced : {E : Type 0} (result : Result ℕ E) (bytes : Option (List ℕ)) → IfSome bytes (λ (b : List ℕ). IsTextOf b s) → IfOk result Ended
      → keeps ≡ true → result ≡ Ok (number Accepted) → IfSome bytes (λ (b : List ℕ). EndsTraced b sessions made_old made_new old new)
  ended_traced {E} result bytes read left kept is =
      elim (subst (λ (r : Result ℕ E). IfOk r Ended) is left) [
        | inl failed ↦ absurd (omega (arith, failed))
        | inr reported ↦ with_trace bytes read kept reported
      ]
