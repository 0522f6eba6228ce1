use Rattle.std.proofs.Common.{◌≡◌, inl, inr, sym, subst}
use Rattle.cops_core.specs.World.{World}
use Rattle.cops_tie.specs.Runs.{EndsWell}
use Rattle.cops_tie.proofs.laws.no_run_is_not_run.Goals as goal

pub returns : goal.returns
returns c = λ s clients books sessions outcomes ticket events no run. elim no [
  | inl u ↦ c.untied_is_not_tied.ensures s books sessions ticket events u (run.end, run.tied)
  | inr f ↦
      let one : f.end ≡ run.end = c.tied_books_have_one_end.ensures s books sessions f.events events f.end run.end f.tied.0 run.tied in
      f.fails (subst (λ (w : World). EndsWell s clients w sessions outcomes) (sym one) run.ends_well)
]
