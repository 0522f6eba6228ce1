-- The line that reports puts of unknown outcome.
use Rattle.std.specs.Prelude.{ℕ, List, [], Bool, ◌==◌, ◌&&◌, codes, decimal, if◌then◌else◌}
use Rattle.cops_types.specs.Texts.{◌⧺◌}
use Rattle.cops_outcomes.specs.declared.counts.OutcomeCounts.{OutcomeCounts}

-- there are no such puts
abbrev pub has_none : OutcomeCounts → Bool
has_none counts = counts.took_effect == 0 && counts.left_out == 0

-- how many took effect, and how many are left out, if there are any
abbrev pub outcome_text : OutcomeCounts → List ℕ
outcome_text counts =
    if has_none counts then [] else
    codes "unknown outcomes: " ⧺ decimal counts.took_effect ⧺ codes " took effect, " ⧺ decimal counts.left_out ⧺ codes " left out\n"
