-- The verdict on a history.
use Rattle.std.specs.Prelude.{◌≡◌, List}
use Rattle.cops_types.specs.declared.op.OpName.{OpName}
use Rattle.cops_types.specs.Histories.{Sessions}
use Rattle.cops_types.specs.Convergence.{ConvergesBy}
use Rattle.cops_types.specs.Verdicts.{IsAccepted, RefusesDoubled, RefusesNoSource, RefusesNotAbove, RefusesStale}
use Rattle.cops_types.specs.VersionOrder.{IsVersionOrder, NoneDoubled}
use Rattle.cops_audit.specs.declared.verdict.Verdict.{Verdict}
use Rattle.cops_audit.specs.declared.verdict.Verdict.TheVariants.{Accepted, Refused}
use Rattle.cops_audit.specs.declared.verdict.Faults.{Faults}
use Rattle.cops_audit.specs.declared.verdict.Faults.TheVariants as class

-- the first class that is not empty, with all its faults in order of names, or the puts in order of versions
abbrev pub IsVerdict : Sessions → Verdict → Type 0
IsVerdict h (Accepted puts) = IsAccepted h puts.items
IsVerdict h (Refused (class.Doubled names)) = RefusesDoubled h names.items
IsVerdict h (Refused (class.NoSource names)) = RefusesNoSource h names.items
IsVerdict h (Refused (class.NotAbove faults)) = RefusesNotAbove h (λ f. f.op) (λ f. f.earlier) faults.items
IsVerdict h (Refused (class.Stale faults)) = RefusesStale h (λ f. f.op) (λ f. f.newer) faults.items

-- no two puts have the same version, and the history converges by the order of its versions
abbrev pub ConvergesByVersions : Sessions → Type 0
ConvergesByVersions h = NoneDoubled h × ((puts : List OpName) × IsVersionOrder h puts × ConvergesBy h puts)

-- whether the verdict is that the history is accepted
abbrev pub Accepts : Verdict → Type 0
Accepts (Accepted puts) = Unit {0}
Accepts (Refused faults) = ⊥

-- the same class with the same faults
abbrev pub SameFaults : Faults → Faults → Type 0
SameFaults (class.Doubled a) (class.Doubled b) = a.items ≡ b.items
SameFaults (class.NoSource a) (class.NoSource b) = a.items ≡ b.items
SameFaults (class.NotAbove a) (class.NotAbove b) = a.items ≡ b.items
SameFaults (class.Stale a) (class.Stale b) = a.items ≡ b.items
SameFaults _ _ = ⊥

-- two equal verdicts
abbrev pub SameVerdict : Verdict → Verdict → Type 0
SameVerdict (Accepted a) (Accepted b) = a.items ≡ b.items
SameVerdict (Refused a) (Refused b) = SameFaults a b
SameVerdict _ _ = ⊥
