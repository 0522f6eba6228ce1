-- The codes of refusals.
use Rattle.std.specs.Prelude.{ℕ}
use Rattle.cops_types.specs.declared.refusal.Refusal.{Refusal}
use Rattle.cops_types.specs.declared.refusal.Refusal.TheVariants as refusal

abbrev pub code_of : Refusal → ℕ
code_of refusal.ClockExhausted = 1
code_of refusal.ContextFull = 2
code_of refusal.UnknownClient = 3
code_of refusal.NeverSent = 4
code_of refusal.NotHeld = 5
code_of refusal.NoSuchDep = 6
code_of refusal.NoYes = 7
code_of refusal.DepsOpen = 8
code_of refusal.Memory = 9
code_of refusal.UnknownDc = 10
code_of refusal.SessionFull = 11
code_of refusal.NotInFormat = 12
code_of refusal.NotGreeted = 16
code_of refusal.BadProfile = 17
code_of refusal.WrongKind = 18
code_of refusal.NoSuchNode = 19
