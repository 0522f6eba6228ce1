-- Why there is no run.
use Rattle.std.specs.Prelude.{ℕ}
use Rattle.cops_clients.specs.declared.fault.RunFault.{RunFault}
use Rattle.cops_clients.specs.declared.fault.RunFault.TheVariants.{Untied}

-- the ticket of an `Untied` satisfies the predicate
abbrev pub WhereUntied : (ℕ → Type 0) → RunFault → Type 0
WhereUntied P (Untied ticket) = P ticket
WhereUntied P _ = Unit {0}
