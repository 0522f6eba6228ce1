-- A node's refusals for the faults of the held table.
use Rattle.cops_types.specs.declared.refusal.Refusal.{Refusal}
use Rattle.cops_types.specs.declared.refusal.Refusal.TheVariants as refusal
use Rattle.cops_held.specs.declared.fault.HeldFault.{HeldFault}
use Rattle.cops_held.specs.declared.fault.HeldFault.TheVariants.{NotHeld, NoSuchDep, DepsOpen}

abbrev pub refusal_of : HeldFault → Refusal
refusal_of NotHeld = refusal.NotHeld
refusal_of NoSuchDep = refusal.NoSuchDep
refusal_of DepsOpen = refusal.DepsOpen
