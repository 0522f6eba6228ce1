-- The numbers with which the program ends.
use Rattle.std.specs.Prelude.{ℕ}
use Rattle.cops_command.specs.declared.status.Status.{Status}
use Rattle.cops_command.specs.declared.status.Status.TheVariants.{Accepted, Refused, Faulty, NoMemory, Failed}

abbrev pub number : Status → ℕ
number Accepted = 0
number Refused = 1
number Faulty = 2
number NoMemory = 3
number Failed = 4
