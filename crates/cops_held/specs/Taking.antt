-- What a held table returns.
use Rattle.std.specs.Prelude.{ℕ, ◌+◌, Bool, if◌then◌else◌, List, [], ◌∷◌, length, nat_lt, Option, None, Some, is_some, Result, Ok, Err}
use Rattle.cops_types.specs.declared.put_record.PutRecord.{PutRecord}
use Rattle.cops_held.specs.declared.fault.HeldFault.{HeldFault}
use Rattle.cops_held.specs.declared.fault.HeldFault.TheVariants.{NotHeld, NoSuchDep, DepsOpen}
use Rattle.cops_held.specs.declared.taken.Taken.{Taken}
use Rattle.cops_held.specs.declared.taken.Taken.TheVariants.{New, Repeat}
use Rattle.cops_held.specs.Held.{Waiting, all_marked, unmarked, waiting, with_waiting}

-- the indexes of the elements that are not marked, where the first has the index `first`
abbrev pub open_from : ℕ → List Bool → List ℕ
open_from first [] = []
open_from first (m ∷ marks) = if m then open_from (first + 1) marks else first ∷ open_from (first + 1) marks

-- the dependencies that are not marked, by their indexes; none where no put waits
abbrev pub open_deps : Option Waiting → List ℕ
open_deps None = []
open_deps (Some w) = open_from 0 w.marks

-- a put is held unless one with its version waits already
abbrev pub with_put : List Waiting → PutRecord → List Waiting
with_put held put = if is_some (waiting held put.version) then held else with_waiting held (unmarked put)

-- the result of holding a put
abbrev pub holding : List Waiting → PutRecord → Taken
holding held put = if is_some (waiting held put.version) then Repeat else New

-- the result of marking a dependency of the put that waits, if there is one
abbrev pub marking : Option Waiting → ℕ → Result Unit HeldFault
marking None dep = Err NotHeld
marking (Some w) dep = if nat_lt dep (length w.put.deps) then Ok tt else Err NoSuchDep

-- the result of taking the put that waits, if there is one
abbrev pub taking : Option Waiting → Result PutRecord HeldFault
taking None = Err NotHeld
taking (Some w) = if all_marked w then Ok w.put else Err DepsOpen

-- whether the put that waits, if there is one, may be taken
abbrev pub readiness : Option Waiting → Result Unit HeldFault
readiness None = Err NotHeld
readiness (Some w) = if all_marked w then Ok tt else Err DepsOpen
