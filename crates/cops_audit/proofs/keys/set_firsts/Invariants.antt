use Rattle.cops_types.specs.Histories.{Sessions}
use Rattle.cops_audit.specs.Keys.{AreNexts}
use Rattle.cops_audit.specs.Tables.{IsVersionTable}
use Rattle.cops_audit.proofs.Passing.{PassedTo}
use Rattle.cops_audit.proofs.keys.set_firsts.Given as goal

abbrev pub invariant-loop-place : goal.invariant-loop-place
invariant-loop-place l = (h : Sessions) → IsVersionTable h l.table → AreNexts h l.table l.nexts → PassedTo h l.table l.nexts l.places.items l.place
