use Rattle.std.proofs.Common.{◌≡◌, map, take}
use Rattle.cops_report.specs.Marks.{unmarked}
use Rattle.cops_report.proofs.marks.Marks.new.Given as goal

abbrev pub invariant-loop-client : goal.invariant-loop-client
invariant-loop-client l = map (λ s. s.items) l.sessions.items ≡ unmarked (take l.client l.history.sessions)
