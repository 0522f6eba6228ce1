use Rattle.std.proofs.Common.{◌≡◌, length, take}
use Rattle.std.specs.Prelude.{string_bytes}
use Rattle.std.specs.List.{flat_map}
use Rattle.cops_report.specs.Reports.{not_above_line, refusal}
use Rattle.cops_report.proofs.reports.refused_not_above.Given as goal

abbrev pub invariant-loop-fault : goal.invariant-loop-fault
invariant-loop-fault l = string_bytes l.text ≡ refusal l.history.sessions (length l.faults) (flat_map (not_above_line l.history.sessions) (take l.fault-index l.faults))
