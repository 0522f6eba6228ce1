use Rattle.std.proofs.Common.{◌≡◌, length, take}
use Rattle.std.specs.Prelude.{string_bytes}
use Rattle.std.specs.List.{flat_map}
use Rattle.cops_report.specs.Reports.{named_line, refusal}
use Rattle.cops_report.proofs.reports.refused_names.Given as goal

abbrev pub invariant-loop-name : goal.invariant-loop-name
invariant-loop-name l = string_bytes l.text ≡ refusal l.history.sessions (length l.names) (flat_map (named_line l.word l.history.sessions) (take l.name-index l.names))
