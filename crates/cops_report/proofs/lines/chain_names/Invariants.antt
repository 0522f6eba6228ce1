use Rattle.std.proofs.Common.{◌≡◌, ◌++◌, take}
use Rattle.std.specs.Prelude.{string_bytes}
use Rattle.cops_report.specs.Reports.{chain_text}
use Rattle.cops_report.proofs.lines.chain_names.Given as goal

abbrev pub invariant-loop-name : goal.invariant-loop-name
invariant-loop-name l = string_bytes l.text ≡ string_bytes l.fn.text ++ chain_text (take l.name-index l.names)
