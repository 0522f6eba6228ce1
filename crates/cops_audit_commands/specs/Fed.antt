-- An auditor that takes a trace.
use Rattle.std.specs.Prelude.{◌≡◌}
use Rattle.cops_trace.specs.Text.{ATrace, sessions_of}
use Rattle.cops_audit_commands.specs.declared.fed.Fed.{Fed}

-- it took the sessions that the trace records
abbrev pub WasFed : Fed → ATrace → Type 0
WasFed fed t = fed.online ≡ sessions_of t
