-- What a recorder returns when it makes no trace.
use Rattle.std.specs.Prelude.{◌≡◌}
use Rattle.cops_record.specs.declared.recorder.Recorder.{Recorder}
use Rattle.cops_record.specs.declared.fault.IntoTraceFault.{IntoTraceFault}
use Rattle.cops_record.specs.declared.fault.IntoTraceFault.TheVariants.{Memory}

-- the recorder that is returned has the same number of clients
abbrev pub IsBack : Recorder → IntoTraceFault → Type 0
IsBack r (Memory back) = back.clients ≡ r.clients
