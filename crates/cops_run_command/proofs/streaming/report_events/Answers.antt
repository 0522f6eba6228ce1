use Rattle.std.proofs.Common.{inl, inr}
use Rattle.cops_run_command.proofs.streaming.report_events.Goals as goal

pub returns-in_ok-write-in-Ok-clause-whole : goal.returns-in_ok-write-in-Ok-clause-whole
returns-in_ok-write-in-Ok-clause-whole g c =
    elim c.in_ok-write-in-Ok.ensures.whole [ inl failed ↦ inl failed | inr whole ↦ inr (c.in-Ok.left, c.in-Ok.ensures, whole.0, whole.1, whole.2) ]
