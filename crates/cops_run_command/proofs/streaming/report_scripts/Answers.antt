use Rattle.std.proofs.Common.{inl, inr, subst}
use Rattle.std.specs.Io.KnownBytes.{Appends}
use Rattle.cops_run_command.proofs.streaming.report_scripts.Goals as goal

pub returns-in-Ok-clause-whole : goal.returns-in-Ok-clause-whole
returns-in-Ok-clause-whole g c = elim c.print.ensures.whole [ inl failed ↦ inl failed | inr whole ↦ inr (c.in-Ok.left, c.in-Ok.is, whole.0, subst (Appends _ _) c.deref.ensures.value whole.1) ]
