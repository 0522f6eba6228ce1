use Rattle.std.proofs.Common.{inl, inr, subst}
use Rattle.std.specs.Io.KnownBytes.{Appends}
use Rattle.cops_serve.proofs.serving.printed.Goals as goal

pub returns-in-Ok-clause-printed : goal.returns-in-Ok-clause-printed
returns-in-Ok-clause-printed g c =
    elim c.print.ensures.whole [ inl failed ↦ inl failed | inr whole ↦ inr (c.in-Ok.report, c.in-Ok.is, subst (Appends _ _) c.deref.ensures.value whole.1) ]
