use Rattle.std.proofs.Common.{inl, inr}
use Rattle.cops_audit.proofs.climbing.version_number.Goals as goal

pub returns-in-None-clause-version : goal.returns-in-None-clause-version
returns-in-None-clause-version c = λ v has. elim has [ inl put ↦ absurd (c.in_default.ensures.none v put) | inr got ↦ absurd (c.in-None.ensures.none v got) ]
