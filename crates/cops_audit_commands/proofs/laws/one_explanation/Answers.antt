use Rattle.cops_audit_commands.proofs.UniqueExplained.{explained_as_audited, one_explanation}
use Rattle.cops_audit_commands.proofs.laws.one_explanation.Goals as goal

pub returns-clause-one : goal.returns-clause-one
returns-clause-one c = one_explanation

pub returns-clause-audited : goal.returns-clause-audited
returns-clause-audited c = explained_as_audited
