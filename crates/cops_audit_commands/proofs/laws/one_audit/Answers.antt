use Rattle.cops_audit_commands.proofs.Unique.{one_audit}
use Rattle.cops_audit_commands.proofs.laws.one_audit.Goals as goal

pub returns : goal.returns
returns c = λ bytes fits a b x y p q. one_audit bytes a b x y fits p q
