use Rattle.cops_audit_commands.proofs.show.first_fault.Goals as goal

pub returns : goal.returns
returns c = c.fault_in.ensures _ (rw c.new.ensures.device at c.read_into.ensures.says)
