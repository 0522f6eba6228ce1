use Rattle.std.proofs.Common.{◌∙◌, ap, length, sym}
use Rattle.cops_audit.specs.Sorted.{Sorted}
use Rattle.cops_audit.proofs.Naming.{names_count}
use Rattle.cops_audit.proofs.puts.Puts.count.Goals as goal

pub returns-clause-count : goal.returns-clause-count
returns-clause-count c = c.len.ensures.count ∙ sym (names_count c.self.inside.history.now.sessions) ∙ ap (λ (s : Sorted). length s.names) c.self.view_is
