use Rattle.std.proofs.Common.{◌∙◌, ap, length, sym}
use Rattle.cops_audit.specs.Summarized.{Summarized}
use Rattle.cops_audit.proofs.Naming.{names_count}
use Rattle.cops_audit.proofs.tables.Tables.count.Goals as goal

pub returns-clause-count : goal.returns-clause-count
returns-clause-count c = c.len.ensures.count ∙ sym (names_count c.self.inside.history.now.sessions) ∙ ap (λ (s : Summarized). length s.names) c.self.view_is
