use Rattle.cops_audit.proofs.Reading.{seen_sourceless}
use Rattle.cops_audit.proofs.sources.is_sourceless.Goals as goal

pub returns-in_default : goal.returns-in_default
returns-in_default c = ((λ e. absurd cc), (λ f. let s = c.in_default.ensures.none f.version (f.key, f.content, f.got) in absurd (f.none s.0 s.1)))

pub returns-in_default-got_version : goal.returns-in_default-got_version
returns-in_default-got_version c = ((λ e. absurd cc), (λ f. absurd (c.in_default-got_version.ensures.none f.version (f.key, f.content, f.got))))

pub returns-in_default-see : goal.returns-in_default-see
returns-in_default-see c = ((λ e. absurd cc), (λ f. let s = seen_sourceless c.args.history.now.sessions c.args.table.now c.args.name c.see.result c.see.ensures f in absurd (c.in_default-see.not-Sourceless s.0 s.1)))
