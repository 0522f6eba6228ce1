use Rattle.std.proofs.Common.{◌≡◌, ℕ, List, Some}
use Rattle.cops_types.specs.declared.op.OpName.{OpName}
use Rattle.cops_types.specs.Histories.{IsMissed, PutsVersion, Sessions, op_at, Operation, write, read, missed}
use Rattle.cops_types.specs.Operations.{GetsVersion}
use Rattle.cops_audit.proofs.op_version.OpVersion.of.Goals as goal

-- what is neither a put nor a get that returned a value is a get that found nothing
neither : (h : Sessions) (name : OpName) (op : Operation) → op_at h name ≡ Some op → ((v : ℕ) → ¬ PutsVersion h name v) → ((v : ℕ) → ¬ GetsVersion h name v) → (key : List ℕ) × IsMissed h name key
neither h name (write key content version) at not nor = absurd (not version (key, content, at))
neither h name (read key content version) at not nor = absurd (nor version (key, content, at))
neither h name (missed key) at not nor = (key, at)

pub returns-in-None : goal.returns-in-None
returns-in-None c = neither c.args.history.now.sessions c.args.name c.requires.0 c.requires.1 c.in_default.ensures.none c.in-None.ensures.none
