-- The theorems about whole runs.
use Rattle.cops_core.proofs.Asking.{refused_stays}
use Rattle.cops_core.proofs.Worlds.{reached_accepted, reached_steps, reached_invariants}
use Rattle.cops_core.proofs.laws.every_interleaving_is_accepted.Goals as goal

pub returns-clause-accepted : goal.returns-clause-accepted
returns-clause-accepted c s w ok r = reached_accepted s ok w r

pub returns-clause-steps : goal.returns-clause-steps
returns-clause-steps c s w new event outcome ok r h = reached_steps s ok w r event outcome new h

pub returns-clause-invariants : goal.returns-clause-invariants
returns-clause-invariants c s w ok r = reached_invariants s ok w r

pub returns-clause-refused : goal.returns-clause-refused
returns-clause-refused c s w new event code h = refused_stays s w new event code h
