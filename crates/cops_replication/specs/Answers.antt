-- The nodes' answers, reduced to what a receiver acts on.
use Rattle.cops_node.specs.declared.outcome.Outcome.{Outcome}
use Rattle.cops_node.specs.declared.outcome.Outcome.TheVariants.{Held, Repeat, Marked, Settled}
use Rattle.cops_replication.specs.declared.arrival.NodeAnswer.{NodeAnswer}
use Rattle.cops_replication.specs.declared.arrival.NodeAnswer.TheVariants.{Waits, Repeat as Repeats, Marked as WasMarked, Settled as WasSettled, Other}

-- the answer for an outcome
abbrev pub answer_to : Outcome → NodeAnswer
answer_to Held = Waits
answer_to Repeat = Repeats
answer_to Marked = WasMarked
answer_to Settled = WasSettled
answer_to _ = Other
