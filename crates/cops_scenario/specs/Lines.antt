-- The printed line of an event's outcome.
use Rattle.std.specs.Prelude.{ℕ, List, codes, decimal}
use Rattle.cops_types.specs.Refusal.{code_of}
use Rattle.cops_types.specs.Texts.{◌⧺◌, version_text}
use Rattle.cops_node.specs.declared.outcome.Outcome.{Outcome}
use Rattle.cops_node.specs.declared.outcome.Outcome.TheVariants.{PutDone, Deleted, Got, Gone, Missed, Held, Repeat, Yes, Wait, Marked, Settled, Refused}

abbrev pub words : Outcome → List ℕ
words (PutDone version) = codes "done " ⧺ version_text version
words (Deleted version) = codes "deleted " ⧺ version_text version
words (Got value version) = codes "got " ⧺ version_text version
words (Gone version) = codes "gone " ⧺ version_text version
words Missed = codes "missed"
words Held = codes "held"
words Repeat = codes "repeat"
words Yes = codes "yes"
words Wait = codes "wait"
words Marked = codes "marked"
words Settled = codes "settled"
words (Refused refusal) = codes "refused " ⧺ decimal (code_of refusal)

-- the event's number, and the outcome's words
abbrev pub outcome_line : ℕ → Outcome → List ℕ
outcome_line n outcome = decimal n ⧺ codes " " ⧺ words outcome ⧺ codes "\n"
