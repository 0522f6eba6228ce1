use Rattle.std.proofs.Common.{◌≡◌, take}
use Rattle.cops_clients.specs.Live.{above_entries}
use Rattle.cops_clients.proofs.live.above_entries.Given as goal

abbrev pub invariant-loop-entry : goal.invariant-loop-entry
invariant-loop-entry l = l.above ≡ above_entries l.initial.above (take l.entry-index l.entries)
