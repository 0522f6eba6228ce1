use Rattle.std.proofs.Common.{◌≡◌, ◌+◌, ℕ, List, length}
use Rattle.std.specs.Io.KnownBytes.{Consumes}
use Rattle.cops_net.specs.declared.parting.TheConstants.{MOST_BEHIND}
use Rattle.cops_net.proofs.parting.read_away.Given as goal

abbrev pub invariant-loop : goal.invariant-loop
invariant-loop g l =
    let remaining = g.I.Read.remaining in
    (came : List ℕ) × Consumes (remaining l.fn.reader) (remaining l.reader) came × (length came + l.room ≡ MOST_BEHIND)
