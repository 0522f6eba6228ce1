use Rattle.std.proofs.Common.{◌≡◌, ℕ, ◌-◌, List, ◌++◌, length, None}
use Rattle.std.specs.Io.KnownBytes.{Consumes}
use Rattle.cops_types.specs.Counted.{failures, inner}
use Rattle.cops_net.proofs.incoming.Incoming.next.Given as goal

abbrev pub invariant-loop-message : goal.invariant-loop-message
invariant-loop-message g l =
    let remaining = g.I.Read.remaining in
    record {
      read : (came : List ℕ) × Consumes (remaining (inner l.fn.reader)) (remaining (inner l.reader)) came × (l.self.feeder.rest ≡ l.fn.self.feeder.rest ++ came);
      format : l.self.feeder.format ≡ l.fn.format;
      whole : l.self.feeder.fault ≡ None;
      count : failures l.reader ≡ failures l.fn.reader;
    }

abbrev pub decreases-loop-message : goal.decreases-loop-message
decreases-loop-message g l = 131076 - length l.self.feeder.rest
