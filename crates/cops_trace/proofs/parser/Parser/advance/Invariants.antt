use Rattle.std.proofs.Common.{length}
use Rattle.cops_trace.specs.Ahead.{GoesOn}
use Rattle.cops_trace.proofs.parser.Parser.advance.Given as goal

abbrev pub invariant-loop : goal.invariant-loop
invariant-loop g l = GoesOn g.S.Sink.took l.fn.self.begun l.fn.self.reader l.self.begun l.self.reader

abbrev pub decreases-loop : goal.decreases-loop
decreases-loop g l = length l.self.reader.rest
