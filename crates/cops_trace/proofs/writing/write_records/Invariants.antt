use Rattle.std.proofs.Common.{◌≡◌, ◌+◌, ◌-◌, ◌<◌, ◌≤◌, length, vec_len, vec_capacity}
use Rattle.cops_types.specs.Counted.{failures, inner}
use Rattle.cops_trace.specs.Text.{beginning}
use Rattle.cops_trace.specs.Writing.{CountPrefix, HasSent, prefix}
use Rattle.cops_trace.specs.declared.trace.TheConstants.{LONGEST_FRAME}
use Rattle.cops_trace.specs.declared.writing.TheConstants.{PIECE}
use Rattle.cops_trace.proofs.writing.write_records.Given as goal

abbrev pub invariant-loop-counts : goal.invariant-loop-counts
invariant-loop-counts g l = record {
  counts : CountPrefix l.trace l.counts;
  sent : HasSent (g.W.Write.contents (inner l.fn.writer)) (g.W.Write.contents (inner l.writer)) (beginning (prefix l.counts.total l.trace)) l.left.items l.written;
  heard : failures l.writer ≡ failures l.fn.writer;
  room : PIECE + LONGEST_FRAME ≤ vec_capacity l.left;
  few : vec_len l.left < PIECE;
}

abbrev pub decreases-loop-counts : goal.decreases-loop-counts
decreases-loop-counts g l = length l.trace.records - l.counts.total
