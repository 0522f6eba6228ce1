use Rattle.std.proofs.Common.{◌≡◌, ℕ, ◌<◌, ◌≤◌, ◌++◌, List, length, ◌-◌, vec_capacity}
use Rattle.std.specs.Prelude.{◌⊎◌}
use Rattle.cops_trace.specs.Text.{beginning}
use Rattle.cops_trace.specs.Kept.{trace_of}
use Rattle.cops_trace.specs.Writing.{CountPrefix, prefix}
use Rattle.cops_trace.proofs.trace.Trace.append_records.Given as goal

abbrev pub invariant-loop-self : goal.invariant-loop-self
invariant-loop-self l =
    let t = trace_of l.self-inside.format l.self-inside.history.sessions l.self-inside.arrivals.items in record {
      at : l.at ≡ l.counts.total;
      counts : CountPrefix t l.counts;
      text : (before : List ℕ) → before ++ l.fn.out.items ≡ beginning (prefix l.fn.counts.total t) → before ++ l.out.items ≡ beginning (prefix l.counts.total t);
      since : l.fn.counts.total ≤ l.counts.total;
      more : (l.out ≡ l.fn.out) ⊎ (l.fn.counts.total < l.counts.total);
      capacity : vec_capacity l.fn.out ≤ vec_capacity l.out;
    }

abbrev pub decreases-loop-self : goal.decreases-loop-self
decreases-loop-self l = length l.self-inside.arrivals.items - l.at
