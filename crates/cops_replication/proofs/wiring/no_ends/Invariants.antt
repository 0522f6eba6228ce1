use Rattle.std.proofs.Common.{◌≡◌, All, [], length}
use Rattle.std.specs.Global.{Vec}
use Rattle.cops_link.specs.declared.ends.LinkOut.{LinkOut}
use Rattle.cops_replication.proofs.wiring.no_ends.Given as goal

abbrev pub invariant-loop : goal.invariant-loop
invariant-loop l = record {
  length : length l.outs.items ≡ l.counter;
  none : All (λ (v : Vec LinkOut). v.items ≡ []) l.outs.items;
}
