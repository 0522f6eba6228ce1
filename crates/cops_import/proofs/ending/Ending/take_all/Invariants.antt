use Rattle.std.proofs.Common.{◌≡◌, List, take}
use Rattle.cops_types.specs.declared.counted.Counted.{Counted}
use Rattle.cops_import.specs.Underway.{IsBegun}
use Rattle.cops_import.specs.declared.reported.LineOp.{LineOp}
use Rattle.cops_import.proofs.Asking.{IsPartly}
use Rattle.cops_import.proofs.ending.Ending.take_all.Given as goal

abbrev pub invariant-loop-put : goal.invariant-loop-put
invariant-loop-put g l = record {
  taken : (from : Counted g.row.W.Denot) (ops : List LineOp) → IsBegun g.W.Write.contents from ops l.fn.puts l.fn.outcomes l.fn.self
      → IsPartly g.W.Write.contents from ops (take l.put-index l.fn.puts) l.outcomes l.done.items l.self;
  writes : l.outcomes.writes ≡ l.fn.outcomes.writes;
  clients : l.self.clients ≡ l.fn.self.clients;
  format : l.self.writer.counts.format ≡ l.fn.self.writer.counts.format;
}
