use Rattle.std.proofs.Common.{subst}
use Rattle.cops_audit.specs.Sorted.{IsSorted}
use Rattle.cops_audit.proofs.Classes.{doubled_listed, some_doubled, some_listed}
use Rattle.cops_audit.proofs.puts.Puts.refused_doubled.Goals as goal

pub returns : goal.returns
returns c =
    let s = c.args.self.now in
    let sorted : IsSorted s = subst IsSorted c.self.view_is c.self.invariant.0 in
    let lists = doubled_listed s.sessions s.names sorted.names c.args.faults.items c.requires.faults in
    let repeats = c.requires.repeats in
    (some_listed s.sessions c.args.faults.items lists (some_doubled s.sessions s.table sorted.table repeats.0 repeats.1 repeats.2), lists)
