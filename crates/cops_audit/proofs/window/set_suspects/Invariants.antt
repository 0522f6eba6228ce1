use Rattle.std.proofs.Common.{◌≤◌}
use Rattle.std.specs.Prelude.{vec_capacity}
use Rattle.cops_audit.specs.Names.{names_left}
use Rattle.cops_audit.proofs.Gathering.{Gathered}
use Rattle.cops_audit.proofs.window.set_suspects.Given as goal

abbrev pub invariant-loop-name : goal.invariant-loop-name
invariant-loop-name l = record {
  suspects : Gathered l.analysis.history.now.sessions l.analysis.table.now (names_left l.fn.names) l.yielded (names_left l.name-iterator) l.suspects.items;
  capacity : vec_capacity l.fn.suspects ≤ vec_capacity l.suspects;
}
