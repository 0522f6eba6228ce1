use Rattle.std.proofs.Common.{◌≡◌, ◌≤◌, ◌-◌, length}
use Rattle.cops_types.specs.Counted.{failures, inner}
use Rattle.cops_audit_commands.proofs.Frames.{WrittenTo}
use Rattle.cops_audit_commands.proofs.show.show_frames_in.Given as goal

abbrev pub invariant-loop-text : goal.invariant-loop-text
invariant-loop-text g l =
    record {
      written : WrittenTo l.fn.format l.bytes l.end l.at (g.W.Write.contents (inner l.fn.out)) (g.W.Write.contents (inner l.out)) l.text.items;
      within : l.at ≤ length l.bytes;
      before : l.at ≤ l.end;
      count : failures l.out ≡ failures l.fn.out;
    }

abbrev pub decreases-loop-text : goal.decreases-loop-text
decreases-loop-text g l = length l.bytes - l.at
