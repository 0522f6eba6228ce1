use Rattle.std.proofs.Common.{refl, ◌∙◌, arith}
use Rattle.std.proofs.lemmas.List.{take_rest, length-drop}
use Rattle.cops_audit_commands.proofs.Frames.{none_written, line_appended, text_written, all_written}
use Rattle.cops_audit_commands.proofs.show.show_frames_in.Goals as goal

pub loop-text-init : goal.loop-text-init
loop-text-init g c = record { written = rw c.new-text.ensures.items (none_written _ _ _ _); within = omega arith; before = omega arith; count = refl }

pub loop-text-preserved : goal.loop-text-preserved
loop-text-preserved g c =
    let next = rw (c.in-Some.is, take_rest) at c.in_ok-used.ensures.next in
    let used = rw (c.in-Some.is, take_rest, length-drop) at c.in_ok-used.ensures.used in
    let wrote = c.if-not-write_long.ensures.written refl in
    record {
      written = text_written _ _ _ _ _ _ _ _ _ _ (line_appended _ _ _ _ _ _ _ _ _ c.loop-text.invariant.written next) wrote.1 wrote.2;
      within = omega arith;
      before = omega arith;
      count = c.if-not-write_long.ensures.heard refl ∙ c.loop-text.invariant.count;
    }

pub returns-in-Ok-clause-written : goal.returns-in-Ok-clause-written
returns-in-Ok-clause-written g c = λ same.
    let none = rw (c.in_default.is, take_rest) at c.in_ok-used.ensures.next in
    let last = rw c.deref.ensures.value at c.in-Ok.ensures.ok in
    all_written _ _ _ _ _ _ _ _ _ c.loop-text.invariant.written none last
