use Rattle.std.proofs.Common.{Some, None, inl, inr, ap, Ok}
use Rattle.cops_audit_commands.proofs.Shown.{appends_none, shows_all}
use Rattle.cops_audit_commands.proofs.show.show_stream.Goals as goal

pub returns-clause-shown : goal.returns-clause-shown
returns-clause-shown g c =
    let first = rw (c.in-Some-fault.is, c.deref.ensures.value) at c.in_ok-fault.ensures in
    let end = rw (c.in-Some-fault.is, c.deref-2.ensures.value) at c.in_ok-end.ensures in
    let shown = rw c.deref-3.ensures.value at c.in_ok-show_frames.ensures.written (ap (λ b. Ok b) c.if-not-branch.false) in
    elim c.print.ensures.whole [
      | inl failed ↦ inl failed
      | inr printed ↦
          let line = rw (c.deref-4.ensures.value, c.in_ok-fault_line.ensures.ok, c.new-text.ensures.items) at printed.1 in
          inr (shows_all _ _ (Some c.in-Some-fault.fault) _ _ _ _ _ printed.0 (rw c.in-Some.is at c.in_ok-bytes.ensures.all) first end shown line)
    ]

pub returns-in_default-clause-shown : goal.returns-in_default-clause-shown
returns-in_default-clause-shown g c =
    let first = rw (c.in_default.is, c.deref.ensures.value) at c.in_ok-fault.ensures in
    let end = rw (c.in_default.is, c.deref-2.ensures.value) at c.in_ok-end.ensures in
    let shown = rw c.deref-3.ensures.value at c.in_ok-show_frames.ensures.written (ap (λ b. Ok b) c.if-not-branch.false) in
    inr (shows_all _ _ None _ _ _ _ _ c.number.ensures (rw c.in-Some.is at c.in_ok-bytes.ensures.all) first end shown (appends_none _))
