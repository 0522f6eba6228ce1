use Rattle.std.proofs.Common.{◌≡◌, ap, arith, length, refl, rules, sym, ◌∙◌}
use Rattle.cops_import.specs.Underway.{trace_to}
use Rattle.cops_import.proofs.Own.{all_written, few_records}
use Rattle.cops_import.proofs.Records.{cut_so_far, end_written, left_ended}
use Rattle.cops_import.proofs.ending.Ending.end.Goals as goal

pub returns-then-self-from-clause-err : goal.returns-then-self-from-clause-err
returns-then-self-from-clause-err g c = λ from ops returned h. rw c.give_up.ensures (record { cut = cut_so_far g.W.Write.contents from _ _ h.wrote; heard = h.wrote.heard })

pub returns-in-Ok-clause-ok : goal.returns-in-Ok-clause-ok
returns-in-Ok-clause-ok g c = λ from ops returned h names operations.
    let e = c.args.self in
    let is : e.client ≡ e.clients = search rules in
    let all = all_written g.W.Write.contents from ops returned e h is in
    let few = few_records g.W.Write.contents from ops returned e h in
    let wrote = end_written g.W.Write.contents from (trace_to e.writer.counts.format e.clients ops returned) e.writer c.in-Ok.writer h.wrote c.in-Ok.ensures.ok in
    record {
      clients_are = sym h.next ∙ is;
      names = names;
      unknown = refl;
      operations = omega (arith, c.saturating_add.ensures, c.saturating_sub-took_effect.ensures, c.len.ensures, ap length names, operations, h.next, few);
      is_trace = all.0;
      written = rw all.1 at wrote;
      heard = c.in-Ok.ensures.heard ∙ h.wrote.heard;
    }

pub returns-in-Err-clause-err : goal.returns-in-Err-clause-err
returns-in-Err-clause-err g c = λ from ops returned h.
    rw c.from-in-Err.ensures (left_ended g.W.Write.contents from _ c.args.self.writer c.in-Err.unwritten.writer c.in-Err.unwritten.fault h.wrote c.in-Err.ensures.err c.in-Err.ensures.failed)
