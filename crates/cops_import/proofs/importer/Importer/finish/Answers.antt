use Rattle.std.proofs.Common.{◌≡◌, ◌+◌, ◌≤◌, ℕ, ap, subst, ◌∙◌, rules}
use Rattle.cops_import.specs.declared.rules.Rules.{Rules}
use Rattle.cops_import.specs.Lines.{ops_of, returned_of}
use Rattle.cops_import.specs.Underway.{HasEnded, IsStopAtEnd, expected_of, rules_of}
use Rattle.cops_import.specs.declared.rules.Expected.{Expected}
use Rattle.cops_import.proofs.Records.{cut_so_far}
use Rattle.cops_import.proofs.Steps.{endless_says, last_taken}
use Rattle.cops_import.proofs.Stops.{if_err, if_ok, stops_ended, stops_last}
use Rattle.cops_import.proofs.importer.Importer.finish.Goals as goal

pub returns-in_default-clause-err : goal.returns-in_default-clause-err
returns-in_default-clause-err g c = λ from fed u. rw c.give_up.ensures (record { cut = cut_so_far g.W.Write.contents from _ _ u.taken.ops.wrote; heard = u.taken.ops.wrote.heard })

pub returns-in-Ok-clause-ok : goal.returns-in-Ok-clause-ok
returns-in-Ok-clause-ok g c = if_ok c.end.result _ _
    (λ done h from fed u.
    let next : c.in-Some.number ≡ c.args.self.ended + 1 = search rules in
    let last = last_taken g.W.Write.contents from fed c.args.self c.take_line.new.self c.in-Some.number u next (c.in-Ok.ensures.ok from u.given u.taken) in
    let clients = ap (λ (k : Expected). k.clients) c.in-Ok.ensures.expected in (
      last.0,
      last.1,
      subst (λ (k : ℕ). HasEnded g.W.Write.contents from c.args.self.writer.counts.format k last.0 done) clients
          (subst (λ (f : Rules). HasEnded g.W.Write.contents from f.format c.take_line.new.self.clients last.0 done) c.in-Ok.ensures.rules (h from last.0 last.2)),
    ))
    c.end.ensures.ok

pub returns-in-Ok-clause-fault : goal.returns-in-Ok-clause-fault
returns-in-Ok-clause-fault g c = if_err c.end.result _ _
    (λ e h from fed u.
    let next : c.in-Some.number ≡ c.args.self.ended + 1 = search rules in
    let last = last_taken g.W.Write.contents from fed c.args.self c.take_line.new.self c.in-Some.number u next (c.in-Ok.ensures.ok from u.given u.taken) in
    let clients = ap (λ (k : Expected). k.clients) c.in-Ok.ensures.expected in
    stops_ended (rules_of c.args.self) (expected_of c.args.self) fed last.0 e.fault last.1
    (subst (λ (k : ℕ). IsStopAtEnd k (ops_of last.0) (returned_of last.0) e.fault) clients (h from last.0 last.2)))
    c.end.ensures.stop

pub returns-in-Err-clause-fault : goal.returns-in-Err-clause-fault
returns-in-Err-clause-fault g c = λ from fed u.
    let next : c.in-Some.number ≡ c.args.self.ended + 1 = search rules in
    rw c.give_up-in-Err.ensures
    (stops_last (rules_of c.args.self) (expected_of c.args.self) fed u.ended c.args.self.line.items u.given c.in-Some.number c.in-Err.fault u.split u.within u.report (next ∙ ap (λ (n : ℕ). n + 1) u.counted)
    (c.in-Err.ensures.stop from u.given u.taken))

pub returns-in_default-clause-fault : goal.returns-in_default-clause-fault
returns-in_default-clause-fault g c = λ from fed u.
    let many : 18446744073709551615 ≤ c.args.self.ended = search rules in
    rw c.give_up.ensures (endless_says g.W.Write.contents from fed c.args.self u many)
