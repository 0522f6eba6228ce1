use Rattle.std.proofs.Common.{inl, inr, rules}
use Rattle.std.specs.Prelude.{Some}
use Rattle.cops_import.specs.Line.{LineGives, LineLacksRank}
use Rattle.cops_import.specs.Underway.{expected_of, rules_of}
use Rattle.cops_import.specs.declared.fault.ImportFault.TheVariants.{Changed}
use Rattle.cops_import.specs.declared.reported.Reported.TheVariants.{Known, Unknown}
use Rattle.cops_import.proofs.Records.{cut_so_far}
use Rattle.cops_import.proofs.Stops.{if_err, if_err_at, on_ok, stop_of}
use Rattle.cops_import.proofs.Taking.{unknown_stop}
use Rattle.cops_import.proofs.importer.Importer.take_line.Goals as goal

pub returns-in-Ok-Some-Known-clause-ok : goal.returns-in-Ok-Some-Known-clause-ok
returns-in-Ok-Some-Known-clause-ok g c = on_ok c.take_known.result _ _
    (λ h from given taken.
    let reports : LineGives (rules_of c.args.self.now) c.args.number c.args.self.now.line.items (Some (Known c.in-Ok-Some-Known.reported)) = search rules in
    (Some (Known c.in-Ok-Some-Known.reported), reports, h from given taken))
    c.take_known.ensures.ok

pub returns-in-Ok-Some-Known-clause-stop : goal.returns-in-Ok-Some-Known-clause-stop
returns-in-Ok-Some-Known-clause-stop g c = if_err c.take_known.result _ _
    (λ e h from given taken.
    let reports : LineGives (rules_of c.args.self.now) c.args.number c.args.self.now.line.items (Some (Known c.in-Ok-Some-Known.reported)) = search rules in
    stop_of (rules_of c.args.self.now) (expected_of c.args.self.now) c.args.number given c.args.self.now.line.items c.in-Ok-Some-Known.reported e reports (h from given taken))
    c.take_known.ensures.stop

pub returns-in-Ok-Some-Unknown-clause-ok : goal.returns-in-Ok-Some-Unknown-clause-ok
returns-in-Ok-Some-Unknown-clause-ok g c = on_ok c.take_unknown.result _ _
    (λ h from given taken.
    let reports : LineGives (rules_of c.args.self.now) c.args.number c.args.self.now.line.items (Some (Unknown c.in-Ok-Some-Unknown.put)) = search rules in
    (Some (Unknown c.in-Ok-Some-Unknown.put), reports, h from given taken))
    c.take_unknown.ensures.ok

pub returns-in-Ok-Some-Unknown-clause-stop : goal.returns-in-Ok-Some-Unknown-clause-stop
returns-in-Ok-Some-Unknown-clause-stop g c = if_err_at c.take_unknown.result Changed _ _ _
    (λ e only changed from given taken.
    let reports : LineGives (rules_of c.args.self.now) c.args.number c.args.self.now.line.items (Some (Unknown c.in-Ok-Some-Unknown.put)) = search rules in
    unknown_stop (rules_of c.args.self.now) (expected_of c.args.self.now) c.args.number given c.args.self.now.line.items c.in-Ok-Some-Unknown.put e reports only changed)
    c.take_unknown.ensures.faults c.take_unknown.ensures.changed

pub returns-in-Err-Memory-clause-err : goal.returns-in-Err-Memory-clause-err
returns-in-Err-Memory-clause-err g c = λ from given h. record { cut = cut_so_far g.W.Write.contents from _ _ h.ops.wrote; heard = tt }

pub returns-in-Err-Fault-clause-err : goal.returns-in-Err-Fault-clause-err
returns-in-Err-Fault-clause-err g c = λ from given h. record { cut = cut_so_far g.W.Write.contents from _ _ h.ops.wrote; heard = h.ops.wrote.heard }

pub returns-in-Err-Unranked-clause-err : goal.returns-in-Err-Unranked-clause-err
returns-in-Err-Unranked-clause-err g c = λ from given h. record { cut = cut_so_far g.W.Write.contents from _ _ h.ops.wrote; heard = h.ops.wrote.heard }

pub returns-in-Err-Unranked-clause-stop : goal.returns-in-Err-Unranked-clause-stop
returns-in-Err-Unranked-clause-stop g c = λ from given h.
    let lacks : LineLacksRank (rules_of c.args.self.now) c.args.self.now.line.items = search rules in
    inr (inl lacks)
