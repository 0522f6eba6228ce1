use Rattle.std.proofs.Common.{ap, subst, ◌∙◌}
use Rattle.cops_types.specs.Counted.{inner}
use Rattle.cops_import.specs.declared.rules.Expected.{Expected}
use Rattle.cops_import.specs.declared.rules.Rules.{Rules}
use Rattle.cops_import.specs.Underway.{Finishes}
use Rattle.cops_import.proofs.Ends.{ended_clients}
use Rattle.cops_import.proofs.Inputs.{fault_as, fault_of_all, fault_of_any, import_of_all}
use Rattle.cops_import.proofs.Stops.{if_err, if_ok}
use Rattle.cops_import.proofs.reading.import_stream.Goals as goal

pub returns-in-Err-clause-fault : goal.returns-in-Err-clause-fault
returns-in-Err-clause-fault g c = fault_of_any (g.R.Read.remaining (inner c.args.lines.now)) c.args.rules c.args.expected c.in-Err.unimported.fault c.in-Err.ensures.fault

pub returns-in-Ok-read_lines-clause-ok : goal.returns-in-Ok-read_lines-clause-ok
returns-in-Ok-read_lines-clause-ok g c =
    let all = c.in-Ok-read_lines.ensures.ok c.args.trace c.in-Ok.ensures.ok in
    if_ok c.finish.result _ _ (λ done h. import_of_all g.W.Write.contents c.args.trace _ c.args.rules c.read_lines.new.importer.clients all.0 done all.2
    (subst (λ (f : Rules). Finishes g.W.Write.contents c.args.trace f c.read_lines.new.importer.clients all.0 done) (c.in-Ok-read_lines.ensures.rules ∙ c.in-Ok.ensures.rules) (h c.args.trace all.0 all.1)))
    c.finish.ensures.ok

pub returns-in-Ok-read_lines-clause-clients : goal.returns-in-Ok-read_lines-clause-clients
returns-in-Ok-read_lines-clause-clients g c =
    let all = c.in-Ok-read_lines.ensures.ok c.args.trace c.in-Ok.ensures.ok in
    let clients = ap (λ (e : Expected). e.clients) (c.in-Ok-read_lines.ensures.expected ∙ c.in-Ok.ensures.expected) in
    if_ok c.finish.result _ _ (λ done h. ended_clients g.W.Write.contents c.args.trace _ _ _ done (h c.args.trace all.0 all.1).2 ∙ clients) c.finish.ensures.ok

pub returns-in-Ok-read_lines-clause-fault : goal.returns-in-Ok-read_lines-clause-fault
returns-in-Ok-read_lines-clause-fault g c =
    let all = c.in-Ok-read_lines.ensures.ok c.args.trace c.in-Ok.ensures.ok in
    let expected = c.in-Ok-read_lines.ensures.expected ∙ c.in-Ok.ensures.expected in
    let rules = c.in-Ok-read_lines.ensures.rules ∙ c.in-Ok.ensures.rules in
    if_err c.finish.result _ _ (λ u h. fault_as _ _ _ _ _ u.fault rules expected (fault_of_all _ all.0 _ _ u.fault all.2 (h c.args.trace all.0 all.1))) c.finish.ensures.fault

pub returns-in-Ok-read_lines-clause-cut : goal.returns-in-Ok-read_lines-clause-cut
returns-in-Ok-read_lines-clause-cut g c =
    let all = c.in-Ok-read_lines.ensures.ok c.args.trace c.in-Ok.ensures.ok in
    if_err c.finish.result _ _ (λ u h. (h c.args.trace all.0 all.1).cut) c.finish.ensures.err

pub returns-in-Ok-read_lines-clause-heard : goal.returns-in-Ok-read_lines-clause-heard
returns-in-Ok-read_lines-clause-heard g c =
    let all = c.in-Ok-read_lines.ensures.ok c.args.trace c.in-Ok.ensures.ok in
    if_ok c.finish.result _ _ (λ done h. ((h c.args.trace all.0 all.1).2.heard, c.in-Ok-read_lines.ensures.heard)) c.finish.ensures.ok

pub returns-in-Ok-read_lines-clause-write : goal.returns-in-Ok-read_lines-clause-write
returns-in-Ok-read_lines-clause-write g c =
    let all = c.in-Ok-read_lines.ensures.ok c.args.trace c.in-Ok.ensures.ok in
    if_err c.finish.result _ _ (λ u h. (h c.args.trace all.0 all.1).heard) c.finish.ensures.err
