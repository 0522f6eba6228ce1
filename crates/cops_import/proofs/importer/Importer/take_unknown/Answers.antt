use Rattle.std.proofs.Common.{refl, rules, ◌≡◌, true}
use Rattle.std.specs.List.{list_any}
use Rattle.cops_outcomes.specs.Outcomes.{same_write}
use Rattle.cops_import.proofs.Records.{cut_so_far, left_here}
use Rattle.cops_import.proofs.Stops.{if_err_and}
use Rattle.cops_import.proofs.Taking.{unknown_taken}
use Rattle.cops_import.proofs.importer.Importer.take_unknown.Goals as goal

pub returns-then-not-knows-clause-err : goal.returns-then-not-knows-clause-err
returns-then-not-knows-clause-err g c = λ from given h. record { cut = cut_so_far g.W.Write.contents from _ _ h.ops.wrote; heard = h.ops.wrote.heard }

pub returns-in_err-push-clause-err : goal.returns-in_err-push-clause-err
returns-in_err-push-clause-err g c =
    if_err_and c.from_residual.result _ _ (λ e is from given h. left_here g.W.Write.contents from _ c.args.self.now.writer e h.ops.wrote is) c.from_residual.ensures.1

pub returns-clause-ok : goal.returns-clause-ok
returns-clause-ok g c = λ from given h.
    let listed : list_any (same_write c.args.put.write) c.args.self.now.sightings.writes ≡ true = search rules in
    unknown_taken g.W.Write.contents from given c.args.put c.args.self.now _ h
    (record { names = h.ops.names; few = h.ops.few; operations = h.ops.operations; wrote = h.ops.wrote }) refl c.in_ok-push.ensures.items listed c.requires refl
