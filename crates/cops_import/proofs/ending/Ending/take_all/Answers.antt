use Rattle.std.proofs.Common.{◌≡◌, ◌+◌, ◌<◌, ◌++◌, ◌∷◌, [], List, length, take, true, refl, rules, sym, subst, ◌∙◌, ap}
use Rattle.std.specs.List.{list_any}
use Rattle.std.proofs.lemmas.List.{take_more}
use Rattle.std.proofs.lemmas.List.Elements.{All-get_or}
use Rattle.cops_outcomes.specs.Outcomes.{same_write}
use Rattle.cops_import.specs.Lines.{operations_of}
use Rattle.cops_import.specs.Underway.{IsListed}
use Rattle.cops_import.specs.declared.reported.UnknownPut.{UnknownPut}
use Rattle.cops_import.proofs.Asking.{IsPartly, next_version, partly_more, stops_at_end, writes_of}
use Rattle.cops_import.proofs.Records.{left_here}
use Rattle.cops_import.proofs.ending.Ending.take_all.Goals as goal

pub returns-in-Err-push-clause-err : goal.returns-in-Err-push-clause-err
returns-in-Err-push-clause-err g c = λ from ops begun.
    let partly = c.loop-put.invariant.taken from ops begun in
    left_here g.W.Write.contents from _ c.take_next.new.self.writer _ (c.in-Ok.ensures.ok.1 from ops _ partly.ending.own).wrote refl

pub returns-in-Err-clause-stop : goal.returns-in-Err-clause-stop
returns-in-Err-clause-stop g c = λ from ops begun.
    let partly = c.loop-put.invariant.taken from ops begun in
    let puts = c.args.puts.now in
    let i = c.loop-put.put-index in
    let put = c.put-item.result in
    let format = c.args.self.now.writer.counts.format in
    let inside : i < length puts = search rules in
    let listed : IsListed format c.args.outcomes.now.writes put = rw c.put-item.is (All-get_or (IsListed format c.args.outcomes.now.writes) puts i put inside begun.listed) in
    let known : list_any (same_write put.write) c.loop-put.outcomes.writes ≡ true = rw c.loop-put.invariant.writes listed.0 in
    let is : c.next.result ≡ next_version (operations_of ops) (take i puts) put = c.next.ensures.outcome (operations_of ops) (writes_of (take i puts)) partly.asked known in
    let stop = c.in-Err.ensures.stop from ops _ partly.ending.own (rw c.loop-put.invariant.format listed.1) in
    stops_at_end c.args.self.now.clients ops puts i put c.next.result c.in-Err.fault inside c.put-item.is is (rw c.loop-put.invariant.clients at stop)

pub loop-put-preserved : goal.loop-put-preserved
loop-put-preserved g c =
    let puts = c.args.puts.now in
    let i = c.loop-put.put-index in
    let put = c.put-item.result in
    let format = c.args.self.now.writer.counts.format in
    let inside : i < length puts = search rules in
    record {
      taken = λ from ops begun.
          let partly = c.loop-put.invariant.taken from ops begun in
          let listed : IsListed format c.args.outcomes.now.writes put = rw c.put-item.is (All-get_or (IsListed format c.args.outcomes.now.writes) puts i put inside begun.listed) in
          let known : list_any (same_write put.write) c.loop-put.outcomes.writes ≡ true = rw c.loop-put.invariant.writes listed.0 in
          let is : c.next.result ≡ next_version (operations_of ops) (take i puts) put = c.next.ensures.outcome (operations_of ops) (writes_of (take i puts)) partly.asked known in
          let more : take i puts ++ put ∷ [] ≡ take (i + 1) puts = ap (λ (p : UnknownPut). take i puts ++ p ∷ []) c.put-item.is ∙ sym (take_more puts i put inside) in
          let next =
          partly_more g.W.Write.contents from ops (take i puts) put c.next.result c.in-Ok.outcome _ c.next.new.self _ _ c.take_next.new.self partly is
          (c.next.ensures.after (operations_of ops) (writes_of (take i puts)) partly.asked) c.in-Ok.ensures.ok.0 (c.in-Ok.ensures.ok.1 from ops _ partly.ending.own) in
          rw c.in-Ok-push.ensures.items (subst (λ (ps : List UnknownPut). IsPartly g.W.Write.contents from ops ps c.next.new.self (c.loop-put.done.items ++ c.in-Ok.outcome ∷ []) c.take_next.new.self) more next);
      writes = c.next.ensures.writes ∙ c.loop-put.invariant.writes;
      clients = c.in-Ok.ensures.clients ∙ c.loop-put.invariant.clients;
      format = c.in-Ok.ensures.format ∙ c.loop-put.invariant.format;
    }
