use Rattle.std.proofs.Common.{◌≡◌, ℕ, List, [], ◌∷◌, ◌++◌, map, slice_index_or, ap, subst, ◌∙◌}
use Rattle.std.proofs.lemmas.List.{map_push}
use Rattle.std.proofs.lemmas.List.Elements.{All-push, All-same}
use Rattle.cops_cluster.specs.declared.client.Client.{Client}
use Rattle.cops_clients.specs.Opening.{HasItsScript}
use Rattle.cops_clients.specs.declared.clients.ClientTask.{ClientTask}
use Rattle.cops_clients.proofs.opening.tasks.Goals as goal

pub loop-client-preserved : goal.loop-client-preserved
loop-client-preserved c =
    let number : c.from.result ≡ c.in-Some.client.number = c.from.ensures ∙ c.number.ensures in
    let there : c.index-scripted-from.result ≡ slice_index_or c.args.scripted.now c.in-Some.client.number c.index-scripted-from.result =
    subst (λ (n : ℕ). c.index-scripted-from.result ≡ slice_index_or c.args.scripted.now n c.index-scripted-from.result) number c.index-scripted-from.is in
    record {
      clients = ap (map (λ (j : ClientTask). j.client)) c.in_ok-push.ensures.items ∙ map_push (λ (j : ClientTask). j.client) c.loop-client.tasks.items _
          ∙ ap (λ (l : List Client). l ++ c.in-Some.client ∷ []) c.loop-client.invariant.clients;
      scripts = All-same (HasItsScript c.args.scripted.now) _ _ c.in_ok-push.ensures.items
          (All-push (HasItsScript c.args.scripted.now) _ _ c.loop-client.invariant.scripts (c.index-scripted-from.result, there, c.deref.ensures.value));
    }
