use Rattle.std.proofs.Common.{◌≡◌, List, [], ◌∷◌, ◌++◌, map, ap, subst, sym, ◌∙◌, arith}
use Rattle.std.proofs.lemmas.List.{map_push}
use Rattle.std.proofs.lemmas.List.Elements.{All-push, All-same}
use Rattle.std.proofs.lemmas.Iterator.Adapters.{YieldsList-from_vec}
use Rattle.std.proofs.lemmas.Iterator.Consumers.{YieldsList-turn}
use Rattle.cops_core.specs.World.{Setting}
use Rattle.cops_cluster.specs.declared.share.Holder.{Holder}
use Rattle.cops_cluster.specs.declared.share.Holder.TheVariants.{Client as OfClient}
use Rattle.cops_clients.specs.declared.clients.ClientTask.{ClientTask}
use Rattle.cops_clients.specs.Callers.{IsClientOf}
use Rattle.cops_clients.specs.Gates.{MayHold}
use Rattle.cops_clients.proofs.Holding.{of_client}
use Rattle.cops_clients.proofs.driving.start_clients.Goals as goal

pub spawn_with-started-requires-clause-keeps : goal.spawn_with-started-requires-clause-keeps
spawn_with-started-requires-clause-keeps g c = λ κs met r post.
    let gives = c.into_iter-task-iterator.ensures.into_iter_gives in
    let at = YieldsList-turn (YieldsList-from_vec {s = c.into_iter-task-iterator.result} c.args.tasks.items gives.0 (omega (arith, gives.1, c.args.tasks.ok.0))) c.loop-task.yielded c.loop-task.task-iterator c.loop-task.yielded_by c.next.result c.next.new.self c.in-Some.task c.in-Some.is c.next.ensures.steps in
    let own : IsClientOf c.args.setting.now c.in-Some.task.client = subst (λ (j : ClientTask). IsClientOf c.args.setting.now j.client) (sym at.1) (c.requires.tasks.1 _ c.in-Some.task at.0) in (
      post.0 ∙ own.3 ∙ ap OfClient (sym c.number.ensures) ∙ sym c.of.ensures.owner,
      λ ended.
          let held : MayHold c.args.setting.now (g.G.Gate.may_hold c.args.gate.now) = of_client c.args.setting.now c.args.state.now.cluster (g.G.Gate.may_hold c.args.gate.now) c.in-Some.task.client c.requires.place own (post.1 ended) in
          subst (λ (s : Setting). MayHold s (g.G.Gate.may_hold c.of.result.gate.value)) (sym c.of.ensures.setting) (subst (λ (x : _). MayHold c.args.setting.now (g.G.Gate.may_hold x)) (sym c.of.ensures.gate) held),
    )

pub loop-task-preserved : goal.loop-task-preserved
loop-task-preserved g c =
    let owner : c.in-Ok.handle.promise.owner ≡ OfClient c.in-Some.task.client.number = ap (λ (p : _). p.owner) c.in-Ok.ensures.ok ∙ c.of.ensures.owner ∙ ap OfClient c.number.ensures in (
      tt,
      tt,
      All-same (λ (h : _). (h.promise.gate.value ≡ c.args.gate.now) × (h.promise.setting.value ≡ c.args.setting.now)) _ _ c.in-Ok-push.ensures.items
          (All-push (λ (h : _). (h.promise.gate.value ≡ c.args.gate.now) × (h.promise.setting.value ≡ c.args.setting.now)) _ _ c.loop-task.invariant.2 (rw c.in-Ok.ensures.ok (c.of.ensures.gate, c.of.ensures.setting))),
      ap (map (λ (h : _). h.promise.owner)) c.in-Ok-push.ensures.items ∙ map_push (λ (h : _). h.promise.owner) c.loop-task.handles.items c.in-Ok.handle
          ∙ ap (λ (l : List Holder). l ++ c.in-Ok.handle.promise.owner ∷ []) c.loop-task.invariant.3 ∙ ap (λ (x : Holder). map (λ (j : ClientTask). OfClient j.client.number) c.loop-task.yielded ++ x ∷ []) owner
          ∙ sym (map_push (λ (j : ClientTask). OfClient j.client.number) c.loop-task.yielded c.in-Some.task),
    )
