use Rattle.std.proofs.Common.{◌≡◌, List, [], ◌∷◌, ◌++◌, map, ap, subst, sym, ◌∙◌, arith}
use Rattle.std.proofs.lemmas.List.{map_push}
use Rattle.std.proofs.lemmas.List.Elements.{All-push, All-same}
use Rattle.std.proofs.lemmas.Iterator.Adapters.{YieldsList-from_vec}
use Rattle.std.proofs.lemmas.Iterator.Consumers.{YieldsList-turn}
use Rattle.cops_core.specs.World.{Setting}
use Rattle.cops_cluster.specs.declared.share.Holder.{Holder}
use Rattle.cops_cluster.specs.declared.share.Holder.TheVariants.{Receiver as OfReceiver}
use Rattle.cops_replication.specs.declared.receiver.Receiver.{Receiver}
use Rattle.cops_clients.specs.Gates.{MayHold}
use Rattle.cops_clients.proofs.Holding.{of_receiving}
use Rattle.cops_clients.proofs.driving.start_receivers.Goals as goal

pub spawn_with-started-requires-clause-keeps : goal.spawn_with-started-requires-clause-keeps
spawn_with-started-requires-clause-keeps g c = λ κs met r post.
    let gives = c.into_iter-receiver-iterator.ensures.into_iter_gives in
    let at = YieldsList-turn (YieldsList-from_vec {s = c.into_iter-receiver-iterator.result} c.args.receivers.items gives.0 (omega (arith, gives.1, c.args.receivers.ok.0))) c.loop-receiver.yielded c.loop-receiver.receiver-iterator c.loop-receiver.yielded_by c.next.result c.next.new.self c.in-Some.receiver c.in-Some.is c.next.ensures.steps in
    let own : c.in-Some.receiver.share.holder ≡ OfReceiver c.in-Some.receiver.dc = subst (λ (r : Receiver). r.share.holder ≡ OfReceiver r.dc) (sym at.1) (c.requires.receivers.1 _ c.in-Some.receiver at.0) in (
      post.0 ∙ own ∙ ap OfReceiver (sym c.dc.ensures) ∙ sym c.of.ensures.owner,
      λ ended.
          let held : MayHold c.args.setting.now (g.G.Gate.may_hold c.args.gate.now) = of_receiving c.args.setting.now c.args.state.now.cluster (g.G.Gate.may_hold c.args.gate.now) c.requires.place (post.1 ended) in
          subst (λ (s : Setting). MayHold s (g.G.Gate.may_hold c.of.result.gate.value)) (sym c.of.ensures.setting) (subst (λ (x : _). MayHold c.args.setting.now (g.G.Gate.may_hold x)) (sym c.of.ensures.gate) held),
    )

pub loop-receiver-preserved : goal.loop-receiver-preserved
loop-receiver-preserved g c =
    let owner : c.in-Ok.handle.promise.owner ≡ OfReceiver c.in-Some.receiver.dc = ap (λ (p : _). p.owner) c.in-Ok.ensures.ok ∙ c.of.ensures.owner ∙ ap OfReceiver c.dc.ensures in (
      tt,
      tt,
      All-same (λ (h : _). (h.promise.gate.value ≡ c.args.gate.now) × (h.promise.setting.value ≡ c.args.setting.now)) _ _ c.in-Ok-push.ensures.items
          (All-push (λ (h : _). (h.promise.gate.value ≡ c.args.gate.now) × (h.promise.setting.value ≡ c.args.setting.now)) _ _ c.loop-receiver.invariant.2 (rw c.in-Ok.ensures.ok (c.of.ensures.gate, c.of.ensures.setting))),
      ap (map (λ (h : _). h.promise.owner)) c.in-Ok-push.ensures.items ∙ map_push (λ (h : _). h.promise.owner) c.loop-receiver.handles.items c.in-Ok.handle
          ∙ ap (λ (l : List Holder). l ++ c.in-Ok.handle.promise.owner ∷ []) c.loop-receiver.invariant.3 ∙ ap (λ (x : Holder). map (λ (r : Receiver). OfReceiver r.dc) c.loop-receiver.yielded ++ x ∷ []) owner
          ∙ sym (map_push (λ (r : Receiver). OfReceiver r.dc) c.loop-receiver.yielded c.in-Some.receiver),
    )
