use Rattle.std.proofs.Common.{◌≡◌, refl, sym, ap, subst}
use Rattle.std.proofs.lemmas.List.Elements.{All-push}
use Rattle.cops_context.specs.Kept.{AContext}
use Rattle.cops_cluster.specs.declared.client.Client.{Client}
use Rattle.cops_cluster.specs.Opening.{AreOfFormat}
use Rattle.cops_cluster.proofs.Clients.{clients_more}
use Rattle.cops_cluster.proofs.cluster.opened_clients.Goals as goal

pub loop-k-preserved : goal.loop-k-preserved
loop-k-preserved c =
    let context = c.new_in.ensures in (
      clients_more c.args.dcs.now c.loop-k.k c.loop-k.clients.items c.push.new.self.items _ c.in_ok-push.ensures.items refl refl
          (ap (λ (x : AContext). x.pairs) context) c.empty_share.ensures.holder c.empty_share.ensures.entries c.loop-k.invariant.0,
      subst (AreOfFormat c.args.format) (sym c.in_ok-push.ensures.items)
          (All-push (λ (x : Client). x.context.format ≡ c.args.format) c.loop-k.clients.items _ c.loop-k.invariant.1 (ap (λ (x : AContext). x.format) context)),
    )
