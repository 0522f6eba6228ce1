use Rattle.std.proofs.Common.{◌≡◌, ap, length, List, ◌∙◌}
use Rattle.std.proofs.lemmas.List.{length-map, with_items_is}
use Rattle.std.specs.Global.{Vec}
use Rattle.std.specs.Vec.{with_items}
use Rattle.cops_link.specs.declared.ends.LinkOut.{LinkOut}
use Rattle.cops_replication.specs.Making.{rows}
use Rattle.cops_replication.proofs.Joining.{fresh_receivers}
use Rattle.cops_replication.proofs.wiring.wired.Goals as goal

pub returns-clause-receivers : goal.returns-clause-receivers
returns-clause-receivers c = λ enough.
    let paired = c.in_ok-receivers.ensures enough in
    let are : (with_items c.in_ok-outs.outs c.senders.new.outs).items ≡ c.senders.new.outs = with_items_is c.in_ok-outs.outs c.senders.new.outs (c.senders.auto.outs ∙ c.deref_mut.ensures.len) in
    let count : length (rows c.senders.new.outs) ≡ c.args.dcs = length-map c.senders.new.outs (λ (v : Vec LinkOut). v.items) ∙ c.senders.auto.outs ∙ ap (λ (l : List (Vec LinkOut)). length l) c.deref_mut.ensures.value ∙ c.in_ok-outs.ensures.length in (
      paired.dcs_are,
      paired.shares_are,
      fresh_receivers c.args.dcs (rows c.senders.new.outs) c.in_ok-receivers.receivers.items count c.in_ok-senders.ensures.ends (paired.links_are ∙ ap rows are),
    )
