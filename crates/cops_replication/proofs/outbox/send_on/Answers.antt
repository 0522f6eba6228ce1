use Rattle.std.proofs.Common.{get_or, length, map, set, arith}
use Rattle.std.proofs.lemmas.List.Elements.{All-set}
use Rattle.cops_link.specs.Link.{sent}
use Rattle.cops_replication.specs.Lanes.{frames, shown, IsWithin}
use Rattle.cops_replication.proofs.Counting.{count_more, frames_set}
use Rattle.cops_replication.proofs.Sends.{each_refl, each_shown_set}
use Rattle.cops_replication.proofs.Showing.{filled_more}
use Rattle.cops_replication.proofs.outbox.send_on.Goals as goal

pub loop-k-init : goal.loop-k-init
loop-k-init c = record {
  within = c.requires;
  sends = each_refl (map (shown c.args.puts.now) c.args.lanes.now);
  more = omega arith;
  count = omega arith;
  filled = λ i d less. absurd (omega (arith, less));
}

pub returns-in_err-more-clause-sends : goal.returns-in_err-more-clause-sends
returns-in_err-more-clause-sends c =
    each_shown_set c.args.puts.now (map (shown c.args.puts.now) c.args.lanes.now) c.loop-k.lanes c.loop-k.k c.send.new.self c.index-lanes-k.result (omega arith) c.loop-k.invariant.sends c.send.ensures.sends

pub loop-k-preserved : goal.loop-k-preserved
loop-k-preserved c =
    let all = frames_set c.args.puts.now c.loop-k.lanes c.loop-k.k c.send.new.self c.index-lanes-k.result (omega arith) in
    record {
      within = All-set (IsWithin c.args.puts.now) c.loop-k.lanes c.loop-k.k c.send.new.self c.send.ensures.within c.loop-k.invariant.within;
      sends = each_shown_set c.args.puts.now (map (shown c.args.puts.now) c.args.lanes.now) c.loop-k.lanes c.loop-k.k c.send.new.self c.index-lanes-k.result (omega arith) c.loop-k.invariant.sends c.send.ensures.sends;
      more = omega (arith, all, c.in_ok-more.ensures.count);
      count = count_more (frames (map (shown c.args.puts.now) c.args.lanes.now)) (frames (map (shown c.args.puts.now) c.loop-k.lanes)) (frames (map (shown c.args.puts.now) (set c.loop-k.lanes c.loop-k.k c.send.new.self)))
          (length (sent (get_or c.loop-k.lanes c.loop-k.k c.index-lanes-k.result).link)) (length (sent c.send.new.self.link)) c.in_ok-more.more c.saturating_add-sent.result c.loop-k.sent
          c.loop-k.invariant.more all c.in_ok-more.ensures.count c.loop-k.invariant.count c.saturating_add-sent.ensures;
      filled = filled_more c.args.puts.now c.loop-k.lanes c.loop-k.k c.send.new.self (omega arith) c.loop-k.invariant.filled c.in_ok-more.ensures.filled;
    }
