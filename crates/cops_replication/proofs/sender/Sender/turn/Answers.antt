use Rattle.std.proofs.Common.{refl, subst, sym}
use Rattle.cops_replication.specs.Lanes.{EachSends}
use Rattle.cops_replication.specs.Sending.{lanes}
use Rattle.cops_replication.specs.declared.sender.Sender.{Sender}
use Rattle.cops_replication.proofs.Carrying.{below_sent, carries_sent, carries_trans}
use Rattle.cops_replication.proofs.sender.Sender.turn.Goals as goal

pub returns-in_err-sent-clause-carries : goal.returns-in_err-sent-clause-carries
returns-in_err-sent-clause-carries g c =
    let after : Sender = record { dc = c.read-read.new.self.dc; repeat = c.read-read.new.self.repeat; read = c.read-read.new.self.read; outbox = c.send.new.self } in
    carries_trans c.args.cluster.now c.args.self.now c.read-read.new.self after c.read-read.ensures.carries (carries_sent c.args.cluster.now c.read-read.new.self after refl refl refl c.send.ensures.sends)

pub returns-in_err-read-clause-carries : goal.returns-in_err-read-clause-carries
returns-in_err-read-clause-carries g c =
    let after : Sender = record { dc = c.read-read.new.self.dc; repeat = c.read-read.new.self.repeat; read = c.read-read.new.self.read; outbox = c.forget.new.self } in
    let sends : EachSends (lanes c.read-read.new.self) c.forget.new.self = subst (λ l. EachSends (lanes c.read-read.new.self) l) (sym c.forget.ensures) c.send.ensures.sends in
    carries_trans c.args.cluster.now c.args.self.now c.read-read.new.self after c.read-read.ensures.carries (carries_sent c.args.cluster.now c.read-read.new.self after refl refl refl sends)

pub returns-clause-carries : goal.returns-clause-carries
returns-clause-carries g c =
    let after : Sender = record { dc = c.read-read.new.self.dc; repeat = c.read-read.new.self.repeat; read = c.read-read.new.self.read; outbox = c.forget.new.self } in
    let sends : EachSends (lanes c.read-read.new.self) c.forget.new.self = subst (λ l. EachSends (lanes c.read-read.new.self) l) (sym c.forget.ensures) c.send.ensures.sends in
    carries_trans c.args.cluster.now c.args.self.now c.read-read.new.self after c.read-read.ensures.carries (carries_sent c.args.cluster.now c.read-read.new.self after refl refl refl sends)

pub returns-clause-all : goal.returns-clause-all
returns-clause-all g c =
    let after : Sender = record { dc = c.read-read.new.self.dc; repeat = c.read-read.new.self.repeat; read = c.read-read.new.self.read; outbox = c.forget.new.self } in
    let sends : EachSends (lanes c.read-read.new.self) c.forget.new.self = subst (λ l. EachSends (lanes c.read-read.new.self) l) (sym c.forget.ensures) c.send.ensures.sends in
    below_sent 64 c.args.cluster.now c.args.self.now c.read-read.new.self after (c.in_ok-read.ensures.all) (carries_sent c.args.cluster.now c.read-read.new.self after refl refl refl sends)
