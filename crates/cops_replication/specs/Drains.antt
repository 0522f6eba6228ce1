-- When a sequence of turns succeeds.
use Rattle.std.specs.Prelude.{◌≡◌, ℕ, ◌≤◌}
use Rattle.cops_types.specs.declared.limits.TheConstants.{PLACES}
use Rattle.cops_cluster.specs.declared.cluster.Cluster.{Cluster}
use Rattle.cops_replication.specs.Doing.{AreEmpty, done}
use Rattle.cops_replication.specs.Lanes.{HasSentAll, frames}
use Rattle.cops_replication.specs.Receiving.{EachTakesUpTo, KeepsNothing, ends}
use Rattle.cops_replication.specs.Sending.{Carries, CarriesBelow, lanes}
use Rattle.cops_replication.specs.Shares.{Gains}
use Rattle.cops_replication.specs.declared.receiver.Receiver.{Receiver}
use Rattle.cops_replication.specs.declared.sender.Sender.{Sender}

-- a receiver came from one state to the other by `turns` turns: it took at most that many frames from each link, and its share gained entries
abbrev pub AreTurns : ℕ → Receiver → Receiver → Type 0
AreTurns turns before after = (after.dc ≡ before.dc) × EachTakesUpTo turns (ends before) (ends after) × Gains before.share after.share

-- a turn that did nothing and found its links empty
abbrev pub IsIdleTurn : Receiver → Receiver → Type 0
IsIdleTurn before after = AreTurns 1 before after × (done before after ≡ 0) × AreEmpty (ends after)

-- its last turn was idle, and nothing is pending
pub record IsDrained (turns : ℕ) (before after : Receiver) : Type 0 where
  pub between : Receiver
  pub turned : AreTurns turns before between
  pub idle : IsIdleTurn between after
  pub kept : KeepsNothing after

-- a sender's last turn read the logs of all nodes and sent nothing, and nothing is left to send
pub record IsSentOut (cluster : Cluster) (before after : Sender) : Type 0 where
  pub between : Sender
  pub turned : Carries cluster before between
  pub read : CarriesBelow PLACES cluster between after
  pub none : frames (lanes after) ≤ frames (lanes between)
  pub all : HasSentAll (lanes after)
