-- How much a receiver does in a turn.
use Rattle.std.specs.Prelude.{◌≡◌, ℕ, ◌+◌, ◌-◌, Bool, true, false, List, [], Option, Some, None, All, length, sum_by, count_by}
use Rattle.cops_node.specs.declared.event.NodeEvent.{NodeEvent}
use Rattle.cops_node.specs.declared.event.NodeEvent.TheVariants.{Mark, Settle}
use Rattle.cops_node.specs.declared.outcome.Outcome.{Outcome}
use Rattle.cops_node.specs.declared.outcome.Outcome.TheVariants.{Marked, Settled}
use Rattle.cops_cluster.specs.declared.share.Made.{Made}
use Rattle.cops_cluster.specs.declared.share.Share.{Share}
use Rattle.cops_link.specs.Link.{seen, taken}
use Rattle.cops_link.specs.declared.ends.LinkOut.{LinkOut}
use Rattle.cops_replication.specs.Receiving.{ends}
use Rattle.cops_replication.specs.declared.arrival.Arrival.{Arrival}
use Rattle.cops_replication.specs.declared.receiver.Receiver.{Receiver}

-- the number of frames that were ever taken from the links
abbrev pub frames_taken : List LinkOut → ℕ
frames_taken links = sum_by (λ (l : LinkOut). length (taken l)) links

-- the number of puts that were taken and not delivered yet
abbrev pub at_hand : Option Arrival → ℕ
at_hand None = 0
at_hand (Some arrival) = 1

-- how many puts were delivered between two states: those that were taken or at hand before, without those at hand after
abbrev pub delivered : Receiver → Receiver → ℕ
delivered before after = (frames_taken (ends after) + at_hand before.arrival) - (frames_taken (ends before) + at_hand after.arrival)

-- a dependency was marked, or a put was settled
abbrev pub is_advance : NodeEvent → Outcome → Bool
is_advance (Mark version dep) Marked = true
is_advance (Settle version) Settled = true
is_advance _ _ = false

-- how many marks and settlements the share records
abbrev pub advances : Share → ℕ
advances s = count_by (λ (m : Made). is_advance m.entry.event m.entry.outcome) s.entries.items

-- how much a receiver did between two states: the puts that it delivered, and the marks and settlements that it made
abbrev pub done : Receiver → Receiver → ℕ
done before after = delivered before after + (advances after.share - advances before.share)

-- on each link, no frames were seen beyond those that were taken
abbrev pub AreEmpty : List LinkOut → Type 0
AreEmpty links = All (λ (l : LinkOut). seen l ≡ []) links
