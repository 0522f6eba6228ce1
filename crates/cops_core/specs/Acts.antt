-- The acts of a world: its events, with puts and deletions as one kind of write.
use Rattle.std.specs.Prelude.{ℕ, List, Option, Some, None}
use Rattle.cops_core.specs.declared.event.Event.{Event}
use Rattle.cops_core.specs.declared.event.Event.TheVariants.{Put, Del, Get, Deliver, Ask, Mark, Settle}

-- an act; a client's write without a value deletes the key
pub data Act : Type 0 where
  WriteBy : ℕ → List ℕ → Option (List ℕ) → Act
  GetBy : ℕ → List ℕ → Act
  DeliverTo : ℕ → ℕ → Act
  AskAt : ℕ → List ℕ → ℕ → Act
  MarkAt : ℕ → ℕ → ℕ → Act
  SettleAt : ℕ → ℕ → Act

abbrev pub act_of : Event → Act
act_of (Put client key value) = WriteBy client key (Some value)
act_of (Del client key) = WriteBy client key None
act_of (Get client key) = GetBy client key
act_of (Deliver dc version) = DeliverTo dc version
act_of (Ask dc key version) = AskAt dc key version
act_of (Mark dc version dep) = MarkAt dc version dep
act_of (Settle dc version) = SettleAt dc version
