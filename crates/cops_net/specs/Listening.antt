-- What the front door's sessions did, one after the other.
use Rattle.std.specs.Prelude.{◌≡◌, ℕ, zero, suc, ◌<◌, ◌≤◌, false, List, [], ◌++◌, Result, Ok, Err}
use Rattle.cops_types.specs.declared.format.Format.{Format}
use Rattle.cops_wire.specs.declared.message.Message.{Message}
use Rattle.cops_net.specs.declared.fault.NetFault.{NetFault}
use Rattle.cops_net.specs.declared.fault.NetFault.TheVariants.{Memory, BindFailed, AcceptFailed}
use Rattle.cops_net.specs.declared.reply.Call.{Call}
use Rattle.cops_net.specs.Protocol.{AreCallsOf}

-- the calls of one session of a format: those of some messages, one for each that is handed over
abbrev pub IsSession : Format → List Call → Type 0
IsSession format calls = (ms : List Message) × AreCallsOf format false ms calls

-- the calls of `n` sessions, one after the other
abbrev pub AreSessions : Format → ℕ → List Call → Type 0
AreSessions format zero calls = calls ≡ []
AreSessions format (suc n) calls = (before : List Call) × (last : List Call) × (calls ≡ before ++ last) × AreSessions format n before × IsSession format last

module _ {S : Type 0} where
  -- the calls of one session were made, and then its end was handled
  abbrev pub IsServed : Format → (S → List Call) → (S → S → Type 0) → S → S → Type 0
  IsServed format calls Ends old new = (last : S) × (gained : List Call) × (calls last ≡ calls old ++ gained) × IsSession format gained × Ends last new

  -- this happened for `n` sessions, one after the other
  abbrev pub AreServed : Format → (S → List Call) → (S → S → Type 0) → ℕ → S → S → Type 0
  AreServed format calls Ends zero old new = new ≡ old
  AreServed format calls Ends (suc n) old new = (mid : S) × AreServed format calls Ends n old mid × IsServed format calls Ends mid new

-- How many of the `asked` sessions were begun: all; fewer, where no connection could be accepted; none, where the port could not be bound. Where
-- memory ran out, it did so in the last session that was begun.
abbrev pub IsCount : ℕ → ℕ → Result (Unit {0}) NetFault → Type 0
IsCount asked begun (Ok u) = begun ≡ asked
IsCount asked begun (Err Memory) = (0 < begun) × (begun ≤ asked)
IsCount asked begun (Err AcceptFailed) = begun < asked
IsCount asked begun (Err BindFailed) = begun ≡ 0
IsCount asked begun (Err _) = ⊥
