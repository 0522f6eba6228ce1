-- Sessions, one after the other.
use Rattle.std.proofs.Common.{ℕ, ◌+◌, List, [], ◌∷◌, ◌++◌, Result, Ok, Err, refl, add-one, inl, inr}
use Rattle.cops_types.specs.declared.format.Format.{Format}
use Rattle.cops_net.specs.declared.fault.NetFault.{NetFault}
use Rattle.cops_net.specs.declared.fault.NetFault.TheVariants.{Memory, Wire, ReadFailed, WriteFailed, TurnLimit}
use Rattle.cops_net.specs.declared.reply.Call.{Call}
use Rattle.cops_net.specs.declared.serving.Served.{Served}
use Rattle.cops_net.specs.Sessions.{Serves}
use Rattle.cops_net.specs.Listening.{IsSession, AreSessions, IsServed, AreServed}

-- the calls of a session are those of some messages, however it ended
pub is_session : (format : Format) (P : Type 0) (input : List ℕ) (calls : List Call) (written : List ℕ) (r : Result Served NetFault) → Serves format P input calls written r → IsSession format calls
is_session format P input calls written (Ok served) s = (s.0, s.2.called)
is_session format P input calls written (Err Memory) (ms, rest, stays, inl a) = (ms, a.called)
is_session format P input calls written (Err Memory) (ms, rest, stays, inr b) = (ms ++ b.0 ∷ [], b.1.called)
is_session format P input calls written (Err (Wire fault)) s = (s.0, s.3.called)
is_session format P input calls written (Err ReadFailed) s = (s.0, s.3.called)
is_session format P input calls written (Err WriteFailed) s = (s.0 ++ s.3.0 ∷ [], s.3.1.called)
is_session format P input calls written (Err TurnLimit) s = (s.0, s.3.2.called)
is_session format P input calls written (Err _) s = absurd s

-- appending one session
pub session_more : (format : Format) (n : ℕ) (before last : List Call) → AreSessions format n before → IsSession format last → AreSessions format (n + 1) (before ++ last)
session_more format n before last h s = rw add-one (before, last, refl, h, s)

-- appending one session, from one state of the handler to the next
pub served_more : {S : Type 0} (format : Format) (calls : S → List Call) (Ends : S → S → Type 0) (n : ℕ) (old mid new : S) → AreServed format calls Ends n old mid → IsServed format calls Ends mid new → AreServed format calls Ends (n + 1) old new
served_more format calls Ends n old mid new h s = rw add-one (mid, h, s)
