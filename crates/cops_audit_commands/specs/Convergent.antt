-- Bytes that decode to one history, which is causally convergent.
use Rattle.std.specs.Prelude.{◌≡◌, ℕ, List}
use Rattle.cops_types.specs.Convergence.{IsCausallyConvergent}
use Rattle.cops_trace.specs.Text.{ATrace, IsTrace, sessions_of, text}

-- the bytes are the text of one trace and no other, and its history is causally convergent
pub record EncodesConvergent (bytes : List ℕ) : Type 0 where
  pub trace : ATrace
  pub is_trace : IsTrace trace
  pub encodes : bytes ≡ text trace
  pub one : (other : ATrace) → IsTrace other → bytes ≡ text other → other ≡ trace
  pub convergent : IsCausallyConvergent (sessions_of trace)
