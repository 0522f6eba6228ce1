-- Session maxima: the greatest version of a session so far, operation by operation.
use Rattle.std.specs.Prelude.{◌≡◌, ◌+◌, ℕ, List, Some, slice_get}
use Rattle.cops_types.specs.Histories.{Sessions}
use Rattle.cops_types.specs.Maxima.{IsMaximum}

-- the session maxima, one after each of a session's first operations
abbrev pub AreMaxima : Sessions → ℕ → List ℕ → Type 0
AreMaxima h client maxima = (i maximum : ℕ) → slice_get maxima i ≡ Some maximum → IsMaximum h client (i + 1) maximum
