-- Pairs by their places.
use Rattle.std.specs.Prelude.{ℕ, List, Bool, true, false, length, nat_lt, slice_get, Option, None, Some}
use Rattle.cops_store.specs.declared.place.KeyPlace.{KeyPlace}
use Rattle.cops_store.specs.declared.settled.Settled.{Settled}
use Rattle.cops_store.specs.declared.settled.Settled.TheVariants.{Shown, Older}

-- the pair that is there has a greater version
abbrev pub is_above : ℕ → Option (KeyPlace × Option (List ℕ)) → Bool
is_above version None = false
is_above version (Some p) = nat_lt version p.0.version

-- the new pair is older than the one at a place, or it is shown at its own place
abbrev pub pick : Bool → ℕ → ℕ → Settled × ℕ
pick true at new = (Older, at)
pick false at new = (Shown, new)

-- the result of settling a new pair, and the place of the pair that its key shows afterwards, from the place of the pair that it shows now
abbrev pub chosen : List (KeyPlace × Option (List ℕ)) → ℕ → Option ℕ → Settled × ℕ
chosen pairs version None = (Shown, length pairs)
chosen pairs version (Some at) = pick (is_above version (slice_get pairs at)) at (length pairs)
