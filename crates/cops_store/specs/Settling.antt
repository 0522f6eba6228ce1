-- What else a store returns.
use Rattle.std.specs.Prelude.{ℕ, Bool, if◌then◌else◌, List, [], ◌∷◌, nat_lt, bytes_eq, Option, None, Some}
use Rattle.std.specs.List.{list_any}
use Rattle.cops_store.specs.declared.settled.Settled.{Settled}
use Rattle.cops_store.specs.declared.settled.Settled.TheVariants.{Shown, Older, Repeat}
use Rattle.cops_store.specs.Store.{Stored, has_pair, shown, stored_pair}

-- the settled pairs in the order in which they were settled, and whether one more can be settled without allocating
pub record AStore : Type 0 where
  pub settled : List Stored
  pub room : Bool

-- something is settled on the key
abbrev pub has_key : List Stored → List ℕ → Bool
has_key settled key = list_any (λ s. bytes_eq key s.key) settled

-- the keys that show something, each once
abbrev pub shown_keys : List Stored → List (List ℕ)
shown_keys [] = []
shown_keys (s ∷ settled) = if has_key settled s.key then shown_keys settled else s.key ∷ shown_keys settled

-- a pair that is not settled yet is shown from then on, unless its key shows a greater version
abbrev pub shown_or_older : Stored → Option Stored → Settled
shown_or_older s None = Shown
shown_or_older s (Some t) = if nat_lt s.version t.version then Older else Shown

-- the result of settling the pair
abbrev pub settling : List Stored → Stored → Settled
settling settled s = if has_pair settled (stored_pair s) then Repeat else shown_or_older s (shown settled s.key)
