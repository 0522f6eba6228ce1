-- Definitions that a receiver's contracts use.
use Rattle.std.specs.Prelude.{◌≡◌, ◌≤◌, ℕ, List, [], ◌∷◌, ◌++◌, length, None}
use Rattle.indexmap.specs.IndexMap.{index_map_len}
use Rattle.cops_link.specs.Link.{taken, SameOut}
use Rattle.cops_link.specs.declared.ends.LinkOut.{LinkOut}
use Rattle.cops_replication.specs.declared.backlog.Backlog.{Backlog}
use Rattle.cops_replication.specs.declared.receiver.Receiver.{Receiver}

-- every put that was delivered is settled
abbrev pub IsSettled : Backlog → Type 0
IsSettled b = index_map_len b.waiting ≡ 0

-- every put that was taken is settled
abbrev pub KeepsNothing : Receiver → Type 0
KeepsNothing r = (r.arrival ≡ None) × IsSettled r.backlog

-- the data centre and the links do not change
abbrev pub IsSame : Receiver → Receiver → Type 0
IsSame r s = (s.dc ≡ r.dc) × (s.links ≡ r.links)

-- at most `most` frames were taken from the link
pub record TakesUpTo (most : ℕ) (before after : LinkOut) : Type 0 where
  pub same : SameOut before after
  pub more : List (List ℕ)
  pub taken : taken after ≡ taken before ++ more
  pub few : length more ≤ most

-- so it is with each of the links
abbrev pub EachTakesUpTo : ℕ → List LinkOut → List LinkOut → Type 0
EachTakesUpTo most [] [] = Unit {0}
EachTakesUpTo most [] (y ∷ ys) = ⊥
EachTakesUpTo most (x ∷ xs) [] = ⊥
EachTakesUpTo most (x ∷ xs) (y ∷ ys) = TakesUpTo most x y × EachTakesUpTo most xs ys

-- the receiver's ends of links
abbrev pub ends : Receiver → List LinkOut
ends r = r.links.items
