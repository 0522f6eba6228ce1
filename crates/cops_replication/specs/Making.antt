-- The links while they are made, one data centre after the other.
use Rattle.std.specs.Prelude.{◌≡◌, ◌≢◌, ℕ, ◌<◌, List, [], ◌∷◌, ◌++◌, length, map, slice_get, slice_index_or, Option, Some, None}
use Rattle.std.specs.List.{All}
use Rattle.std.specs.Global.{Vec}
use Rattle.cops_cluster.specs.declared.share.Share.{Share}
use Rattle.cops_link.specs.Link.{IsLink}
use Rattle.cops_link.specs.declared.ends.LinkIn.{LinkIn}
use Rattle.cops_link.specs.declared.ends.LinkOut.{LinkOut}
use Rattle.cops_replication.specs.Receiving.{ends}
use Rattle.cops_replication.specs.Wiring.{IsFreshOut, numbers, place_beside}
use Rattle.cops_replication.specs.declared.receiver.Receiver.{Receiver}

-- the taking ends of each data centre
abbrev pub rows : List (Vec LinkOut) → List (List LinkOut)
rows outs = map (λ (v : Vec LinkOut). v.items) outs

-- the taking end of this link, from which nothing was taken, was appended
abbrev pub GainsEnd : Option LinkIn → List LinkOut → List LinkOut → Type 0
GainsEnd None before after = ⊥
GainsEnd (Some i) before after = (o : LinkOut) × (after ≡ before ++ o ∷ []) × IsLink i o × IsFreshOut o

-- each data centre but this one gained the taking end of the link that leads to it
pub record GainsEnds (from : ℕ) (ins : List LinkIn) (before after : List (List LinkOut)) : Type 0 where
  pub own : slice_index_or after from [] ≡ slice_index_or before from []
  pub others : (to : ℕ) → to < length before → to ≢ from → GainsEnd (slice_get ins (place_beside from to)) (slice_index_or before to []) (slice_index_or after to [])

-- each of `dcs` data centres has the end of a link from each other one of the first `count`, from which nothing was taken
abbrev pub AreEnds : ℕ → ℕ → List (List LinkOut) → Type 0
AreEnds dcs count outs = (to : ℕ) → to < dcs → (length (slice_index_or outs to []) ≡ place_beside to count) × All IsFreshOut (slice_index_or outs to [])

-- the receivers of the data centres, in order, each with its links and its share
pub record ArePaired (dcs : ℕ) (outs : List (List LinkOut)) (shares : List Share) (receivers : List Receiver) : Type 0 where
  pub dcs_are : map (λ (r : Receiver). r.dc) receivers ≡ numbers dcs
  pub links_are : map ends receivers ≡ outs
  pub shares_are : map (λ (r : Receiver). r.share) receivers ≡ shares
