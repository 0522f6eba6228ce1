-- Links, each with the frames that have to be sent on it.
use Rattle.std.specs.Prelude.{◌≡◌, ℕ, ◌+◌, ◌-◌, ◌≤◌, ◌⊎◌, List, [], ◌∷◌, ◌++◌, drop, length, map, replicate, sum_by}
use Rattle.std.specs.List.{All, flat_map}
use Rattle.cops_link.specs.Frame.{encoded}
use Rattle.cops_link.specs.Link.{known_room, sent, SameIn}
use Rattle.cops_link.specs.declared.ends.LinkIn.{LinkIn}
use Rattle.cops_types.specs.declared.put_record.PutRecord.{PutRecord}
use Rattle.cops_replication.specs.declared.outbox.Lane.{Lane}

-- a link, and the frames that still have to be sent on it, in order
pub record ALane : Type 0 where
  pub link : LinkIn
  pub due : List (List ℕ)

-- what is due on the lane's link: those of the puts that were not sent on it yet
abbrev pub shown : List PutRecord → Lane → ALane
shown puts l = record { link = l.link; due = map encoded (drop l.next puts) }

-- no more puts were sent on it than there are
abbrev pub IsWithin : List PutRecord → Lane → Type 0
IsWithin puts l = l.next ≤ length puts

-- the lane, with its counter relative to the put at `first`
abbrev pub counted_from : ℕ → Lane → Lane
counted_from first l = record { link = l.link; next = l.next - first }

-- a link on which nothing is due
abbrev pub idle : LinkIn → ALane
idle link = record { link = link; due = [] }

-- each element repeated `more` more times, one after the other
abbrev pub repeated : {A : Type 0} → ℕ → List A → List A
repeated more xs = flat_map (replicate (more + 1)) xs

-- the frames of these puts are due after all others
abbrev pub and_due : List PutRecord → ALane → ALane
and_due puts l = record { link = l.link; due = l.due ++ map encoded puts }

-- on the same link the first frames that were due were sent, in order, and the others are still due
pub record Sends (before after : ALane) : Type 0 where
  pub same : SameIn before.link after.link
  pub more : List (List ℕ)
  pub sent : sent after.link ≡ sent before.link ++ more
  pub due : before.due ≡ more ++ after.due

-- frames were sent on each of the lanes
abbrev pub EachSends : List ALane → List ALane → Type 0
EachSends [] [] = Unit {0}
EachSends [] (y ∷ ys) = ⊥
EachSends (x ∷ xs) [] = ⊥
EachSends (x ∷ xs) (y ∷ ys) = Sends x y × EachSends xs ys

-- the frames of these puts were appended to what is due on each of the lanes, and some were sent: nothing that was due is lost, duplicated or
-- reordered
abbrev pub Carried : List PutRecord → List ALane → List ALane → Type 0
Carried puts before after = EachSends (map (and_due puts) before) after

-- nothing is due on any lane
abbrev pub HasSentAll : List ALane → Type 0
HasSentAll lanes = All (λ (l : ALane). l.due ≡ []) lanes

-- nothing is due on the link, or it is known to be full
abbrev pub IsClearOrFull : ALane → Type 0
IsClearOrFull l = (l.due ≡ []) ⊎ (known_room l.link ≡ 0)

-- so it is with each link
abbrev pub AreClearOrFull : List ALane → Type 0
AreClearOrFull lanes = All IsClearOrFull lanes

-- the number of frames that were ever sent on the links
abbrev pub frames : List ALane → ℕ
frames lanes = sum_by (λ (l : ALane). length (sent l.link)) lanes
