-- Definitions that the contracts of a link's two ends use.
use Rattle.std.specs.Prelude.{ℕ, List}
use Rattle.rtrb.specs.Ring as ring
use Rattle.cops_link.specs.declared.ends.LinkIn.{LinkIn}
use Rattle.cops_link.specs.declared.ends.LinkOut.{LinkOut}
use Rattle.cops_link.specs.declared.ends.Finished.{Finished}

-- the frames that were sent, oldest first
abbrev pub sent : LinkIn → List (List ℕ)
sent l = ring.sent l.producer

-- the frames that were taken, oldest first
abbrev pub taken : LinkOut → List (List ℕ)
taken l = ring.received l.consumer

-- the frames that the taking end knows of and has not taken, oldest first
abbrev pub seen : LinkOut → List (List ℕ)
seen l = ring.known_items l.consumer

-- the number of frames for which the sending end knows that there is room
abbrev pub known_room : LinkIn → ℕ
known_room l = ring.known_free l.producer

-- the frames that were ever sent on a link that has finished
abbrev pub all_sent : Finished → List (List ℕ)
all_sent f = ring.all_sent f.ring

-- the two ends of one link
abbrev pub IsLink : LinkIn → LinkOut → Type 0
IsLink i o = ring.IsPair i.producer o.consumer

abbrev pub IsFinishedOf : Finished → LinkOut → Type 0
IsFinishedOf f o = ring.IsFinishedOf f.ring o.consumer

-- both are the same end of the same link
abbrev pub SameIn : LinkIn → LinkIn → Type 0
SameIn a b = ring.SameProducer a.producer b.producer

abbrev pub SameOut : LinkOut → LinkOut → Type 0
SameOut a b = ring.SameConsumer a.consumer b.consumer

-- what remains of a sending end: all that was sent
abbrev pub Finishes : LinkIn → Finished → Type 0
Finishes i f = ring.Finishes i.producer f.ring
