-- The state of a reader of a trace's text that comes in pieces, and what it returns next.
use Rattle.std.specs.Prelude.{◌≡◌, ◌≢◌, ℕ, ◌+◌, ◌*◌, ◌≤◌, ◌⊎◌, Bool, true, false, List, [], ◌∷◌, drop, Option, Some, None, Result, Ok, Err, option_map}
use Rattle.cops_types.specs.declared.format.Format.{Format}
use Rattle.cops_types.specs.declared.limits.TheConstants.{MAX_OPS}
use Rattle.cops_types.specs.Format.{longest_body}
use Rattle.cops_wire.specs.Answer.{BeginsWithTaking}
use Rattle.cops_wire.specs.Grammar.{grammar}
use Rattle.cops_trace.specs.declared.fault.TraceFault.{TraceFault}
use Rattle.cops_trace.specs.declared.fault.TraceFault.TheVariants.{Memory, Cut, BytesAfterEnd}
use Rattle.cops_trace.specs.declared.found.Item.{Item}
use Rattle.cops_trace.specs.declared.found.Item.TheVariants.{Head, Op as Entry, End}
use Rattle.cops_trace.specs.declared.found.Found.TheVariants.{Gives, Waits, Fails}
use Rattle.cops_trace.specs.Counts.{ACounts, HasTurn, counted, nothing, progress_from}
use Rattle.cops_trace.specs.Next.{Progress, Stands, format_next}

-- the counts of the items returned, once there was a head; the number of their bytes, and whether the end was among them; the bytes not read yet; and
-- the fault that was returned
pub record Reading : Type 0 where
  pub counts : Option ACounts
  pub at : ℕ
  pub ended : Bool
  pub rest : List ℕ
  pub fault : Option TraceFault

-- the progress of the text
abbrev pub progress_so_far : Reading → Option Progress
progress_so_far r = option_map (progress_from r.at) r.counts

-- the counts with one more item
abbrev pub counts_with : Item → Option ACounts → Option ACounts
counts_with (Head format clients) counts = Some (nothing format clients)
counts_with (Entry client op) counts = option_map (λ c. counted c client) counts
counts_with End counts = counts

-- a record's client may have one more
abbrev pub ItemHasTurn : Item → Option ACounts → Type 0
ItemHasTurn (Head format clients) counts = Unit {0}
ItemHasTurn (Entry client op) None = ⊥
ItemHasTurn (Entry client op) (Some c) = HasTurn c client
ItemHasTurn End counts = Unit {0}

-- the item is the end
abbrev pub is_end : Item → Bool
is_end (Head format clients) = false
is_end (Entry client op) = false
is_end End = true

-- the state after an item of `used` bytes was returned
abbrev pub past : Item → ℕ → Reading → Reading
past item used r = record r { counts = counts_with item r.counts; at = r.at + used; ended = is_end item; rest = drop used r.rest }

-- the rest begins with no whole item; after the end, it is empty
abbrev pub WaitsIn : Bool → Reading → Type 0
WaitsIn false r = Stands (progress_so_far r) r.rest Waits
WaitsIn true r = r.rest ≡ []

-- the rest begins with this fault; after the end, a byte is a fault
abbrev pub FailsIn : Bool → Reading → TraceFault → Type 0
FailsIn false r e = Stands (progress_so_far r) r.rest (Fails e)
FailsIn true r e = (r.rest ≢ []) × (e ≡ BytesAfterEnd r.at)

-- reading what comes next allocates: for a key, a value or dependencies in the frame at the front of the rest, or for the counts of a head's clients
abbrev pub TakesMemory : Reading → Type 0
TakesMemory r = (r.fault ≡ None) × (r.ended ≡ false)
    × (BeginsWithTaking (grammar (format_next (progress_so_far r))) r.rest ⊎ ((format : Format) × (clients used : ℕ) × Stands (progress_so_far r) r.rest (Gives (Head format clients) used)))

-- What `next` returns: the item at the front of the rest, if it may come next; nothing, which changes nothing; or the fault there, which is kept. An
-- allocation fails only if reading what comes next allocates, and then nothing changes.
abbrev pub GivesNext : Reading → Result (Option Item) TraceFault → Reading → Type 0
GivesNext old (Ok (Some item)) new = (old.fault ≡ None) × (old.ended ≡ false) × ((used : ℕ) × Stands (progress_so_far old) old.rest (Gives item used) × (new ≡ past item used old))
GivesNext old (Ok None) new = (old.fault ≡ None) × WaitsIn old.ended old × (new ≡ old)
GivesNext old (Err e) new = ((e ≡ Memory) × TakesMemory old × (new ≡ old)) ⊎ (FailsIn old.ended old e × (new ≡ record old { fault = Some e }))

-- the result when no more bytes come: the fault that was returned before; else the text is cut if its end was not returned; else there may be nothing
-- after the end
abbrev pub closing_with : Option TraceFault → Bool → List ℕ → ℕ → Result (Unit {0}) TraceFault
closing_with (Some e) ended rest at = Err e
closing_with None false rest at = Err (Cut at)
closing_with None true [] at = Ok tt
closing_with None true (x ∷ rest) at = Err (BytesAfterEnd at)

abbrev pub closing : Reading → Result (Unit {0}) TraceFault
closing r = closing_with r.fault r.ended r.rest r.at

-- the rest begins with the fault that was returned
abbrev pub IsStoppedBy : Reading → Option TraceFault → Type 0
IsStoppedBy r None = Unit {0}
IsStoppedBy r (Some e) = FailsIn r.ended r e

-- the offset is at most the length of that many frames
abbrev pub IsWithinReach : Option ACounts → Bool → ℕ → Type 0
IsWithinReach None ended at = (at ≡ 0) × (ended ≡ false)
IsWithinReach (Some c) false at = (c.total ≤ MAX_OPS) × (at ≤ (4 + longest_body c.format) * (c.total + 1))
IsWithinReach (Some c) true at = (c.total ≤ MAX_OPS) × (at ≤ (4 + longest_body c.format) * (c.total + 2))
