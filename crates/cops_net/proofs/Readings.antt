-- What was taken from a reader, and what a writer gained.
use Rattle.std.proofs.Common.{◌≡◌, ◌≢◌, ℕ, List, [], ◌∷◌, length, Option, Some, None, Result, Ok, Err, refl, sym, ◌∙◌}
use Rattle.std.specs.Io.KnownBytes.{Appends}
use Rattle.std.proofs.lemmas.List.{append-nil}
use Rattle.cops_types.specs.declared.format.Format.{Format}
use Rattle.cops_wire.specs.declared.fault.WireFault.TheVariants as wire
use Rattle.cops_wire.specs.declared.message.Message.{Message}
use Rattle.cops_wire.specs.Grammar.{grammar}
use Rattle.cops_wire.specs.Answer.{IsShort}
use Rattle.cops_net.specs.declared.fault.NetFault.{NetFault}
use Rattle.cops_net.specs.declared.fault.NetFault.TheVariants.{Wire}
use Rattle.cops_net.specs.Turns.{IsTaken}

-- a writer that does not change gained nothing
pub appends_none : (a : Option (List ℕ)) → Appends a a []
appends_none None = tt
appends_none (Some u) = sym (append-nil u)

-- the reader's end, after a message or inside a frame
pub taken_at_end : (format : Format) (P : Type 0) (input rest : List ℕ) (waiting : ℕ) (r : Result (Option Message) NetFault) → waiting ≡ length input
    → (waiting ≡ 0 → r ≡ Ok None) → (waiting ≢ 0 → r ≡ Err (Wire wire.Short)) → IsShort (grammar format) input → P → IsTaken format P input r rest
taken_at_end format P [] rest waiting r count none some short end = rw (none count) (refl, end)
taken_at_end format P (b ∷ bs) rest waiting r count none some short end = rw (some (λ z. let bad : 0 ≡ length (b ∷ bs) = sym z ∙ count in cc)) ((λ e. cc), short, end)
