-- What a feeder finds at the front of its rest.
use Rattle.std.proofs.Common.{◌≡◌, ◌↔◌, ℕ, List, ◌++◌, Option, Some, None, Result, Ok, Err, refl, subst}
use Rattle.cops_wire.specs.declared.fault.WireFault.{WireFault}
use Rattle.cops_wire.specs.declared.fault.WireFault.TheVariants.{Memory, Short, BadLength}
use Rattle.cops_wire.specs.declared.message.Message.{Message}
use Rattle.cops_wire.specs.Grammar.{Grammar, grammar}
use Rattle.cops_wire.specs.Message.{parts}
use Rattle.cops_wire.specs.Answer.{IsAnswer, Answers, IsShort}
use Rattle.cops_wire.specs.Feeding.{Fed, IsStopped, IsStoppedBy, IsNext}
use Rattle.cops_wire.proofs.Frames.{answer_stays, frame_not_short, encoding_not_short, bad_length_not_short}
use Rattle.cops_wire.proofs.Answering.{grammar_ok}

-- a fault of `decode`, other than `Memory` and `Short`, is what the rest decodes to
pub stopped : (g : Grammar) (rest : List ℕ) (fault : WireFault) → Answers (Err fault) (IsAnswer g rest) → (fault ≡ Memory → ⊥) → (fault ≡ Short → ⊥) → IsStopped g rest fault
stopped g rest Memory h memory short = absurd (memory refl)
stopped g rest Short h memory short = absurd (short refl)
stopped g rest _ h memory short = h

-- the feeder returns such a fault and keeps it
pub next_stopped : (old : Fed) (fault : WireFault) → IsStopped (grammar old.format) old.rest fault → IsNext old (Err fault) (record old { fault = Some fault })
next_stopped old Memory h = absurd h
next_stopped old Short h = absurd h
next_stopped old _ h = (h, refl)

-- the fault stays whatever bytes come
pub stopped_stays : (g : Grammar) (rest more : List ℕ) (fault : Option WireFault) → IsStoppedBy g rest fault → IsStoppedBy g (rest ++ more) fault
stopped_stays g rest more None h = tt
stopped_stays g rest more (Some Memory) h = h
stopped_stays g rest more (Some Short) h = h
stopped_stays g rest more (Some fault) h = answer_stays g rest more (Err fault) (λ e. cc) h

-- If the rest begins with no whole frame, the only result is that there is no message yet.
only_none : (old : Fed) (r : Result (Option Message) WireFault) (new : Fed) → IsNext old r new → IsShort (grammar old.format) old.rest → r ≡ Ok None
only_none old (Ok (Some m)) new h short = absurd (encoding_not_short (grammar old.format) (grammar_ok old.format) (parts m) new.rest h.0 (subst (IsShort (grammar old.format)) h.1 short))
only_none old (Ok None) new h short = refl
only_none old (Err Short) new h short = absurd h.0
only_none old (Err BadLength) new h short = absurd (bad_length_not_short (grammar old.format) old.rest h.0 short)
only_none old (Err _) new h short = absurd (frame_not_short (grammar old.format) (grammar_ok old.format) old.rest h.0.kind h.0.fields h.0.frame short)

-- There is no message yet exactly if the rest begins with no whole frame.
pub waits : (old : Fed) (r : Result (Option Message) WireFault) (new : Fed) → IsNext old r new → (r ≡ Ok None) ↔ IsShort (grammar old.format) old.rest
waits old r new h = (λ e. (subst (λ (q : Result (Option Message) WireFault). IsNext old q new) e h).0, only_none old r new h)
