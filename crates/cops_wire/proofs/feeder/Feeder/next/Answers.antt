use Rattle.std.proofs.Common.{◌≡◌, ◌∙◌, ◌++◌, List, ℕ, Some, Ok, Err, refl, sym, ap, subst}
use Rattle.cops_wire.specs.declared.fault.WireFault.{WireFault}
use Rattle.cops_wire.specs.declared.fault.WireFault.TheVariants.{Memory}
use Rattle.cops_wire.specs.Grammar.{grammar, encoding}
use Rattle.cops_wire.specs.Message.{parts}
use Rattle.cops_wire.specs.Answer.{Answers, IsAnswer, BeginsWithTaking}
use Rattle.cops_wire.specs.Feeding.{Fed, IsStoppedBy, IsNext}
use Rattle.cops_wire.proofs.Stopping.{stopped, next_stopped, waits}
use Rattle.cops_wire.proofs.Taking.{taken}
use Rattle.cops_wire.proofs.feeder.Feeder.next.Goals as goal

pub returns-in-Some-clause-waits : goal.returns-in-Some-clause-waits
returns-in-Some-clause-waits c =
    let now = c.args.self.now in
    let met = subst (λ (fed : Fed). IsStoppedBy (grammar fed.format) fed.rest fed.fault) c.self.view_is c.self.invariant in
    let is : now.fault ≡ Some c.in-Some.fault = sym (ap (λ (fed : Fed). fed.fault) c.self.view_is) ∙ c.in-Some.is in
    waits now (Err c.in-Some.fault) _ (next_stopped now c.in-Some.fault (subst (IsStoppedBy (grammar now.format) now.rest) is met))

pub returns-in-Ok-clause-next : goal.returns-in-Ok-clause-next
returns-in-Ok-clause-next c =
    let inside = c.self.inside in
    let message = c.in-Ok.decoded.message in
    let off = taken (grammar inside.format) inside.buffer c.rest.result.now c.in-Ok.decoded.used (parts message) c.rest.ensures c.in-Ok.ensures.answer in
    let split = off.1 ∙ ap (λ (rest : List ℕ). encoding (grammar inside.format) (parts message) ++ rest) (sym c.take.ensures) in
    subst (λ (old : Fed). IsNext old (Ok (Some message)) (record { format = inside.format; rest = c.take.new.self; fault = inside.fault })) c.self.view_is (off.0, split, c.in_default.is, refl)

pub returns-in-Ok-clause-waits : goal.returns-in-Ok-clause-waits
returns-in-Ok-clause-waits c = waits c.args.self.now (Ok (Some c.in-Ok.decoded.message)) _ (returns-in-Ok-clause-next c)

pub returns-in-Memory-clause-next : goal.returns-in-Memory-clause-next
returns-in-Memory-clause-next c =
    let g = grammar c.self.inside.format in
    let taking = subst (BeginsWithTaking g) c.rest.ensures (c.in-Err.ensures.memory (ap (λ (f : WireFault). Err f) c.in-Memory.is)) in
    (subst (λ (fed : Fed). BeginsWithTaking (grammar fed.format) fed.rest) c.self.view_is taking, refl)

pub returns-in-Memory-clause-waits : goal.returns-in-Memory-clause-waits
returns-in-Memory-clause-waits c = waits c.args.self.now (Err Memory) _ (returns-in-Memory-clause-next c)

pub returns-in_default-fault-clause-next : goal.returns-in_default-fault-clause-next
returns-in_default-fault-clause-next c =
    let inside = c.self.inside in
    let here = subst (λ (rest : List ℕ). Answers (Err c.in-Err.fault) (IsAnswer (grammar inside.format) rest)) c.rest.ensures c.in-Err.ensures.answer in
    let is = stopped (grammar inside.format) inside.buffer c.in-Err.fault here c.in_default-fault.not-Memory c.in_default-fault.not-Short in
    let old : Fed = record { format = inside.format; rest = inside.buffer; fault = inside.fault } in
    subst (λ (fed : Fed). IsNext fed (Err c.in-Err.fault) (record old { fault = Some c.in-Err.fault })) c.self.view_is (next_stopped old c.in-Err.fault is)

pub returns-in_default-fault-clause-waits : goal.returns-in_default-fault-clause-waits
returns-in_default-fault-clause-waits c = waits c.args.self.now (Err c.in-Err.fault) _ (returns-in_default-fault-clause-next c)
