use Rattle.std.proofs.Common.{◌≡◌, ℕ, List, [], ◌++◌, length, take, sym, ap, subst, ◌∙◌, arith}
use Rattle.std.proofs.lemmas.List.{append-nil}
use Rattle.std.specs.Io.KnownBytes.{IsAtEnd}
use Rattle.cops_types.specs.Counted.{inner}
use Rattle.cops_types.specs.declared.format.Format.{Format}
use Rattle.cops_wire.specs.Answer.{IsShort}
use Rattle.cops_wire.specs.Grammar.{grammar}
use Rattle.cops_net.specs.Turns.{IsTaken}
use Rattle.cops_types.proofs.Devices.{consumed}
use Rattle.cops_net.proofs.Readings.{taken_at_end}
use Rattle.cops_net.proofs.incoming.Incoming.next.Goals as goal

pub returns-then-count-eq0-clause-next : goal.returns-then-count-eq0-clause-next
returns-then-count-eq0-clause-next g c =
    let r = c.loop-message.invariant.read in
    let bytes = c.in-Ok.ensures.bytes in
    let end : IsAtEnd (g.I.Read.remaining (inner c.read.new.self)) = bytes.1 c.if-count-eq0.true (omega arith) in
    let none : take c.in-Ok.count c.read.new.buf ≡ [] = ap (λ n. take n c.read.new.buf) c.if-count-eq0.true in
    let f = rw c.in_default.is at c.in_ok-message.ensures.front in
    let short = subst (λ (format : Format). IsShort (grammar format) c.loop-message.self.feeder.rest) c.loop-message.invariant.format f.0 in
    let came = r.0 ++ take c.in-Ok.count c.read.new.buf in
    let input : c.loop-message.self.feeder.rest ≡ c.args.self.now.feeder.rest ++ came =
    r.2 ∙ ap (λ (x : List ℕ). c.args.self.now.feeder.rest ++ x) (sym (append-nil r.0) ∙ ap (λ (x : List ℕ). r.0 ++ x) (sym none)) in (
      came,
      consumed _ _ _ _ _ r.1 bytes.0,
      subst (λ (x : List ℕ). IsTaken c.args.format (IsAtEnd (g.I.Read.remaining (inner c.read.new.self))) x c.at_end.result c.front.new.self.feeder.rest) input
          (taken_at_end c.args.format _ c.loop-message.self.feeder.rest c.front.new.self.feeder.rest c.front.new.self.waiting c.at_end.result
          (c.front.new.self.counts ∙ ap length f.1) c.at_end.ensures.none c.at_end.ensures.some short end),
    )

pub returns-in_default-feed-clause-next : goal.returns-in_default-feed-clause-next
returns-in_default-feed-clause-next g c =
    let r = c.loop-message.invariant.read in (r.0 ++ take c.in-Ok.count c.read.new.buf, consumed _ _ _ _ _ r.1 c.in-Ok.ensures.bytes.0, tt)
