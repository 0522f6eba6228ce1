use Rattle.std.proofs.Common.{◌≡◌, ◌+◌, ◌++◌, ◌∙◌, [], ◌∷◌, List, ℕ, false, ap, arith, length, length-append, refl, sym}
use Rattle.std.specs.Prelude.{Result, Ok, Err, OnOk, is_err}
use Rattle.cops_link.specs.Frame.{encoded}
use Rattle.cops_link.specs.Link.{sent}
use Rattle.cops_replication.specs.Lanes.{shown}
use Rattle.cops_replication.proofs.Sends.{sends_one}
use Rattle.cops_replication.proofs.outbox.Lane.send.Goals as goal

-- what holds where a result is not an error
went_well : {A E : Type 0} (r : Result A E) (P : Type 0) → OnOk r P → false ≡ is_err r → P
went_well (Ok x) P h e = h
went_well (Err x) P h e = absurd cc

pub loop-self-preserved : goal.loop-self-preserved
loop-self-preserved c =
    let before = c.loop-self.self in
    let put = c.index-puts-self.result in
    let went : sent c.send.new.self ≡ sent before.link ++ c.in_ok-frame.frame ∷ [] = went_well c.send.result _ c.send.ensures.ok c.if-is_err.ensures.value in
    let one : sent c.send.new.self ≡ sent before.link ++ encoded put ∷ [] = went ∙ ap (λ (f : List ℕ). sent before.link ++ f ∷ []) c.in_ok-frame.ensures in
    record {
      within = omega (arith, c.loop-self-test.true);
      since = omega (arith, c.loop-self.invariant.since);
      sends = sends_one c.args.puts.now (shown c.args.puts.now c.args.self.now) before (record { link = c.send.new.self; next = before.next + 1 }) put c.loop-self.invariant.sends
          (omega (arith, c.loop-self-test.true)) (sym c.index-puts-self.is) c.send.ensures.same one refl;
      count = omega (arith, ap length one, length-append (sent before.link) (encoded put ∷ []), c.loop-self.invariant.count);
    }
