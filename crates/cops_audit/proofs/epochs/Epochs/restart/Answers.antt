use Rattle.std.proofs.Common.{◌≡◌, ◌<◌, ◌+◌, ◌-◌, ℕ, length, replicate, All, ap, ◌∙◌, arith}
use Rattle.std.specs.Prelude.{vec_len}
use Rattle.cops_audit.specs.declared.epochs.EpochEntry.{EpochEntry}
use Rattle.cops_audit.proofs.EpochsLemmas.{count_numbers, restarted}
use Rattle.cops_audit.proofs.epochs.Epochs.restart.Goals as goal
use Rattle.cops_audit.proofs.epochs.Epochs.restart.Goals.{then-self, else-self}

pub returns : goal.returns
returns c =
    let self = c.if-self.self-inside in
    let xs = self.entries.items in
    let was = c.self.inside in
    let old : was.len ≡ length c.args.self.now
    = omega (arith, ap length c.self.view_is, count_numbers was.epoch was.entries.items (was.len - vec_len was.entries), was.entries.ok.0, c.self.invariant.1) in
    let len : length xs + (self.len - vec_len self.entries) ≡ length c.args.self.now = elim c.if-self.branch [
      | then-self w ↦ rw w.self-inside-is (omega (arith, old, w.clear.ensures.len, ap length w.clear.ensures.items))
      | else-self w ↦ rw w.self-inside-is (omega (arith, old, was.entries.ok.0, c.self.invariant.1))
    ] in
    let earlier : All (λ (e : EpochEntry). e.epoch < self.epoch + 1) xs = elim c.if-self.branch [
      | then-self w ↦ rw w.self-inside-is (λ k d inside. omega (arith, inside, ap length w.clear.ensures.items))
      | else-self w ↦ rw w.self-inside-is (λ k d inside. omega (arith, c.self.invariant.0 k d inside))
    ] in
    restarted (self.epoch + 1) xs (self.len - vec_len self.entries) earlier ∙ ap (λ (n : ℕ). replicate n 0) len
