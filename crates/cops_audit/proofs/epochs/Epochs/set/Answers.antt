use Rattle.std.proofs.Common.{◌≡◌, ◌<◌, ◌+◌, ◌-◌, ◌∙◌, length, ap, arith, slice_set}
use Rattle.std.specs.Prelude.{vec_len}
use Rattle.cops_audit.specs.EpochNumbers.{numbers_in}
use Rattle.cops_audit.proofs.EpochsLemmas.{count_numbers, filled, set_number}
use Rattle.cops_audit.proofs.epochs.Epochs.set.Goals as goal
use Rattle.cops_audit.proofs.epochs.Epochs.set.Goals.{then-len-place, else-len-place}

pub returns : goal.returns
returns c =
    let self = c.if-len-place.self-inside in
    let was = c.self.inside in
    let place = c.args.place in
    let more : place < was.len
    = omega (arith, c.requires, ap length c.self.view_is, count_numbers was.epoch was.entries.items (was.len - vec_len was.entries), was.entries.ok.0, c.self.invariant.1) in
    let same : numbers_in self.epoch self.entries.items (self.len - vec_len self.entries) ≡ c.args.self.now = elim c.if-len-place.branch [
      | then-len-place w ↦ rw (w.self-inside-is, w.fill.ensures.items)
          (filled was.epoch was.entries.items (was.len - vec_len was.entries) (place + 1 - vec_len was.entries) (was.len - vec_len w.fill.new.entries)
          (omega (arith, more, w.fill.ensures.len, w.if-len-place.true, c.len.ensures)) ∙ c.self.view_is)
      | else-len-place w ↦ rw w.self-inside-is c.self.view_is
    ] in
    let inside : place < length self.entries.items = elim c.if-len-place.branch [
      | then-len-place w ↦ rw w.self-inside-is (omega (arith, w.fill.ensures.len, w.fill.new.entries.ok.0))
      | else-len-place w ↦ rw w.self-inside-is (omega (arith, w.if-len-place.false, c.len.ensures, was.entries.ok.0))
    ] in
    set_number self.epoch self.entries.items (self.len - vec_len self.entries) place c.args.number inside ∙ ap (λ ns. slice_set ns place c.args.number) same
