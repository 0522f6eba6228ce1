use Rattle.std.proofs.Common.{◌/◌, ◌%◌, ◌*◌, ◌-◌, ◌<◌, ◌≤◌, length, get_or, slice_get, ◌≡◌, ap, arith, sym, subst, ◌∙◌, List, Vec, Global}
use Rattle.cops_types.specs.declared.slot.OpSlot.{OpSlot}
use Rattle.cops_types.proofs.Joining.{get_full, get_last}
use Rattle.cops_types.proofs.blocks.Blocks.get.Goals as goal

pub returns-in-Some : goal.returns-in-Some
returns-in-Some c =
    let block = c.in-Some.block.now in
    let inside : c.args.index / 64 < length c.self.inside.full.items = subst (λ (l : List (Vec OpSlot Global)). c.args.index / 64 < length l) c.deref.ensures.value c.in-Some.ensures.lookup.3.0 in
    let there : block ≡ get_or c.self.inside.full.items (c.args.index / 64) block =
    subst (λ (l : List (Vec OpSlot Global)). block ≡ get_or l (c.args.index / 64) block) c.deref.ensures.value c.in-Some.ensures.lookup.1 in
    rw (← c.self.view_is) (c.entry_at.ensures ∙ ap (λ l. slice_get l (c.args.index % 64)) c.deref-in-Some.ensures.value ∙ sym (get_full c.self.inside.full.items c.self.inside.last.items c.args.index block c.self.invariant.size inside there))

pub returns-in-None : goal.returns-in-None
returns-in-None c =
    let past : length c.self.inside.full.items ≤ c.args.index / 64 = subst (λ (l : List (Vec OpSlot Global)). length l ≤ c.args.index / 64) c.deref.ensures.value c.in-None.ensures.lookup.3 in
    let len : c.len.result ≡ length c.self.inside.full.items = omega (arith, c.len.ensures) in
    rw (← c.self.view_is) (c.entry_at-in-None.ensures ∙ (λ j. slice_get (c.deref-in-None.ensures.value j) (c.args.index - len j * 64)) ∙ sym (get_last c.self.inside.full.items c.self.inside.last.items c.args.index c.self.invariant.size past))
