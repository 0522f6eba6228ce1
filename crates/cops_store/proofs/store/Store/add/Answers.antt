use Rattle.std.proofs.Common.{ap, ◌∙◌}
use Rattle.cops_store.specs.Places.{chosen}
use Rattle.cops_store.proofs.Indexing.{index_is, settled_is, answer_after, with_pair_at}
use Rattle.cops_store.proofs.store.Store.add.Goals as goal

pub invariant_of-self : goal.invariant_of-self
invariant_of-self c =
    let keys = c.self.inside.keys.entries in
    let pairs = c.self.inside.pairs.entries in
    let h = c.self.invariant in
    let new = rw (← c.self.view_is) at c.requires.new in
    let inserted = rw c.unwrap-at.ensures at c.insert_full.ensures in
    let added = rw c.unwrap-none.ensures at c.insert.ensures in
    let right = c.chosen-settled.ensures ∙ ap (chosen pairs c.args.version) (c.copied.ensures ∙ c.get.ensures.value) in
    index_is keys pairs c.args.key c.args.value c.args.version h c.insert_full.new.self.entries c.insert.new.self.entries c.chosen-settled.result right inserted.entries
    (with_pair_at keys pairs c.args.key c.args.value c.args.version h new c.insert.new.self.entries c.unwrap-at.result.0 inserted.index added.entries)
    inserted.unique inserted.updates.0

pub returns-clause-answer : goal.returns-clause-answer
returns-clause-answer c =
    let keys = c.self.inside.keys.entries in
    let pairs = c.self.inside.pairs.entries in
    let new = rw (← c.self.view_is) at c.requires.new in
    let right = c.chosen-settled.ensures ∙ ap (chosen pairs c.args.version) (c.copied.ensures ∙ c.get.ensures.value) in
    rw (← c.self.view_is) (ap (λ r. r.0) right ∙ answer_after keys pairs c.args.key c.args.value c.args.version c.self.invariant new)

pub returns-clause-after : goal.returns-clause-after
returns-clause-after c =
    let keys = c.self.inside.keys.entries in
    let pairs = c.self.inside.pairs.entries in
    let h = c.self.invariant in
    let new = rw (← c.self.view_is) at c.requires.new in
    let inserted = rw c.unwrap-at.ensures at c.insert_full.ensures in
    let added = rw c.unwrap-none.ensures at c.insert.ensures in
    let right = c.chosen-settled.ensures ∙ ap (chosen pairs c.args.version) (c.copied.ensures ∙ c.get.ensures.value) in
    rw (← c.self.view_is)
    (settled_is keys pairs c.args.key c.args.value c.args.version h c.insert_full.new.self.entries c.insert.new.self.entries c.chosen-settled.result right inserted.entries
    (with_pair_at keys pairs c.args.key c.args.value c.args.version h new c.insert.new.self.entries c.unwrap-at.result.0 inserted.index added.entries) new)
