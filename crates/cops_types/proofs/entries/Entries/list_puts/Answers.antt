use Rattle.std.proofs.Common.{map, ap, ◌∙◌, subst, sym}
use Rattle.cops_types.specs.Entries.{ListsEntries}
use Rattle.cops_types.specs.Slots.{shown_by, versioned}
use Rattle.cops_types.specs.declared.versioned_put.VersionedPut.{VersionedPut}
use Rattle.cops_types.proofs.Showing.{lists_entries, names_versioned}
use Rattle.cops_types.proofs.entries.Entries.list_puts.Goals as goal

pub returns-clause-puts : goal.returns-clause-puts
returns-clause-puts c =
    let puts = c.self.inside.puts.items in
    let gets = c.self.inside.gets.items in
    let slots = c.self.inside.slots.all in
    let now = c.add_puts.ensures.puts ∙ ap (map versioned) c.deref.ensures.value in
    rw (← c.self.view_is) (subst (ListsEntries (shown_by puts gets slots)) (sym now) (lists_entries puts gets slots c.self.invariant))

pub returns-clause-names : goal.returns-clause-names
returns-clause-names c =
    let now = c.add_puts.ensures.puts ∙ ap (map versioned) c.deref.ensures.value in
    rw (← c.self.view_is) (ap (map (λ (p : VersionedPut). p.name)) now ∙ names_versioned c.self.inside.puts.items)
