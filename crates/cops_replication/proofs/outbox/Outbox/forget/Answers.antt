use Rattle.std.proofs.Common.{◌≡◌, ◌∙◌, ◌≤◌, ap, All, List, map, drop, subst, sym}
use Rattle.std.proofs.lemmas.List.{with_items_is}
use Rattle.std.specs.Vec.{with_items}
use Rattle.cops_types.specs.declared.put_record.PutRecord.{PutRecord}
use Rattle.cops_replication.specs.declared.outbox.Lane.{Lane}
use Rattle.cops_replication.specs.Lanes.{counted_from, shown, IsWithin}
use Rattle.cops_replication.proofs.Showing.{shown_from, within_from}
use Rattle.cops_replication.proofs.outbox.Outbox.forget.Goals as goal

pub invariant_of-self : goal.invariant_of-self
invariant_of-self c =
    let first = c.sent_on_all-sent.result in
    let puts = c.self.inside.puts.items in
    let lanes = c.self.inside.lanes.items in
    let lanes_are : (with_items c.self.inside.lanes c.count_from.new.lanes).items ≡ map (counted_from first) lanes =
    with_items_is c.self.inside.lanes c.count_from.new.lanes (c.count_from.auto.lanes ∙ c.deref_mut.ensures.len) ∙ c.count_from.ensures ∙ ap (map (counted_from first)) c.deref_mut.ensures.value in
    subst (λ (ps : List PutRecord). All (IsWithin ps) (with_items c.self.inside.lanes c.count_from.new.lanes).items) (sym c.let_go.ensures)
    (subst (λ (ls : List Lane). All (IsWithin (drop first puts)) ls) (sym lanes_are) (within_from puts first lanes c.self.invariant))

pub returns : goal.returns
returns c =
    let first = c.sent_on_all-sent.result in
    let puts = c.self.inside.puts.items in
    let lanes = c.self.inside.lanes.items in
    let lanes_are : (with_items c.self.inside.lanes c.count_from.new.lanes).items ≡ map (counted_from first) lanes =
    with_items_is c.self.inside.lanes c.count_from.new.lanes (c.count_from.auto.lanes ∙ c.deref_mut.ensures.len) ∙ c.count_from.ensures ∙ ap (map (counted_from first)) c.deref_mut.ensures.value in
    let sent : All (λ (l : Lane). first ≤ l.next) lanes = subst (λ (ls : List Lane). All (λ (l : Lane). first ≤ l.next) ls) c.deref.ensures.value c.sent_on_all-sent.ensures.each in
    ap (map (shown c.let_go.new.puts.items)) lanes_are ∙ ap (λ (ps : List PutRecord). map (shown ps) (map (counted_from first) lanes)) c.let_go.ensures ∙ shown_from puts first lanes sent ∙ c.self.view_is
