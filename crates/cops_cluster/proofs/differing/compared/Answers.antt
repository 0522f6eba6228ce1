use Rattle.std.proofs.Common.{List, rules, sym, subst}
use Rattle.std.specs.List.Sorted.{IsNonDecreasingBy, IsPermutation}
use Rattle.std.proofs.lemmas.List.Sorted.{IsNonDecreasingBy-from_sort_by_key, IsPermutation-map}
use Rattle.cops_cluster.specs.declared.logged.LoggedEntry.{LoggedEntry}
use Rattle.cops_cluster.specs.Differing.{shown, ticket_of}
use Rattle.cops_cluster.proofs.Joins.{compares_sorted, sorted_by_entries}
use Rattle.cops_cluster.proofs.differing.compared.Goals as goal

pub first_difference-requires-clause-kept : goal.first_difference-requires-clause-kept
first_difference-requires-clause-kept c =
    subst (λ (l : List LoggedEntry). IsNonDecreasingBy ticket_of l) (sym c.deref.ensures.value)
    (sorted_by_entries _ (IsNonDecreasingBy-from_sort_by_key (λ (n : LoggedEntry). n.ticket) c.sort_by_key.new.self.items c.in_ok-sort_by_key.ensures.sorted (λ a r q k. search rules)))

pub first_difference-requires-clause-heard : goal.first_difference-requires-clause-heard
first_difference-requires-clause-heard c =
    subst (λ (l : List LoggedEntry). IsNonDecreasingBy ticket_of l) (sym c.deref_mut.ensures.value)
    (sorted_by_entries _ (IsNonDecreasingBy-from_sort_by_key (λ (n : LoggedEntry). n.ticket) c.sort_by_key-2.new.self.items c.in_ok-sort_by_key-2.ensures.sorted (λ a r q k. search rules)))

pub returns : goal.returns
returns c =
    let kept : IsPermutation c.args.kept.items c.deref.result.now = subst (λ (l : List LoggedEntry). IsPermutation c.args.kept.items l) (sym c.deref.ensures.value) c.sort_by_key.ensures.permutation in
    let heard : IsPermutation c.args.heard.items c.deref_mut.result.now =
    subst (λ (l : List LoggedEntry). IsPermutation c.args.heard.items l) (sym c.deref_mut.ensures.value) c.sort_by_key-2.ensures.permutation in
    compares_sorted _ _ _ _ c.first_difference.result (IsPermutation-map shown _ _ kept) (IsPermutation-map shown _ _ heard) c.first_difference.ensures
