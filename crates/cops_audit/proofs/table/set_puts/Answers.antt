use Rattle.std.proofs.Common.{arith, rules}
use Rattle.std.proofs.lemmas.List.Sorted.{IsNonDecreasingBy-from_sort_by_key, Contains-permutation, IsPermutation-sym, length_permutation}
use Rattle.cops_types.specs.declared.versioned_put.VersionedPut.{VersionedPut}
use Rattle.cops_audit.proofs.Differing.{names_differ}
use Rattle.cops_audit.proofs.table.set_puts.Goals as goal

pub returns-clause-puts : goal.returns-clause-puts
returns-clause-puts c =
    let xs = c.list_puts.new.to.items in
    let ys = c.sort_unstable_by_key.new.self.items in
    let permutation = c.sort_unstable_by_key.ensures.permutation in
    let sorted = IsNonDecreasingBy-from_sort_by_key (λ (p : VersionedPut). p.version) ys c.sort_unstable_by_key.ensures.sorted (λ a r q k. search rules) in
    let listed = c.in_ok-list_puts.ensures in
    record {
      members = λ p. (
        (λ there. (listed.puts.members p).0 (Contains-permutation ys xs p (IsPermutation-sym xs ys permutation) there)),
        (λ put. Contains-permutation xs ys p permutation ((listed.puts.members p).1 put)),
      );
      once = names_differ xs ys permutation listed.puts.once;
      in_order = λ i j d less inside. sorted i j d (omega (arith, less)) inside;
      few = omega (arith, length_permutation xs ys permutation, listed.few, c.list_puts.ensures.limits.all);
    }
