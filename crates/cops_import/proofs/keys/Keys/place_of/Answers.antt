use Rattle.std.proofs.Common.{refl}
use Rattle.std.specs.Cmp.{on_total, then_total}
use Rattle.std.specs.Ordering.{nat_cmp, ordering_then}
use Rattle.std.specs.Cmp.Lexicographic.{slice_cmp}
use Rattle.std.proofs.lemmas.Cmp.{nat_cmp_total, nat_list_cmp_total}
use Rattle.cops_import.specs.Stores.{number, stored}
use Rattle.cops_import.proofs.OfKind.{absent, exact_numbers, exact_pairs, exact_texts, found, increasing_back, no_place, not_number, not_pair, not_text, pair_of, text_of}
use Rattle.cops_import.proofs.keys.Keys.place_of.Goals as goal

pub place_of-requires : goal.place_of-requires
place_of-requires c = rw c.deref.ensures.value (increasing_back number nat_cmp (λ x y. refl) c.in-Numbers-Number.numbers.items (rw c.in-Numbers-Number.is-0 at c.requires))

pub returns-in-Numbers-Number-clause-some : goal.returns-in-Numbers-Number-clause-some
returns-in-Numbers-Number-clause-some c = rw (c.in-Numbers-Number.is-0, c.in-Numbers-Number.is-1) (found number nat_cmp (λ x y. refl) c.in-Numbers-Number.numbers.items c.in-Numbers-Number.number c.place_of.result exact_numbers (rw c.deref.ensures.value at c.place_of.ensures.some))

pub returns-in-Numbers-Number-clause-none : goal.returns-in-Numbers-Number-clause-none
returns-in-Numbers-Number-clause-none c = rw (c.in-Numbers-Number.is-0, c.in-Numbers-Number.is-1) (absent number nat_cmp (λ x y. refl) c.in-Numbers-Number.numbers.items c.in-Numbers-Number.number c.place_of.result nat_cmp_total (rw c.deref.ensures.value at c.place_of.ensures.none))

pub place_of-requires-in-Texts-Text : goal.place_of-requires-in-Texts-Text
place_of-requires-in-Texts-Text c = rw c.deref-in-Texts-Text.ensures.value (increasing_back text_of (λ x y. slice_cmp nat_cmp x.items y.items) (λ x y. refl) c.in-Texts-Text.texts.items (rw c.in-Texts-Text.is-0 at c.requires))

pub returns-in-Texts-Text-clause-some : goal.returns-in-Texts-Text-clause-some
returns-in-Texts-Text-clause-some c = rw (c.in-Texts-Text.is-0, c.in-Texts-Text.is-1) (found text_of (λ x y. slice_cmp nat_cmp x.items y.items) (λ x y. refl) c.in-Texts-Text.texts.items c.in-Texts-Text.text c.place_of-in-Texts-Text.result exact_texts (rw c.deref-in-Texts-Text.ensures.value at c.place_of-in-Texts-Text.ensures.some))

pub returns-in-Texts-Text-clause-none : goal.returns-in-Texts-Text-clause-none
returns-in-Texts-Text-clause-none c = rw (c.in-Texts-Text.is-0, c.in-Texts-Text.is-1) (absent text_of (λ x y. slice_cmp nat_cmp x.items y.items) (λ x y. refl) c.in-Texts-Text.texts.items c.in-Texts-Text.text c.place_of-in-Texts-Text.result (on_total (λ t. t.items) nat_list_cmp_total) (rw c.deref-in-Texts-Text.ensures.value at c.place_of-in-Texts-Text.ensures.none))

pub place_of-requires-in-Pairs-Pair : goal.place_of-requires-in-Pairs-Pair
place_of-requires-in-Pairs-Pair c = rw c.deref-in-Pairs-Pair.ensures.value (increasing_back pair_of (λ x y. ordering_then (nat_cmp x.0 y.0) (slice_cmp nat_cmp x.1.items y.1.items)) (λ x y. refl) c.in-Pairs-Pair.pairs.items (rw c.in-Pairs-Pair.is-0 at c.requires))

pub returns-in-Pairs-Pair-clause-some : goal.returns-in-Pairs-Pair-clause-some
returns-in-Pairs-Pair-clause-some c = rw (c.in-Pairs-Pair.is-0, c.in-Pairs-Pair.is-1) (found pair_of (λ x y. ordering_then (nat_cmp x.0 y.0) (slice_cmp nat_cmp x.1.items y.1.items)) (λ x y. refl) c.in-Pairs-Pair.pairs.items c.in-Pairs-Pair.pair c.place_of-in-Pairs-Pair.result exact_pairs (rw c.deref-in-Pairs-Pair.ensures.value at c.place_of-in-Pairs-Pair.ensures.some))

pub returns-in-Pairs-Pair-clause-none : goal.returns-in-Pairs-Pair-clause-none
returns-in-Pairs-Pair-clause-none c = rw (c.in-Pairs-Pair.is-0, c.in-Pairs-Pair.is-1) (absent pair_of (λ x y. ordering_then (nat_cmp x.0 y.0) (slice_cmp nat_cmp x.1.items y.1.items)) (λ x y. refl) c.in-Pairs-Pair.pairs.items c.in-Pairs-Pair.pair c.place_of-in-Pairs-Pair.result (then_total (on_total (λ p. p.0) nat_cmp_total) (on_total (λ p. p.1.items) nat_list_cmp_total)) (rw c.deref-in-Pairs-Pair.ensures.value at c.place_of-in-Pairs-Pair.ensures.none))

pub returns-in_default : goal.returns-in_default
returns-in_default c = rw c.in_default.is-0 (record { some = tt; none = no_place number nat_cmp (λ x y. refl) c.in_default.field-0-0.items (stored c.args.version.now) (not_number c.args.version.now c.in_default.not-Number-1) })

pub returns-in_default-2 : goal.returns-in_default-2
returns-in_default-2 c = rw c.in_default.is-0 (record { some = tt; none = no_place text_of (λ x y. slice_cmp nat_cmp x.items y.items) (λ x y. refl) c.in_default.field-0-0.items (stored c.args.version.now) (not_text c.args.version.now c.in_default.not-Text-1) })

pub returns-in_default-3 : goal.returns-in_default-3
returns-in_default-3 c = rw c.in_default.is-0 (record { some = tt; none = no_place pair_of (λ x y. ordering_then (nat_cmp x.0 y.0) (slice_cmp nat_cmp x.1.items y.1.items)) (λ x y. refl) c.in_default.field-0-0.items (stored c.args.version.now) (not_pair c.args.version.now c.in_default.not-Pair-1) })
