use Rattle.std.proofs.Common.{refl}
use Rattle.std.specs.Ordering.{nat_cmp, ordering_then}
use Rattle.std.specs.Cmp.Lexicographic.{slice_cmp}
use Rattle.cops_import.specs.Stores.{number}
use Rattle.cops_import.proofs.OfKind.{increasing_of, pair_of, text_of}
use Rattle.cops_import.proofs.keys.Keys.sort.Goals as goal

pub returns-in-Numbers : goal.returns-in-Numbers
returns-in-Numbers c = increasing_of number nat_cmp (λ x y. refl) c.tidy.new.keys.items c.tidy.ensures

pub returns-in-Texts : goal.returns-in-Texts
returns-in-Texts c = increasing_of text_of (λ x y. slice_cmp nat_cmp x.items y.items) (λ x y. refl) c.tidy-in-Texts.new.keys.items c.tidy-in-Texts.ensures

pub returns-in-Pairs : goal.returns-in-Pairs
returns-in-Pairs c = increasing_of pair_of (λ x y. ordering_then (nat_cmp x.0 y.0) (slice_cmp nat_cmp x.1.items y.1.items)) (λ x y. refl) c.tidy-in-Pairs.new.keys.items c.tidy-in-Pairs.ensures
