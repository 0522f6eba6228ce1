use Rattle.std.proofs.Common.{refl}
use Rattle.std.specs.Ordering.{nat_cmp, ordering_then}
use Rattle.std.specs.Cmp.Lexicographic.{slice_cmp}
use Rattle.cops_import.specs.Stores.{number, stored}
use Rattle.cops_import.proofs.OfKind.{not_number, not_pair, not_text, of_kind, other_kind, pair_of, text_of}
use Rattle.cops_import.proofs.keys.Keys.is_kind_of.Goals.{in_default-via-in-Numbers+in_default, in_default-via-in-Texts+in_default, in_default-via-in-Pairs+in_default}
use Rattle.cops_import.proofs.keys.Keys.is_kind_of.Goals as goal

pub returns-in-Numbers-Number : goal.returns-in-Numbers-Number
returns-in-Numbers-Number c = rw (c.in-Numbers-Number.is-0, c.in-Numbers-Number.is-1) (λ yes. of_kind number nat_cmp (λ x y. refl) c.in-Numbers-Number.field-0-0.items c.in-Numbers-Number.field-0-1, λ kind. refl)

pub returns-in-Texts-Text : goal.returns-in-Texts-Text
returns-in-Texts-Text c = rw (c.in-Texts-Text.is-0, c.in-Texts-Text.is-1) (λ yes. of_kind text_of (λ x y. slice_cmp nat_cmp x.items y.items) (λ x y. refl) c.in-Texts-Text.field-0-0.items c.in-Texts-Text.field-0-1, λ kind. refl)

pub returns-in-Pairs-Pair : goal.returns-in-Pairs-Pair
returns-in-Pairs-Pair c =
    rw (c.in-Pairs-Pair.is-0, c.in-Pairs-Pair.is-1) (λ yes. of_kind pair_of (λ x y. ordering_then (nat_cmp x.0 y.0) (slice_cmp nat_cmp x.1.items y.1.items)) (λ x y. refl) c.in-Pairs-Pair.field-0-0.items c.in-Pairs-Pair.field-0-1, λ kind. refl)

pub returns-in_default : goal.returns-in_default
returns-in_default c =
    elim c.in_default.branch [
      | in_default-via-in-Numbers+in_default w ↦
          let other = not_number c.args.version.now w.in_default.not-Number-1 in
          rw w.in_default.is-0 (other_kind number (stored c.args.version.now) w.in_default.field-0-0.items c.len.result (rw w.in_default.is-0 at c.len.ensures) other)
      | in_default-via-in-Texts+in_default w ↦
          let other = not_text c.args.version.now w.in_default.not-Text-1 in
          rw w.in_default.is-0 (other_kind text_of (stored c.args.version.now) w.in_default.field-0-0.items c.len.result (rw w.in_default.is-0 at c.len.ensures) other)
      | in_default-via-in-Pairs+in_default w ↦
          let other = not_pair c.args.version.now w.in_default.not-Pair-1 in
          rw w.in_default.is-0 (other_kind pair_of (stored c.args.version.now) w.in_default.field-0-0.items c.len.result (rw w.in_default.is-0 at c.len.ensures) other)
    ]
