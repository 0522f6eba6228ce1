use Rattle.std.proofs.Common.{◌≡◌, ◌<◌, ◌∙◌, ◌++◌, ◌∷◌, [], zero, suc, List, ℕ, Vec, Global, map, ap, sym, refl, length, arith}
use Rattle.std.specs.Prelude.{slice_set, slice_index_or}
use Rattle.std.proofs.lemmas.List.{map-set}
use Rattle.cops_check.proofs.numbers.add_number.Goals as goal

items_at : (table : List (Vec ℕ Global)) (i : ℕ) (x : Vec ℕ Global) → i < length table → slice_index_or (map (λ numbers. numbers.items) table) i [] ≡ (slice_index_or table i x).items
items_at [] i x inside = absurd (omega (arith, inside))
items_at (y ∷ table) zero x inside = refl
items_at (y ∷ table) (suc i) x inside = items_at table i x (omega (arith, inside))

pub returns-in_ok-push : goal.returns-in_ok-push
returns-in_ok-push c =
    let table = c.args.table.now.items in
    let at = c.from-at.result in
    let lists = map (λ (numbers : Vec ℕ Global). numbers.items) table in
    let old : c.index_mut.result.now.items ≡ slice_index_or lists at [] =
    ap (λ (numbers : Vec ℕ Global). numbers.items) c.index_mut.ensures.value ∙ sym (items_at table at c.index_mut.result.now (omega (arith, c.if-at-len.true, c.len.ensures))) in
    rw (← c.from-at.ensures)
    (map-set (λ (numbers : Vec ℕ Global). numbers.items) table at c.push.new.self
    ∙ ap (λ (numbers : List ℕ). slice_set lists at numbers) (c.in_ok-push.ensures.items ∙ ap (λ (numbers : List ℕ). numbers ++ c.args.number ∷ []) old))
