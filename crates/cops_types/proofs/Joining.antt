-- Slots stored in blocks.
use Rattle.std.proofs.Common.{◌≡◌, ℕ, zero, suc, ◌+◌, ◌-◌, ◌*◌, ◌/◌, ◌%◌, ◌<◌, ◌≤◌, All, List, [], ◌∷◌, ◌++◌, length, get_or, slice_get, Some, None, Vec, Global, refl, sym, ap, ◌∙◌, arith}
use Rattle.std.proofs.lemmas.List.{length-append}
use Rattle.std.proofs.lemmas.Option.{slice_get_read}
use Rattle.cops_types.specs.Blocks.{joined}
use Rattle.cops_types.specs.declared.slot.OpSlot.{OpSlot}

pub get_left : {X : Type 0} (xs ys : List X) (i : ℕ) → i < length xs → slice_get (xs ++ ys) i ≡ slice_get xs i
get_left [] ys i lt = absurd (omega (arith, lt))
get_left (x ∷ xs) ys zero lt = refl
get_left (x ∷ xs) ys (suc i) lt = get_left xs ys i (omega (arith, lt))

pub get_right : {X : Type 0} (xs ys : List X) (i n : ℕ) → n ≡ length xs + i → slice_get (xs ++ ys) n ≡ slice_get ys i
get_right [] ys i n is = let e : n ≡ i = omega (arith, is) in ap (slice_get ys) e
get_right (x ∷ xs) ys i zero is = absurd (omega (arith, is))
get_right (x ∷ xs) ys i (suc n) is = get_right xs ys i n (omega (arith, is))

abbrev AreFull : List (Vec OpSlot Global) → Type 0
AreFull full = All (λ b. length b.items ≡ 64) full

rest_full : (b : Vec OpSlot Global) (full : List (Vec OpSlot Global)) → AreFull (b ∷ full) → AreFull full
rest_full b full h = λ k d lt. h (suc k) d (omega (arith, lt))

pub joined_len : (full : List (Vec OpSlot Global)) → AreFull full → length (joined full) ≡ length full * 64
joined_len [] h = refl
joined_len (b ∷ full) h = let size : length b.items ≡ 64 = h 0 b (omega arith) in omega (arith, length-append b.items (joined full), size, joined_len full (rest_full b full h))

within : (full : List (Vec OpSlot Global)) (k j : ℕ) (b : Vec OpSlot Global) → AreFull full → j < 64 → slice_get full k ≡ Some b → slice_get (joined full) (k * 64 + j) ≡ slice_get b.items j
within [] k j b h lt at = let gone : None ≡ Some b = at in cc
within (x ∷ full) zero j b h lt at =
    let size : length x.items ≡ 64 = h 0 x (omega arith) in
    let same : x ≡ b = cc in
    let front : j < length x.items = omega (arith, size, lt) in
    let here : zero * 64 + j ≡ j = omega arith in
    ap (slice_get (x.items ++ joined full)) here ∙ get_left x.items (joined full) j front ∙ ap (λ (v : Vec OpSlot Global). slice_get v.items j) same
within (x ∷ full) (suc k) j b h lt at =
    let size : length x.items ≡ 64 = h 0 x (omega arith) in
    let past : suc k * 64 + j ≡ length x.items + (k * 64 + j) = omega (arith, size) in
    get_right x.items (joined full) (k * 64 + j) (suc k * 64 + j) past ∙ within full k j b (rest_full x full h) lt at

-- the slot at an index within a full block
pub get_full : (full : List (Vec OpSlot Global)) (last : List OpSlot) (i : ℕ) (b : Vec OpSlot Global) → AreFull full → i / 64 < length full → b ≡ get_or full (i / 64) b
    → slice_get (joined full ++ last) i ≡ slice_get b.items (i % 64)
get_full full last i b h inside is =
    let parts : (i / 64) * 64 + i % 64 ≡ i = omega arith in
    let low : i % 64 < 64 = omega arith in
    let front : i < length (joined full) = omega (arith, joined_len full h, inside) in
    get_left (joined full) last i front ∙ ap (slice_get (joined full)) (sym parts) ∙ within full (i / 64) (i % 64) b h low (slice_get_read full (length full) (i / 64) b refl inside is)

-- the slot at an index after the full blocks
pub get_last : (full : List (Vec OpSlot Global)) (last : List OpSlot) (i : ℕ) → AreFull full → length full ≤ i / 64 → slice_get (joined full ++ last) i ≡ slice_get last (i - length full * 64)
get_last full last i h past =
    let from : i ≡ length (joined full) + (i - length full * 64) = omega (arith, joined_len full h, past) in
    get_right (joined full) last (i - length full * 64) i from
