-- The holders of shares, by their seats.
use Rattle.std.proofs.Common.{◌≡◌, ℕ, zero, suc, ◌+◌, ◌-◌, ◌<◌, ◌≤◌, ◌||◌, Bool, true, inl, inr, List, [], ◌∷◌, ◌++◌, All, get_or, length, map, ap, refl, sym, subst, ◌∙◌, arith}
use Rattle.std.specs.List.{list_any, range_with_len}
use Rattle.std.proofs.Math.Bool.{or-true}
use Rattle.std.proofs.lemmas.Bool.{cases_eq, cases_lt}
use Rattle.std.proofs.lemmas.Grind.{common_steps}
use Rattle.std.proofs.lemmas.List.{length-append, length-map}
use Rattle.std.proofs.lemmas.List.Elements.{All-cons}
use Rattle.std.proofs.lemmas.List.Folds.{list_any-append}
use Rattle.std.proofs.lemmas.List.FromFn.{length-range_with_len}
use Rattle.cops_cluster.specs.Close.{AreAll, holders, is_seat}
use Rattle.cops_cluster.specs.declared.share.Holder.{Holder}
use Rattle.cops_cluster.specs.declared.share.Holder.TheVariants.{Client as OfClient, Receiver as OfReceiver}
use Rattle.cops_cluster.specs.declared.share.Share.{Share}
use Rattle.cops_replication.specs.Wiring.{numbers}
use Rattle.cops_replication.specs.declared.receiver.Receiver.{Receiver}

-- a holder that satisfies the test is in the list
any_in : (p : Holder → Bool) (f : ℕ → Holder) (n a k : ℕ) → a ≤ k → k < a + n → p (f k) ≡ true → list_any p (map f (range_with_len a n)) ≡ true
any_in p f zero a k low high found = absurd (omega (arith, low, high))
any_in p f (suc n) a k low high found =
    elim (cases_eq a k) [
      | inl same ↦ ap (λ (b : Bool). b || list_any p (map f (range_with_len (a + 1) n))) (subst (λ (m : ℕ). p (f m) ≡ true) (sym same) found)
      | inr other ↦ ap (λ (b : Bool). p (f a) || b) (any_in p f n (a + 1) k (omega (arith, low, other)) (omega (arith, high)) found) ∙ or-true (p (f a))
    ]

any_map : (p : Holder → Bool) (ss : List Share) → list_any (λ (s : Share). p s.holder) ss ≡ list_any p (holders ss)
any_map p [] = refl
any_map p (s ∷ ss) = ap (λ (b : Bool). p s.holder || b) (any_map p ss)

pub map_twice : {X : Type 0} (f : X → ℕ) (g : ℕ → Holder) (xs : List X) → map (λ (x : X). g (f x)) xs ≡ map g (map f xs)
map_twice f g [] = refl
map_twice f g (x ∷ xs) = ap (λ (l : List Holder). g (f x) ∷ l) (map_twice f g xs)

client_seat : (clients seat : ℕ) → seat < clients → is_seat clients seat (OfClient seat) ≡ true
client_seat clients seat less = grind (arith, common_steps, less)

receiver_seat : (clients seat dc : ℕ) → clients + dc ≡ seat → is_seat clients seat (OfReceiver dc) ≡ true
receiver_seat clients seat dc is = grind (arith, common_steps, is)

-- the share of each client and of each receiver is there
pub all_seated : (clients dcs : ℕ) (shares : List Share) → holders shares ≡ map OfClient (numbers clients) ++ map OfReceiver (numbers dcs) → AreAll clients dcs shares
all_seated clients dcs shares all =
    let of_clients : List Holder = map OfClient (numbers clients) in
    let of_receivers : List Holder = map OfReceiver (numbers dcs) in
    let count : length shares ≡ clients + dcs =
    omega (
      arith,
      length-map shares (λ (s : Share). s.holder),
      ap (λ (l : List Holder). length l) all,
      length-append of_clients of_receivers,
      length-map (numbers clients) OfClient,
      length-map (numbers dcs) OfReceiver,
      length-range_with_len 0 clients,
      length-range_with_len 0 dcs,
    ) in (
      count,
      λ seat less.
          let p : Holder → Bool = is_seat clients seat in
          let either : list_any p of_clients || list_any p of_receivers ≡ true =
          elim (cases_lt seat clients) [
            | inl low ↦ ap (λ (b : Bool). b || list_any p of_receivers) (any_in p OfClient clients 0 seat (omega arith) (omega (arith, low)) (client_seat clients seat low))
            | inr high ↦
                ap (λ (b : Bool). list_any p of_clients || b) (any_in p OfReceiver dcs 0 (seat - clients) (omega arith) (omega (arith, less, high)) (receiver_seat clients seat (seat - clients) (omega (arith, high))))
                ∙ or-true (list_any p of_clients)
          ] in
          any_map p shares ∙ ap (λ (l : List Holder). list_any p l) all ∙ list_any-append p of_clients of_receivers ∙ either,
    )

-- elements whose numbers are their places
pub numbered_from : {X : Type 0} (f : X → ℕ) (xs : List X) (a n : ℕ) → length xs ≡ n → ((k : ℕ) (d : X) → k < n → f (get_or xs k d) ≡ a + k) → map f xs ≡ range_with_len a n
numbered_from f [] a zero len each = refl
numbered_from f [] a (suc n) len each = absurd (omega (arith, len))
numbered_from f (x ∷ xs) a zero len each = absurd (omega (arith, len))
numbered_from f (x ∷ xs) a (suc n) len each =
    let head : f x ≡ a = each 0 x (omega arith) ∙ omega arith in
    let tail : map f xs ≡ range_with_len (a + 1) n = numbered_from f xs (a + 1) n (omega (arith, len)) (λ k d less. each (suc k) d (omega (arith, less)) ∙ omega arith) in
    ap (λ (m : ℕ). m ∷ map f xs) head ∙ ap (λ (l : List ℕ). a ∷ l) tail

-- holders that match these numbers, one by one
pub held_from : {X : Type 0} (f : X → Holder) (g : ℕ → Holder) (xs : List X) (a n : ℕ) → length xs ≡ n → ((k : ℕ) (d : X) → k < n → f (get_or xs k d) ≡ g (a + k)) → map f xs ≡ map g (range_with_len a n)
held_from f g [] a zero len each = refl
held_from f g [] a (suc n) len each = absurd (omega (arith, len))
held_from f g (x ∷ xs) a zero len each = absurd (omega (arith, len))
held_from f g (x ∷ xs) a (suc n) len each =
    let head : f x ≡ g a = each 0 x (omega arith) ∙ ap g (omega arith) in
    let tail : map f xs ≡ map g (range_with_len (a + 1) n) = held_from f g xs (a + 1) n (omega (arith, len)) (λ k d less. each (suc k) d (omega (arith, less)) ∙ ap g (omega arith)) in
    ap (λ (h : Holder). h ∷ map f xs) head ∙ ap (λ (l : List Holder). g a ∷ l) tail

-- the receivers hold the shares of their own places
pub placed_from : (rs : List Receiver) (ss : List Share) (a n : ℕ) → map (λ (r : Receiver). r.dc) rs ≡ range_with_len a n → map (λ (r : Receiver). r.share) rs ≡ ss
    → ((k : ℕ) (d : Share) → k < n → (get_or ss k d).holder ≡ OfReceiver (a + k)) → All (λ (r : Receiver). r.share.holder ≡ OfReceiver r.dc) rs
placed_from [] ss a n dcs shares each = λ k d less. absurd (omega (arith, less))
placed_from (r ∷ rs) [] a n dcs shares each = absurd (cc)
placed_from (r ∷ rs) (s ∷ ss) a zero dcs shares each = absurd (cc)
placed_from (r ∷ rs) (s ∷ ss) a (suc n) dcs shares each =
    let first : s.holder ≡ OfReceiver (a + 0) = each 0 s (omega arith) in
    let same : r.share ≡ s = cc in
    let places : map (λ (r : Receiver). r.dc) rs ≡ range_with_len (a + 1) n = cc in
    let rest : map (λ (r : Receiver). r.share) rs ≡ ss = cc in
    let place : r.dc ≡ a + 0 = (let here : r.dc ≡ a = cc in omega (arith, here)) in
    let one : r.share.holder ≡ OfReceiver r.dc = ap (λ (x : Share). x.holder) same ∙ first ∙ ap OfReceiver (sym place) in
    All-cons (λ (r : Receiver). r.share.holder ≡ OfReceiver r.dc) r rs one
    (placed_from rs ss (a + 1) n places rest (λ k d less. each (suc k) d (omega (arith, less)) ∙ ap OfReceiver (omega arith)))
