-- Epoch arrays: numbers that count only in the epoch in which they were written.
use Rattle.std.proofs.Common.{◌≡◌, ◌<◌, ◌+◌, ◌++◌, ◌∙◌, ℕ, zero, suc, List, [], ◌∷◌, length, map, replicate, cond, eqb, refl, sym, ap, arith, All, append_assoc, length-append, slice_set}
use Rattle.std.proofs.lemmas.Bool.{eqb-true, eq-eqb, false_from_ne_true}
use Rattle.std.proofs.lemmas.Grind.{common_steps}
use Rattle.std.proofs.lemmas.List.{length-map, length-replicate, map-append, map-set, replicate-append-replicate, set-append_left}
use Rattle.cops_audit.specs.declared.epochs.EpochEntry.{EpochEntry}
use Rattle.cops_audit.specs.EpochNumbers.{number_in, numbers_in}

same_epoch : (t n : ℕ) → number_in t (record { epoch = t; number = n }) ≡ n
same_epoch t n = ap (λ b. cond b n 0) (eq-eqb t t refl)

other_epoch : (t : ℕ) (e : EpochEntry) → e.epoch < t → number_in t e ≡ 0
other_epoch t e less = ap (λ b. cond b e.number 0) (false_from_ne_true (eqb e.epoch t) (λ same. let s : e.epoch ≡ t = eqb-true _ _ same in omega (arith, s, less)))

-- in an epoch after all of them, none counts
all_zero : (t : ℕ) (xs : List EpochEntry) → All (λ e. e.epoch < t) xs → map (number_in t) xs ≡ replicate (length xs) 0
all_zero t [] earlier = refl
all_zero t (x ∷ xs) earlier =
    let head : number_in t x ≡ 0 = other_epoch t x (earlier zero x (omega arith)) in
    let tail : map (number_in t) xs ≡ replicate (length xs) 0 = all_zero t xs (λ k d inside. earlier (suc k) d (omega (arith, inside))) in
    cc

zeros : (t n : ℕ) → map (number_in t) (replicate n (let e : EpochEntry = record { epoch = 0; number = 0 } in e)) ≡ replicate n 0
zeros t zero = refl
zeros t (suc n) =
    let head : number_in t (record { epoch = 0; number = 0 }) ≡ 0 = zero_in t in
    let tail = zeros t n in
    cc
  where
    zero_in : (t : ℕ) → number_in t (record { epoch = 0; number = 0 }) ≡ 0
    zero_in t = grind (arith, common_steps)

pub restarted : (t : ℕ) (xs : List EpochEntry) (n : ℕ) → All (λ e. e.epoch < t) xs → numbers_in t xs n ≡ replicate (length xs + n) 0
restarted t xs n earlier = ap (λ (ys : List ℕ). ys ++ replicate n 0) (all_zero t xs earlier) ∙ replicate-append-replicate (length xs) n 0

pub count_numbers : (t : ℕ) (xs : List EpochEntry) (n : ℕ) → length (numbers_in t xs n) ≡ length xs + n
count_numbers t xs n = omega (arith, length-append (map (number_in t) xs) (replicate n 0), length-map xs (number_in t), length-replicate {A = ℕ} n 0)

-- entries that count as 0 change no number
pub filled : (t : ℕ) (xs : List EpochEntry) (n m more : ℕ) → m + more ≡ n → numbers_in t (xs ++ replicate m (record { epoch = 0; number = 0 })) more ≡ numbers_in t xs n
filled t xs n m more sum =
    let f = number_in t in
    let zero_entry : EpochEntry = record { epoch = 0; number = 0 } in
    let parts : map f (xs ++ replicate m zero_entry) ≡ map f xs ++ replicate m 0 = map-append f xs (replicate m zero_entry) ∙ ap (λ (ys : List ℕ). map f xs ++ ys) (zeros t m) in
    let rest : replicate m 0 ++ replicate more 0 ≡ replicate n 0 = replicate-append-replicate {A = ℕ} m more 0 ∙ ap (λ (k : ℕ). replicate k 0) sum in
    ap (λ (ys : List ℕ). ys ++ replicate more 0) parts ∙ append_assoc (map f xs) (replicate m 0) (replicate more 0) ∙ ap (λ (ys : List ℕ). map f xs ++ ys) rest

pub set_number : (t : ℕ) (xs : List EpochEntry) (n k v : ℕ) → k < length xs → numbers_in t (slice_set xs k (record { epoch = t; number = v })) n ≡ slice_set (numbers_in t xs n) k v
set_number t xs n k v inside =
    let f = number_in t in
    ap (λ (ys : List ℕ). ys ++ replicate n 0) (map-set f xs k (record { epoch = t; number = v }) ∙ ap (slice_set (map f xs) k) (same_epoch t v))
    ∙ sym (set-append_left (map f xs) (replicate n 0) k v (omega (arith, inside, length-map xs f)))
