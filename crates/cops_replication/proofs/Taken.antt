-- Taking from links, frame by frame.
use Rattle.std.proofs.Common.{◌≡◌, ℕ, zero, suc, ◌+◌, ◌<◌, ◌≤◌, List, [], ◌∷◌, ◌++◌, drop, get_or, length, set, append_assoc, ap, refl, sym, ◌∙◌, subst, arith}
use Rattle.std.proofs.lemmas.List.{append-nil, drop-drop, drop-set-lt, length-append}
use Rattle.cops_link.specs.Link.{taken, SameOut}
use Rattle.cops_link.specs.declared.ends.LinkOut.{LinkOut}
use Rattle.cops_replication.specs.Receiving.{TakesUpTo, EachTakesUpTo}

pub out_refl : (l : LinkOut) → SameOut l l
out_refl l = ((refl, refl, refl, refl), refl)

pub out_trans : (a b c : LinkOut) → SameOut a b → SameOut b c → SameOut a c
out_trans a b c p q = ((q.0.0 ∙ p.0.0, q.0.1 ∙ p.0.1, q.0.2 ∙ p.0.2, q.0.3 ∙ p.0.3), q.1 ∙ p.1)

pub takes_none : (most : ℕ) (a b : LinkOut) → SameOut a b → taken b ≡ taken a → TakesUpTo most a b
takes_none most a b same is = record { same = same; more = []; taken = is ∙ sym (append-nil (taken a)); few = omega arith }

pub takes_trans : (m n : ℕ) (a b c : LinkOut) → TakesUpTo m a b → TakesUpTo n b c → TakesUpTo (m + n) a c
takes_trans m n a b c p q = record {
  same = out_trans a b c p.same q.same;
  more = p.more ++ q.more;
  taken = q.taken ∙ ap (λ l. l ++ q.more) p.taken ∙ append_assoc (taken a) p.more q.more;
  few = omega (arith, length-append p.more q.more, p.few, q.few);
}

pub each_takes_none : (most : ℕ) (xs : List LinkOut) → EachTakesUpTo most xs xs
each_takes_none most [] = tt
each_takes_none most (x ∷ xs) = (takes_none most x x (out_refl x) refl, each_takes_none most xs)

pub each_takes_trans : (m n : ℕ) (xs ys zs : List LinkOut) → EachTakesUpTo m xs ys → EachTakesUpTo n ys zs → EachTakesUpTo (m + n) xs zs
each_takes_trans m n [] [] [] p q = tt
each_takes_trans m n [] [] (z ∷ zs) p q = absurd q
each_takes_trans m n [] (y ∷ ys) zs p q = absurd p
each_takes_trans m n (x ∷ xs) [] zs p q = absurd p
each_takes_trans m n (x ∷ xs) (y ∷ ys) [] p q = absurd q
each_takes_trans m n (x ∷ xs) (y ∷ ys) (z ∷ zs) p q = (takes_trans m n x y z p.0 q.0, each_takes_trans m n xs ys zs p.1 q.1)

pub each_takes_more : (m n : ℕ) (xs ys : List LinkOut) → m ≤ n → EachTakesUpTo m xs ys → EachTakesUpTo n xs ys
each_takes_more m n [] [] le p = tt
each_takes_more m n [] (y ∷ ys) le p = absurd p
each_takes_more m n (x ∷ xs) [] le p = absurd p
each_takes_more m n (x ∷ xs) (y ∷ ys) le p =
    (record { same = p.0.same; more = p.0.more; taken = p.0.taken; few = omega (arith, p.0.few, le) }, each_takes_more m n xs ys le p.1)

-- taking from one more link, from which nothing was taken before
pub each_takes_set : (xs ys : List LinkOut) (k : ℕ) (y d : LinkOut) → k < length xs → EachTakesUpTo 1 xs ys → drop k ys ≡ drop k xs → TakesUpTo 1 (get_or ys k d) y → EachTakesUpTo 1 xs (set ys k y)
each_takes_set [] ys k y d less p rest one = absurd (omega (arith, less))
each_takes_set (x ∷ xs) [] k y d less p rest one = absurd p
each_takes_set (x ∷ xs) (b ∷ ys) zero y d less p rest one =
    let same : b ≡ x = cc in
    (subst (λ (l : LinkOut). TakesUpTo 1 l y) same one, p.1)
each_takes_set (x ∷ xs) (b ∷ ys) (suc k) y d less p rest one = (p.0, each_takes_set xs ys k y d (omega (arith, less)) p.1 rest one)

-- the links after it do not change
pub rest_set : (xs ys : List LinkOut) (k : ℕ) (y : LinkOut) → drop k ys ≡ drop k xs → drop (k + 1) (set ys k y) ≡ drop (k + 1) xs
rest_set xs ys k y rest =
    drop-set-lt (k + 1) ys k y (omega arith) ∙ sym (drop-drop 1 k ys) ∙ ap (drop 1) rest ∙ drop-drop 1 k xs

-- taking from one more link, in terms of the loop's invariants
pub each_step : (xs ys : List LinkOut) (k : ℕ) (old new : LinkOut) → k < length xs → EachTakesUpTo 1 xs ys → drop k ys ≡ drop k xs → old ≡ get_or ys k old → TakesUpTo 1 old new → EachTakesUpTo 1 xs (set ys k new)
each_step xs ys k old new less p rest is one = each_takes_set xs ys k new old less p rest (subst (λ (l : LinkOut). TakesUpTo 1 l new) is one)
