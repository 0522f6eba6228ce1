-- Sending on lanes, frame by frame.
use Rattle.std.proofs.Common.{◌≡◌, ℕ, zero, suc, ◌+◌, ◌<◌, List, [], ◌∷◌, ◌++◌, length, map, drop, get_or, set, append_assoc, refl, sym, ap, subst, ◌∙◌, arith}
use Rattle.std.proofs.lemmas.List.{append-nil, drop_more, map-append, map-set, length-map}
use Rattle.std.proofs.Math.ListN.{get_or-map}
use Rattle.cops_types.specs.declared.put_record.PutRecord.{PutRecord}
use Rattle.cops_link.specs.Frame.{encoded}
use Rattle.cops_link.specs.Link.{sent, SameIn}
use Rattle.cops_link.specs.declared.ends.LinkIn.{LinkIn}
use Rattle.cops_replication.specs.declared.outbox.Lane.{Lane}
use Rattle.cops_replication.specs.Lanes.{ALane, Sends, EachSends, Carried, shown, and_due}

pub same_refl : (l : LinkIn) → SameIn l l
same_refl l = ((refl, refl, refl, refl), refl)

pub same_trans : (a b c : LinkIn) → SameIn a b → SameIn b c → SameIn a c
same_trans a b c p q = ((q.0.0 ∙ p.0.0, q.0.1 ∙ p.0.1, q.0.2 ∙ p.0.2, q.0.3 ∙ p.0.3), q.1 ∙ p.1)

pub sends_refl : (x : ALane) → Sends x x
sends_refl x = record { same = same_refl x.link; more = []; sent = sym (append-nil (sent x.link)); due = refl }

pub sends_trans : (x y z : ALane) → Sends x y → Sends y z → Sends x z
sends_trans x y z p q = record {
  same = same_trans x.link y.link z.link p.same q.same;
  more = p.more ++ q.more;
  sent = q.sent ∙ ap (λ l. l ++ q.more) p.sent ∙ append_assoc (sent x.link) p.more q.more;
  due = p.due ∙ ap (λ l. p.more ++ l) q.due ∙ sym (append_assoc p.more q.more z.due);
}

-- sending the frame of the next put on a lane
pub sends_one : (puts : List PutRecord) (x : ALane) (a b : Lane) (put : PutRecord) → Sends x (shown puts a) → a.next < length puts → get_or puts a.next put ≡ put → SameIn a.link b.link → sent b.link ≡ sent a.link ++ encoded put ∷ [] → b.next ≡ a.next + 1 → Sends x (shown puts b)
sends_one puts x a b put p less is same sents next =
    let cut : drop a.next puts ≡ put ∷ drop b.next puts = drop_more puts a.next put less ∙ ap (λ q. q ∷ drop (a.next + 1) puts) is ∙ ap (λ n. put ∷ drop n puts) (sym next) in
    let one : Sends (shown puts a) (shown puts b) = record { same = same; more = encoded put ∷ []; sent = sents; due = ap (λ l. map encoded l) cut } in
    sends_trans x (shown puts a) (shown puts b) p one

pub each_refl : (xs : List ALane) → EachSends xs xs
each_refl [] = tt
each_refl (x ∷ xs) = (sends_refl x, each_refl xs)

pub each_trans : (xs ys zs : List ALane) → EachSends xs ys → EachSends ys zs → EachSends xs zs
each_trans [] [] [] p q = tt
each_trans [] [] (z ∷ zs) p q = absurd q
each_trans [] (y ∷ ys) zs p q = absurd p
each_trans (x ∷ xs) [] zs p q = absurd p
each_trans (x ∷ xs) (y ∷ ys) [] p q = absurd q
each_trans (x ∷ xs) (y ∷ ys) (z ∷ zs) p q = (sends_trans x y z p.0 q.0, each_trans xs ys zs p.1 q.1)

-- sending on one more lane
pub each_set : (xs ys : List ALane) (k : ℕ) (y d : ALane) → k < length ys → EachSends xs ys → Sends (get_or ys k d) y → EachSends xs (set ys k y)
each_set [] [] k y d less p q = absurd (omega (arith, less))
each_set [] (b ∷ ys) k y d less p q = absurd p
each_set (x ∷ xs) [] k y d less p q = absurd p
each_set (x ∷ xs) (b ∷ ys) zero y d less p q = (sends_trans x b y p.0 q, p.1)
each_set (x ∷ xs) (b ∷ ys) (suc k) y d less p q = (p.0, each_set xs ys k y d (omega (arith, less)) p.1 q)

-- sending on one more lane, for lanes that are represented by counters
pub each_shown_set : (puts : List PutRecord) (xs : List ALane) (ls : List Lane) (k : ℕ) (b d : Lane) → k < length ls → EachSends xs (map (shown puts) ls) → Sends (shown puts (get_or ls k d)) (shown puts b) → EachSends xs (map (shown puts) (set ls k b))
each_shown_set puts xs ls k b d less p q =
    let within : k < length (map (shown puts) ls) = omega (arith, less, length-map ls (shown puts)) in
    subst (λ l. EachSends xs l) (sym (map-set (shown puts) ls k b)) (each_set xs (map (shown puts) ls) k (shown puts b) (shown puts d) within p (subst (λ x. Sends x (shown puts b)) (sym (get_or-map (shown puts) ls k d)) q))

-- appending frames that are due commutes with sending
pub and_due_sends : (puts : List PutRecord) (x y : ALane) → Sends x y → Sends (and_due puts x) (and_due puts y)
and_due_sends puts x y p = record {
  same = p.same;
  more = p.more;
  sent = p.sent;
  due = ap (λ l. l ++ map encoded puts) p.due ∙ append_assoc p.more y.due (map encoded puts);
}

pub each_and_due : (puts : List PutRecord) (xs ys : List ALane) → EachSends xs ys → EachSends (map (and_due puts) xs) (map (and_due puts) ys)
each_and_due puts [] [] p = tt
each_and_due puts [] (y ∷ ys) p = absurd p
each_and_due puts (x ∷ xs) [] p = absurd p
each_and_due puts (x ∷ xs) (y ∷ ys) p = (and_due_sends puts x y p.0, each_and_due puts xs ys p.1)

and_due_none : (x : ALane) → and_due [] x ≡ x
and_due_none x = ap (λ l. let r : ALane = record { link = x.link; due = l } in r) (append-nil x.due)

and_due_both : (p q : List PutRecord) (x : ALane) → and_due q (and_due p x) ≡ and_due (p ++ q) x
and_due_both p q x = ap (λ l. let r : ALane = record { link = x.link; due = l } in r) (append_assoc x.due (map encoded p) (map encoded q) ∙ ap (λ l. x.due ++ l) (sym (map-append encoded p q)))

all_none : (xs : List ALane) → map (and_due []) xs ≡ xs
all_none [] = refl
all_none (x ∷ xs) = ap (λ y. y ∷ map (and_due []) xs) (and_due_none x) ∙ ap (λ ys. x ∷ ys) (all_none xs)

all_both : (p q : List PutRecord) (xs : List ALane) → map (and_due q) (map (and_due p) xs) ≡ map (and_due (p ++ q)) xs
all_both p q [] = refl
all_both p q (x ∷ xs) = ap (λ y. y ∷ map (and_due q) (map (and_due p) xs)) (and_due_both p q x) ∙ ap (λ ys. and_due (p ++ q) x ∷ ys) (all_both p q xs)

pub carried_refl : (a : List ALane) → Carried [] a a
carried_refl a = subst (λ l. EachSends l a) (sym (all_none a)) (each_refl a)

pub carried_trans : (p q : List PutRecord) (a b c : List ALane) → Carried p a b → Carried q b c → Carried (p ++ q) a c
carried_trans p q a b c one two =
    subst (λ l. EachSends l c) (all_both p q a) (each_trans (map (and_due q) (map (and_due p) a)) (map (and_due q) b) c (each_and_due q (map (and_due p) a) b one) two)

-- appending puts that are due
pub carried_more : (puts : List PutRecord) (a b : List ALane) → b ≡ map (and_due puts) a → Carried puts a b
carried_more puts a b is = subst (λ l. EachSends (map (and_due puts) a) l) (sym is) (each_refl (map (and_due puts) a))

-- sending some frames
pub carried_sent : (a b : List ALane) → EachSends a b → Carried [] a b
carried_sent a b p = subst (λ l. EachSends l b) (sym (all_none a)) p
