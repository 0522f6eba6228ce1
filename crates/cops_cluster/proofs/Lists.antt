-- The lists that closing a cluster returns.
use Rattle.std.proofs.Common.{◌≡◌, ℕ, ◌+◌, ◌<◌, List, [], ◌∷◌, ◌++◌, length, map, get_or, sym, ◌∙◌, ap, refl, subst, arith, add-zero, append_assoc, append-nil, length-append, below_more}
use Rattle.std.proofs.lemmas.List.{get_or_append_left, get_or_push}
use Rattle.std.specs.Global.{Vec}
use Rattle.cops_node.specs.declared.entry.Entry.{Entry}
use Rattle.cops_node.specs.Book.{ABook}
use Rattle.cops_cluster.specs.Shares.{made}
use Rattle.cops_cluster.specs.Close.{IsReplay, AllReplay, entries_at, made_by, made_in, number_of}

made_in_more : (p k : ℕ) (vs : List (Vec Entry)) (v : Vec Entry) → made_in p k (vs ++ v ∷ []) ≡ made_in p k vs ++ map (made (number_of p (k + length vs))) v.items
made_in_more p k [] v = append-nil (map (made (number_of p k)) v.items) ∙ ap (λ j. map (made (number_of p j)) v.items) (sym (add-zero k))
made_in_more p k (w ∷ ws) v =
    let e : (k + 1) + length ws ≡ k + length (w ∷ ws) = omega arith in
    ap (λ xs. map (made (number_of p k)) w.items ++ xs) (made_in_more p (k + 1) ws v ∙ ap (λ j. made_in p (k + 1) ws ++ map (made (number_of p j)) v.items) e)
    ∙ sym (append_assoc (map (made (number_of p k)) w.items) (made_in p (k + 1) ws) (map (made (number_of p (k + length (w ∷ ws)))) v.items))

made_by_more : (p k : ℕ) (bs : List ABook) (b : ABook) → made_by p k (bs ++ b ∷ []) ≡ made_by p k bs ++ map (made (number_of p (k + length bs))) (entries_at p (k + length bs) b)
made_by_more p k [] b = append-nil (map (made (number_of p k)) (entries_at p k b)) ∙ ap (λ j. map (made (number_of p j)) (entries_at p j b)) (sym (add-zero k))
made_by_more p k (c ∷ cs) b =
    let e : (k + 1) + length cs ≡ k + length (c ∷ cs) = omega arith in
    ap (λ xs. map (made (number_of p k)) (entries_at p k c) ++ xs) (made_by_more p (k + 1) cs b ∙ ap (λ j. made_by p (k + 1) cs ++ map (made (number_of p j)) (entries_at p j b)) e)
    ∙ sym (append_assoc (map (made (number_of p k)) (entries_at p k c)) (made_by p (k + 1) cs) (map (made (number_of p (k + length (c ∷ cs)))) (entries_at p (k + length (c ∷ cs)) b)))

-- appending one more list, of the book at its place
pub lists_more : (p : ℕ) (vs ws : List (Vec Entry)) (v : Vec Entry) (bs : List ABook) (b : ABook) → ws ≡ vs ++ v ∷ [] → length vs ≡ length bs
    → v.items ≡ entries_at p (length vs) b → made_in p 0 vs ≡ made_by p 0 bs → made_in p 0 ws ≡ made_by p 0 (bs ++ b ∷ [])
lists_more p vs ws v bs b now len is before =
    let n : 0 + length vs ≡ 0 + length bs = omega (arith, len) in
    let m : length vs ≡ 0 + length bs = omega (arith, len) in
    ap (λ xs. made_in p 0 xs) now ∙ (made_in_more p 0 vs v
    ∙ (ap (λ xs. xs ++ map (made (number_of p (0 + length vs))) v.items) before
    ∙ (ap (λ es. made_by p 0 bs ++ map (made (number_of p (0 + length vs))) es) (is ∙ ap (λ j. entries_at p j b) m)
    ∙ (ap (λ j. made_by p 0 bs ++ map (made (number_of p j)) (entries_at p (0 + length bs) b)) n ∙ sym (made_by_more p 0 bs b)))))

-- appending one more list that replays
pub replays_more : (p : ℕ) (vs ws : List (Vec Entry)) (v : Vec Entry) → ws ≡ vs ++ v ∷ [] → IsReplay (number_of p (length vs)) v.items → AllReplay p vs → AllReplay p ws
replays_more p vs ws v now here before =
    let Q : List (Vec Entry) → Type 0 = λ xs. AllReplay p xs in
    let P : ℕ → Type 0 = λ k. (d : Vec Entry) → IsReplay (number_of p k) (get_or (vs ++ v ∷ []) k d).items in
    let all : (k : ℕ) → k < length vs + 1 → P k =
    below_more P (length vs)
    (λ k below d. let R : Vec Entry → Type 0 = λ w. IsReplay (number_of p k) w.items in subst R (sym (get_or_append_left vs (v ∷ []) d k below)) (before k d below))
    (λ d. let R : Vec Entry → Type 0 = λ w. IsReplay (number_of p (length vs)) w.items in subst R (sym (get_or_push vs v d (length vs) refl)) here) in
    subst Q (sym now) (λ k d below. all k (omega (arith, length-append vs (v ∷ []))) d)
