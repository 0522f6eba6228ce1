-- The clients that a cluster is opened with.
use Rattle.std.proofs.Common.{◌≡◌, ℕ, ◌+◌, ◌<◌, List, [], ◌∷◌, ◌++◌, length, get_or, slice_index_or, sym, subst, arith, length-append, below_more}
use Rattle.std.proofs.lemmas.List.{get_or_append_left, get_or_push}
use Rattle.cops_cluster.specs.declared.client.Client.{Client}
use Rattle.cops_cluster.specs.declared.share.Holder.TheVariants.{Client as OfClient}
use Rattle.cops_cluster.specs.Opening.{AreClientsAt}

-- a property that n clients have by their places also holds of one more
each_more : (P : ℕ → Client → Type 0) (n : ℕ) (cs : List Client) (x : Client) → length cs ≡ n → ((k : ℕ) (d : Client) → k < n → P k (get_or cs k d)) → P n x
    → (k : ℕ) (d : Client) → k < n + 1 → P k (get_or (cs ++ x ∷ []) k d)
each_more P n cs x len before here = λ k d less.
    let all : (k : ℕ) → k < n + 1 → (d : Client) → P k (get_or (cs ++ x ∷ []) k d) =
    below_more (λ k. (d : Client) → P k (get_or (cs ++ x ∷ []) k d)) n
    (λ k below d. subst (P k) (sym (get_or_append_left cs (x ∷ []) d k (omega (arith, len, below)))) (before k d below))
    (λ d. subst (P n) (sym (get_or_push cs x d n len)) here) in
    all k less d

-- appending a client with its number and its data centre, whose context and share are empty
pub clients_more : (dcs : List ℕ) (n : ℕ) (cs after : List Client) (x : Client) → after ≡ cs ++ x ∷ [] → x.number ≡ n → x.dc ≡ slice_index_or dcs n 0
    → x.context.pairs ≡ [] → x.share.holder ≡ OfClient n → x.share.entries.items ≡ [] → AreClientsAt dcs n cs → AreClientsAt dcs (n + 1) after
clients_more dcs n cs after x now number dc context holder entries (len, numbers, places, contexts, holders, shares) =
    let all : AreClientsAt dcs (n + 1) (cs ++ x ∷ []) = (
      omega (arith, len, length-append cs (x ∷ [])),
      each_more (λ k c. c.number ≡ k) n cs x len numbers number,
      each_more (λ k c. c.dc ≡ slice_index_or dcs k 0) n cs x len places dc,
      each_more (λ k c. c.context.pairs ≡ []) n cs x len contexts context,
      each_more (λ k c. c.share.holder ≡ OfClient k) n cs x len holders holder,
      each_more (λ k c. c.share.entries.items ≡ []) n cs x len shares entries,
    ) in
    subst (λ (l : List Client). AreClientsAt dcs (n + 1) l) (sym now) all
