use Rattle.std.proofs.Common.{◌≡◌, ◌<◌, ◌+◌, ℕ, suc, List, [], ◌∷◌, Bool, true, false, length, slice_index_or, ltb, refl, ap₂, subst, arith}
use Rattle.std.proofs.lemmas.Bool.{ltb-true, ltb-false}
use Rattle.cops_types.specs.Histories.{Sessions, Operation}
use Rattle.cops_tie.proofs.tying.is_same.Goals as goal

abbrev SameAt : Sessions → Sessions → ℕ → Type 0
SameAt one other k = slice_index_or one k [] ≡ slice_index_or other k []

one_more : (one other : Sessions) (n : ℕ) → ((k : ℕ) → k < n → SameAt one other k) → SameAt one other n → (k : ℕ) → k < n + 1 → SameAt one other k
one_more one other n h e k less = go (ltb k n) refl
  where
    go : (b : Bool) → ltb k n ≡ b → SameAt one other k
    go true t = h k (ltb-true k n t)
    go false f = subst (SameAt one other) (let same : n ≡ k = omega (arith, ltb-false k n f, less) in same) e

all_same : (one other : Sessions) → length one ≡ length other → ((k : ℕ) → k < length one → SameAt one other k) → one ≡ other
all_same [] [] e h = refl
all_same [] (y ∷ ys) e h = absurd (omega (arith, e))
all_same (x ∷ xs) [] e h = absurd (omega (arith, e))
all_same (x ∷ xs) (y ∷ ys) e h = ap₂ (λ (a : List Operation) (b : Sessions). a ∷ b) (h 0 (omega arith)) (all_same xs ys (omega (arith, e)) (λ k less. h (suc k) (omega (arith, less))))

pub loop-client-preserved : goal.loop-client-preserved
loop-client-preserved c = one_more c.args.one.now.sessions c.args.other.now.sessions c.loop-client.client c.loop-client.invariant (c.is_same_session.ensures.0 c.if-not-is_same_session.false)

pub returns : goal.returns
returns c = (
  λ t. all_same c.args.one.now.sessions c.args.other.now.sessions (omega (arith, c.if-clients.false, c.clients.ensures.count, c.clients-2.ensures.count)) (λ k less. c.loop-client.invariant k (omega (arith, less, c.loop-client-test.false, c.clients-client-end.ensures.count))),
  λ e. refl,
)
