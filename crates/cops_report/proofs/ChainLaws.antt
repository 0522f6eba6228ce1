-- Laws of chains: there is one that is first, and a chain is evidence of the past.
use Rattle.std.proofs.Common.{◌≡◌, ◌≤◌, List, [], ◌∷◌, length, refl, sym, ap₂, subst, arith, inl, inr}
use Rattle.cops_types.specs.declared.op.OpName.{OpName}
use Rattle.cops_types.specs.Histories.{Sessions}
use Rattle.cops_types.specs.Past.{Past, step, more}
use Rattle.cops_report.specs.Chains.{ComesFirst, IsChain, IsFirstChain, LeadsTo}

-- of two lists one comes first
both_first : (xs ys : List OpName) → length xs ≡ length ys → ComesFirst xs ys → ComesFirst ys xs → xs ≡ ys
both_first [] [] e p q = refl
both_first [] (b ∷ ys) e p q = absurd (omega arith)
both_first (a ∷ xs) [] e p q = absurd (omega arith)
both_first (a ∷ xs) (b ∷ ys) e (inl p) q = absurd (grind arith)
both_first (a ∷ xs) (b ∷ ys) e (inr p) (inl q) = absurd (grind arith)
both_first (a ∷ xs) (b ∷ ys) e (inr p) (inr q) = ap₂ (λ (x : OpName) (xs : List OpName). x ∷ xs) p.0 (both_first xs ys (omega arith) p.1 q.1)

pub one_first : (h : Sessions) (from to : OpName) (a b : List OpName) → IsFirstChain h from to a → IsFirstChain h from to b → a ≡ b
one_first h from to a b p q =
    let same : length a ≡ length b = omega (arith, p.shortest b q.chain, q.shortest a p.chain) in
    both_first a b same (p.first b q.chain (sym same)) (q.first a p.chain same)

pub evidence : (h : Sessions) (from to : OpName) (names : List OpName) → IsChain h from to names → 2 ≤ length names → Past h from to
evidence h from to [] c two = absurd c
evidence h from to (a ∷ []) c two = absurd (omega arith)
evidence h from to (a ∷ b ∷ rest) c two = subst (λ (x : OpName). Past h x to) c.0 (go rest a b (step c.2.0) c.2.1)
  where
    go : (rest : List OpName) (a b : OpName) → Past h a b → LeadsTo h to b rest → Past h a to
    go [] a b past leads = subst (Past h a) leads past
    go (n ∷ rest) a b past leads = go rest a n (more past leads.0) leads.1
