-- What a finished search says about chains.
use Rattle.std.proofs.Common.{◌≡◌, ◌≢◌, ◌∙◌, ◌+◌, ◌<◌, ◌≤◌, ◌⊎◌, ℕ, List, [], ◌∷◌, ◌++◌, length, Some, None, refl, sym, ap, subst, arith, inl, inr, append_assoc}
use Rattle.std.proofs.lemmas.Bool.{cases_lt}
use Rattle.std.proofs.lemmas.List.{append-nil}
use Rattle.cops_types.specs.declared.op.OpName.{OpName}
use Rattle.cops_types.specs.Histories.{Sessions, IsNamed}
use Rattle.cops_types.specs.Past.{Step, Past, step, more}
use Rattle.cops_types.specs.Faults.{IsBefore}
use Rattle.cops_report.specs.declared.marks.Mark.{Mark}
use Rattle.cops_report.specs.Marks.{Table, IsMarked, mark_at}
use Rattle.cops_report.specs.Chains.{ComesFirst, HasNoChain, IsChain, IsFirstChain, LeadsTo}
use Rattle.cops_report.specs.Searches.{Follows, HasSteps, IsFound, IsSearch, IsWalk, LeadsBack}
use Rattle.cops_report.proofs.SearchLemmas.{one_steps}
use Rattle.cops_report.proofs.StepLemmas.{first_named}

-- a name from which k steps lead to the end has at most k steps, as far as the search has gone, or without limit where all that is marked has fewer steps
reaches : (h : Sessions) (to : OpName) (t : Table) (d : ℕ) → IsSearch h to t d [] → (rest : List OpName) (a : OpName) → LeadsTo h to a rest
    → length rest ≤ d ⊎ ((n : OpName) (k : ℕ) → HasSteps t n k → k < d) → (j : ℕ) × HasSteps t a j × (j ≤ length rest)
reaches h to t d i [] a leads why = (0, subst (λ (x : OpName). HasSteps t x 0) (sym leads) i.root, omega arith)
reaches h to t d i (b ∷ rest) a leads why =
    let on = reaches h to t d i rest b leads.1 (elim why [ inl le ↦ inl (omega arith) | inr low ↦ inr low ]) in
    let below : on.0 < d = elim why [ inl le ↦ omega (arith, on.2) | inr low ↦ low b on.0 on.1 ] in
    let more = i.near a b on.0 on.1 (omega arith) (λ e. absurd (omega arith)) leads.0 in
    (more.0, more.1, omega (arith, more.2, on.2))

-- where the search has ended, all such names are marked
reaches_all : (h : Sessions) (to : OpName) (t : Table) (d : ℕ) → IsSearch h to t d [] → ((n : OpName) → ¬ HasSteps t n (d + 1)) → ((n : OpName) → ¬ HasSteps t n d)
    → (rest : List OpName) (a : OpName) → LeadsTo h to a rest → IsMarked t a
reaches_all h to t d i fresh empty rest a leads = (let r = reaches h to t d i rest a leads (inr low) in (r.1.0, r.1.1))
  where
    low : (n : OpName) (k : ℕ) → HasSteps t n k → k < d
    low n k has =
        let below : k ≢ d = λ e. empty n (subst (HasSteps t n) e has) in
        let top : k ≢ d + 1 = λ e. fresh n (subst (HasSteps t n) e has) in
        omega (arith, i.bound n k has)

-- the names that follow along the marks are a chain, with as many steps as the first mark says
follows_leads : (h : Sessions) (to : OpName) (t : Table) (d : ℕ) → IsSearch h to t d [] → (rest : List OpName) (a : OpName) → Follows t to a rest → LeadsTo h to a rest × HasSteps t a (length rest)
follows_leads h to t d i [] a f = (f, subst (λ (x : OpName). HasSteps t x 0) (sym f) i.root)
follows_leads h to t d i (b ∷ rest) a f =
    let on = follows_leads h to t d i rest b f.1 in
    let m = f.0.0 in
    let st = i.step a m f.0.1 f.0.2 f.0.3 in
    let next : m.next ≡ b = f.0.4 in
    let same : f.0.1 ≡ length rest = one_steps t b f.0.1 (length rest) (subst (λ (x : OpName). HasSteps t x f.0.1) next st.1) on.1 in
    let count : m.steps ≡ length (b ∷ rest) = omega (arith, f.0.3) in
    ((subst (Step h a) next st.0, on.0), (m, f.0.2, count))

-- and it is the first of those with the same length
follows_first : (h : Sessions) (to : OpName) (t : Table) (d : ℕ) → IsSearch h to t d [] → (rest : List OpName) (a : OpName) → Follows t to a rest → length rest ≤ d
    → (others : List OpName) → LeadsTo h to a others → length others ≡ length rest → ComesFirst rest others
follows_first h to t d i [] a f le others leads same = tt
follows_first h to t d i (b ∷ rest) a f le [] leads same = absurd (omega arith)
follows_first h to t d i (b ∷ rest) a f le (c ∷ others) leads same =
    let k = length rest in
    let low : k < d = omega arith in
    let short : length others ≡ k = omega arith in
    let own = (follows_leads h to t d i (b ∷ rest) a f).1 in
    let on = reaches h to t d i others c leads.1 (inl (omega arith)) in
    let below : on.0 < d = omega (arith, on.2) in
    let more = i.near a c on.0 on.1 (omega arith) (λ e. absurd (omega arith)) leads.0 in
    let is : more.0 ≡ length (b ∷ rest) = one_steps t a more.0 (length (b ∷ rest)) more.1 own in
    let there : on.0 ≡ k = omega (arith, more.2, on.2) in
    let m = f.0.0 in
    let next : m.next ≡ b = f.0.4 in
    let count : f.0.1 ≡ k = (let e : m.steps ≡ length (b ∷ rest) = one_steps t a m.steps (length (b ∷ rest)) (m, f.0.2, refl) own in omega (arith, f.0.3)) in
    let steps : m.steps ≡ k + 1 = omega (arith, f.0.3) in
    let first = i.first a c m k f.0.2 steps (subst (HasSteps t c) there on.1) leads.0 in
    elim first [
      | inl before ↦ inl (subst (λ (x : OpName). IsBefore x c) next before)
      | inr e ↦
          let bc : b ≡ c = sym next ∙ e in
          inr (bc, follows_first h to t d i rest b f.1 (omega arith) others (subst (λ (x : OpName). LeadsTo h to x others) (sym bc) leads.1) short)
    ]

-- ---- the answers

pub first_chain : (h : Sessions) (from to : OpName) (t : Table) → IsFound h from to t → IsNamed h from → (names : List OpName) → IsWalk t to from names → IsFirstChain h from to names
first_chain h from to t found named [] walk = absurd walk
first_chain h from to t found named (n ∷ rest) walk = record {
  chain = (walk.0, subst (IsNamed h) (sym walk.0) named, leads.0);
  shortest = shortest;
  first = first;
}
  where
    i : IsSearch h to t found.depth []
    i = found.search

    leads : LeadsTo h to n rest × HasSteps t n (length rest)
    leads = follows_leads h to t found.depth i rest n walk.1

    near : length rest ≤ found.depth
    near =
        let top : length rest ≢ found.depth + 1 = λ e. found.fresh n (subst (HasSteps t n) e leads.1) in
        omega (arith, i.bound n (length rest) leads.1)

    at_n : (m : OpName) (others : List OpName) → m ≡ from → LeadsTo h to m others → LeadsTo h to n others
    at_n m others is l = subst (λ (x : OpName). LeadsTo h to x others) (is ∙ sym walk.0) l

    shortest : (others : List OpName) → IsChain h from to others → length (n ∷ rest) ≤ length others
    shortest [] c = absurd c
    shortest (m ∷ others) c = elim (cases_lt (length others) (length rest)) [
      | inl lt ↦
          let r = reaches h to t found.depth i others n (at_n m others c.0 c.2) (inl (omega (arith, near))) in
          let same = one_steps t n r.0 (length rest) r.1 leads.1 in
          absurd (omega (arith, r.2, same))
      | inr ge ↦ omega arith
    ]

    first : (others : List OpName) → IsChain h from to others → length others ≡ length (n ∷ rest) → ComesFirst (n ∷ rest) others
    first [] c same = absurd c
    first (m ∷ others) c same = inr (walk.0 ∙ sym c.0, follows_first h to t found.depth i rest n walk.1 near others (at_n m others c.0 c.2) (omega arith))

pub no_chain : (h : Sessions) (from to : OpName) (t : Table) → IsFound h from to t → mark_at t from ≡ None → HasNoChain h from to
no_chain h from to t found none [] c = c
no_chain h from to t found none (n ∷ rest) c =
    let leads : LeadsTo h to from rest = subst (λ (x : OpName). LeadsTo h to x rest) c.0 c.2 in
    let unmarked : (m : Mark) → ¬ (mark_at t from ≡ Some m) = λ m e. cc in
    elim found.ends [
      | inl m ↦ unmarked m.0 m.1
      | inr empty ↦ (let m = reaches_all h to t found.depth found.search found.fresh empty rest from leads in unmarked m.0 m.1)
    ]

-- ---- walking

-- a chain is of names of the history
pub chain_names : (h : Sessions) (from to : OpName) (names : List OpName) → IsChain h from to names → IsNamed h from × IsNamed h to
chain_names h from to [] c = absurd c
chain_names h from to (n ∷ rest) c = (subst (IsNamed h) c.0 c.1, go rest n c.1 c.2)
  where
    on : (a b : OpName) → Step h a b → IsNamed h b
    on a b (inl session) = session.is_there
    on a b (inr source) = (_, source.got)

    go : (rest : List OpName) (a : OpName) → IsNamed h a → LeadsTo h to a rest → IsNamed h to
    go [] a named leads = subst (IsNamed h) leads named
    go (b ∷ rest) a named leads = go rest b (on a b leads.0) leads.1

pub leads_back : (h : Sessions) (to : OpName) (t : Table) (d : ℕ) → IsSearch h to t d [] → LeadsBack t to
leads_back h to t d i = record { root = i.only_root; next = λ n m k e count. (i.step n m k e count).1 }

-- one more name of a walk
pub walk_more : (t : Table) (from to : OpName) (names grown : List OpName) (n : OpName) (m : Mark) (k : ℕ) → mark_at t n ≡ Some m → m.steps ≡ k + 1 → grown ≡ names ++ m.next ∷ []
    → ((rest : List OpName) → Follows t to n rest → IsWalk t to from (names ++ rest)) → (rest : List OpName) → Follows t to m.next rest → IsWalk t to from (grown ++ rest)
walk_more t from to names grown n m k e count is so_far rest f =
    let same : grown ++ rest ≡ names ++ (m.next ∷ rest) = ap (λ (xs : List OpName). xs ++ rest) is ∙ append_assoc names (m.next ∷ []) rest in
    subst (IsWalk t to from) (sym same) (so_far (m.next ∷ rest) ((m, k, e, count, refl), f))

pub walk_end : (t : Table) (from to : OpName) (names : List OpName) (n : OpName) → n ≡ to → ((rest : List OpName) → Follows t to n rest → IsWalk t to from (names ++ rest)) → IsWalk t to from names
walk_end t from to names n is so_far = subst (IsWalk t to from) (append-nil names) (so_far [] is)

-- one step more at the end
leads_more : (h : Sessions) (by to : OpName) (rest : List OpName) (a : OpName) → LeadsTo h by a rest → Step h by to → LeadsTo h to a (rest ++ to ∷ [])
leads_more h by to [] a leads st = (subst (λ (x : OpName). Step h x to) (sym leads) st, refl)
leads_more h by to (b ∷ rest) a leads st = (leads.0, leads_more h by to rest b leads.1 st)

-- steps that lead to a name are a chain
pub past_chain : (h : Sessions) (a b : OpName) → Past h a b → (names : List OpName) × IsChain h a b names
past_chain h a b past = (let r = go b past in (a ∷ r.0, (refl, r.1.0, r.1.1)))
  where
    from : (b : OpName) → Step h a b → IsNamed h a
    from b (inl session) = first_named h a b session
    from b (inr source) = (_, source.put)

    go : (b : OpName) → Past h a b → (rest : List OpName) × (IsNamed h a × LeadsTo h b a rest)
    go b (step st) = (b ∷ [], (from b st, (st, refl)))
    go b (more {by} p st) = (let r = go by p in (r.0 ++ b ∷ [], (r.1.0, leads_more h by b r.0 a r.1.1 st)))
