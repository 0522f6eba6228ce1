-- Steps, one by one.
use Rattle.std.proofs.Common.{◌≡◌, ◌∙◌, ◌+◌, ◌<◌, ◌≤◌, ℕ, Bool, true, false, List, [], ◌∷◌, ◌++◌, length, drop, get_or, refl, sym, ap, append_assoc, add-one, drop-cons, eqb}
use Rattle.std.specs.Prelude.{◌==◌, if◌then◌else◌}
use Rattle.std.proofs.lemmas.Bool.{eqb-true}
use Rattle.std.proofs.lemmas.List.{append-nil, drop_all}
use Rattle.cops_types.specs.declared.op.OpName.{OpName}
use Rattle.cops_types.specs.Histories.{Sessions}
use Rattle.cops_report.specs.Chains.{IsChain, LeadsTo}
use Rattle.cops_explain.specs.Naming.{ANamedHistory}
use Rattle.cops_explain.specs.Steps.{known_by, step_line, step_lines}

next : (names : List OpName) (i : ℕ) (d : OpName) → i < length names → drop i names ≡ get_or names i d ∷ drop (i + 1) names
next names i d inside = rw add-one (drop-cons names i d inside)

-- the line of one more step
pub step_more : (h : ANamedHistory) (names : List OpName) (i : ℕ) (d from : OpName) (whole old new : List ℕ) → i < length names → new ≡ old ++ step_line h from (get_or names i d)
    → whole ≡ old ++ step_lines h from (drop i names) → whole ≡ new ++ step_lines h (get_or names i d) (drop (i + 1) names)
step_more h names i d from whole old new inside line all =
    let to = get_or names i d in
    let rest = step_lines h to (drop (i + 1) names) in
    all
    ∙ ap (λ (ns : List OpName). old ++ step_lines h from ns) (next names i d inside)
    ∙ sym (append_assoc old (step_line h from to) rest)
    ∙ ap (λ (t : List ℕ). t ++ rest) (sym line)

-- no more steps
pub steps_end : (h : ANamedHistory) (names : List OpName) (i : ℕ) (from : OpName) (whole old : List ℕ) → length names ≤ i → whole ≡ old ++ step_lines h from (drop i names) → old ≡ whole
steps_end h names i from whole old past all = sym (all ∙ ap (λ (ns : List OpName). old ++ step_lines h from ns) (drop_all i names past) ∙ append-nil old)

entry_client : (a b : OpName) → (if a.client == b.client then a else b).client ≡ b.client
entry_client a b = go (eqb a.client b.client) refl
  where
    go : (same : Bool) → eqb a.client b.client ≡ same → (if a.client == b.client then a else b).client ≡ b.client
    go true e = rw e (eqb-true _ _ e)
    go false e = rw e refl

-- where names lead from an operation of the client of `at` to `to`, `known_by` gives an operation of the client of `to`
led : (h : Sessions) (to at from : OpName) (names : List OpName) → at.client ≡ from.client → LeadsTo h to from names → (known_by at names).client ≡ to.client
led h to at from [] same leads = same ∙ ap (λ (n : OpName). n.client) leads
led h to at from (next ∷ names) same leads = led h to (if at.client == next.client then at else next) next names (entry_client at next) leads.1

-- the operation by which the client of a chain's last operation came to know of its first one is of that client
pub known_of_client : (h : Sessions) (newer op : OpName) (chain : List OpName) → IsChain h newer op chain → (known_by newer chain).client ≡ op.client
known_of_client h newer op [] chain = absurd chain
known_of_client h newer op (name ∷ names) chain = led h op (if newer.client == name.client then newer else name) name names (entry_client newer name) chain.2
