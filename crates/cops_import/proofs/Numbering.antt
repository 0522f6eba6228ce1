-- A name keeps its number when others are added.
use Rattle.std.proofs.Common.{◌≡◌, ◌==◌, ◌+◌, ◌<◌, ◌≤◌, ℕ, Bool, true, false, cond, ◌||◌, List, [], ◌∷◌, ◌++◌, length, map, refl, sym, ap, ◌∙◌, inl, inr, arith}
use Rattle.std.specs.Prelude.{not, fold}
use Rattle.std.specs.List.{list_any}
use Rattle.std.proofs.lemmas.Bool.{cases_Bool, ne_eqb}
use Rattle.std.proofs.lemmas.List.Folds.{list_any-append}
use Rattle.std.proofs.lemmas.List.Sums.{fold-append}
use Rattle.std.proofs.lemmas.Slice.Eq.{bytes_eq-Decides}
use Rattle.cops_types.specs.Operations.{operation_of}
use Rattle.cops_trace.specs.Text.{turn}
use Rattle.cops_trace.proofs.Lists.{turn-cons}
use Rattle.cops_import.specs.Lines.{names_of, record_of, records_of}
use Rattle.cops_import.specs.Names.{number_of, same, with_name}
use Rattle.cops_import.specs.declared.reported.LineOp.{LineOp}

same_self : (name : List ℕ) → same name name ≡ true
same_self name = (bytes_eq-Decides name name).1 refl

-- the name is among these
abbrev pub is_among : List (List ℕ) → List ℕ → Bool
is_among names name = list_any (same name) names

among_more : (names : List (List ℕ)) (name other : List ℕ) → is_among names name ≡ true → is_among (names ++ other ∷ []) name ≡ true
among_more names name other h = list_any-append (same name) names (other ∷ []) ∙ ap (λ (b : Bool). b || list_any (same name) (other ∷ [])) h

among_with : (names : List (List ℕ)) (name other : List ℕ) → is_among names name ≡ true → is_among (with_name names other) name ≡ true
among_with names name other h = go (is_among names other)
  where
    go : (there : Bool) → is_among (cond there names (names ++ other ∷ [])) name ≡ true
    go true = h
    go false = among_more names name other h

among_last : (names : List (List ℕ)) (name : List ℕ) → is_among (names ++ name ∷ []) name ≡ true
among_last [] name = ap (λ (b : Bool). b || false) (same_self name)
among_last (n ∷ names) name = elim (cases_Bool (same name n)) [
  | inl p ↦ ap (λ (b : Bool). b || is_among (names ++ name ∷ []) name) p
  | inr p ↦ ap (λ (b : Bool). b || is_among (names ++ name ∷ []) name) p ∙ among_last names name
]

-- a name that was added is among the names
pub among_own : (names : List (List ℕ)) (name : List ℕ) → is_among (with_name names name) name ≡ true
among_own names name = elim (cases_Bool (is_among names name)) [
  | inl p ↦ ap (λ (b : Bool). is_among (cond b names (names ++ name ∷ [])) name) p ∙ p
  | inr p ↦ ap (λ (b : Bool). is_among (cond b names (names ++ name ∷ [])) name) p ∙ among_last names name
]

-- the names after those of these operations were added
abbrev pub names_after : List (List ℕ) → List LineOp → List (List ℕ)
names_after names given = fold (λ ns reported. with_name ns reported.name) names given

among_after : (names : List (List ℕ)) (given : List LineOp) (name : List ℕ) → is_among names name ≡ true → is_among (names_after names given) name ≡ true
among_after names [] name h = h
among_after names (t ∷ given) name h = among_after (with_name names t.name) given name (among_with names name t.name h)

number_before : (names : List (List ℕ)) (name other : List ℕ) → is_among names name ≡ true → number_of (names ++ other ∷ []) name ≡ number_of names name
number_before [] name other h = absurd cc
number_before (n ∷ names) name other h = elim (cases_Bool (same name n)) [
  | inl p ↦ ap (λ (b : Bool). cond (not b) (1 + number_of (names ++ other ∷ []) name) 0) p ∙ sym (ap (λ (b : Bool). cond (not b) (1 + number_of names name) 0) p)
  | inr p ↦
      let rest : is_among names name ≡ true = sym (ap (λ (b : Bool). b || is_among names name) p) ∙ h in
      ap (λ (b : Bool). cond (not b) (1 + number_of (names ++ other ∷ []) name) 0) p ∙ ap (λ (k : ℕ). 1 + k) (number_before names name other rest)
      ∙ sym (ap (λ (b : Bool). cond (not b) (1 + number_of names name) 0) p)
]

number_with : (names : List (List ℕ)) (name other : List ℕ) → is_among names name ≡ true → number_of (with_name names other) name ≡ number_of names name
number_with names name other h = go (is_among names other)
  where
    go : (there : Bool) → number_of (cond there names (names ++ other ∷ [])) name ≡ number_of names name
    go true = refl
    go false = number_before names name other h

-- records keep their clients
pub records_kept : (names : List (List ℕ)) (given : List LineOp) (other : List ℕ)
    → map (record_of (with_name (names_after names given) other)) given ≡ map (record_of (names_after names given)) given
records_kept names [] other = refl
records_kept names (t ∷ given) other =
    let all = names_after (with_name names t.name) given in
    let there : is_among all t.name ≡ true = among_after (with_name names t.name) given t.name (among_own names t.name) in
    let client = number_with all t.name other there in
    let rest = records_kept (with_name names t.name) given other in
    ap (λ (k : ℕ). record { client = k; op = operation_of t.op } ∷ map (record_of (with_name all other)) given) client ∙ ap (λ (rs : List _). record_of all t ∷ rs) rest

-- a new name's number is its index at the end
number_last : (names : List (List ℕ)) (name : List ℕ) → is_among names name ≡ false → number_of (names ++ name ∷ []) name ≡ number_of names name
number_last [] name h = ap (λ (b : Bool). cond (not b) (1 + 0) 0) (same_self name)
number_last (n ∷ names) name h = elim (cases_Bool (same name n)) [
  | inl p ↦ absurd (let e : is_among (n ∷ names) name ≡ true = ap (λ (b : Bool). b || is_among names name) p in cc)
  | inr p ↦
      let rest : is_among names name ≡ false = sym (ap (λ (b : Bool). b || is_among names name) p) ∙ h in
      ap (λ (b : Bool). cond (not b) (1 + number_of (names ++ name ∷ []) name) 0) p ∙ ap (λ (k : ℕ). 1 + k) (number_last names name rest)
      ∙ sym (ap (λ (b : Bool). cond (not b) (1 + number_of names name) 0) p)
]

pub number_own : (names : List (List ℕ)) (name : List ℕ) → number_of (with_name names name) name ≡ number_of names name
number_own names name = elim (cases_Bool (is_among names name)) [
  | inl p ↦ ap (λ (b : Bool). number_of (cond b names (names ++ name ∷ [])) name) p
  | inr p ↦ ap (λ (b : Bool). number_of (cond b names (names ++ name ∷ [])) name) p ∙ number_last names name p
]

pub names_more : (given : List LineOp) (reported : LineOp) → names_of (given ++ reported ∷ []) ≡ with_name (names_of given) reported.name
names_more given reported = fold-append (λ (ns : List (List ℕ)) (t : LineOp). with_name ns t.name) [] given (reported ∷ [])

-- a number of a name among the names is below their number
number_within : (names : List (List ℕ)) (name : List ℕ) → is_among names name ≡ true → number_of names name < length names
number_within [] name h = absurd cc
number_within (n ∷ names) name h = elim (cases_Bool (same name n)) [
  | inl p ↦ let zero : number_of (n ∷ names) name ≡ 0 = ap (λ (b : Bool). cond (not b) (1 + number_of names name) 0) p in omega (arith, zero)
  | inr p ↦
      let rest : is_among names name ≡ true = sym (ap (λ (b : Bool). b || is_among names name) p) ∙ h in
      let next : number_of (n ∷ names) name ≡ 1 + number_of names name = ap (λ (b : Bool). cond (not b) (1 + number_of names name) 0) p in
      omega (arith, next, number_within names name rest)
]

-- a client without a name has no record
named_turn : (names : List (List ℕ)) (ops : List LineOp) (client : ℕ) → length (names_after names ops) ≤ client → turn client (map (record_of (names_after names ops)) ops) ≡ 0
named_turn names [] client h = refl
named_turn names (t ∷ ops) client h =
    let all = names_after (with_name names t.name) ops in
    let there : is_among all t.name ≡ true = among_after (with_name names t.name) ops t.name (among_own names t.name) in
    let other : (number_of all t.name == client) ≡ false = ne_eqb (number_of all t.name) client (omega (arith, number_within all t.name there, h)) in
    let none : cond {A = ℕ} (number_of all t.name == client) 1 0 ≡ 0 = ap (λ (b : Bool). cond {A = ℕ} b 1 0) other in
    omega (arith, turn-cons client (record_of all t) (map (record_of all) ops), none, named_turn (with_name names t.name) ops client h)

pub no_name_turn : (ops : List LineOp) (client : ℕ) → length (names_of ops) ≤ client → turn client (records_of ops) ≡ 0
no_name_turn ops client h = named_turn [] ops client h
