-- The names of a history's operations, session by session.
use Rattle.std.proofs.Common.{◌≡◌, ◌<◌, ◌≤◌, ◌+◌, ◌-◌, ℕ, zero, suc, List, [], ◌∷◌, ◌++◌, length, drop, take, refl, sym, ◌∙◌, ap, subst, inl, inr, arith, slice_index_or, Contains, AllPairs, length-append}
use Rattle.std.proofs.Math.Nat.{eq-or-lt_of_le}
use Rattle.std.proofs.lemmas.List.{drop_more}
use Rattle.std.proofs.lemmas.List.Sums.{sum_by-cons}
use Rattle.std.proofs.lemmas.List.Elements.{Contains-append_cases, Contains-append_left, Contains-append_right, Contains-get_or}
use Rattle.std.proofs.lemmas.List.Kept.{AllPairs-cons}
use Rattle.cops_types.specs.Counts.{count_of}
use Rattle.cops_types.specs.declared.op.OpName.{OpName}
use Rattle.cops_types.specs.Histories.{Operation, Sessions, IsNamed}
use Rattle.cops_types.specs.Faults.{IsBefore, Lists}
use Rattle.cops_audit.specs.Names.{names_after, names_from, names_of, session_names}
use Rattle.cops_audit.proofs.Acyclic.{same_name}
use Rattle.cops_audit.proofs.Listing.{first_or_later, later, named_index, slice_get_there}

-- the first operations of a session, dropped
pub drop_session : (client index n : ℕ) (ops : List Operation) (rest : List OpName) → n ≤ length ops → drop n (session_names client index ops ++ rest) ≡ session_names client (index + n) (drop n ops) ++ rest
drop_session client index zero ops rest le = ap (λ (i : ℕ). session_names client i ops ++ rest) (omega arith)
drop_session client index (suc n) [] rest le = absurd (omega (arith, le))
drop_session client index (suc n) (op ∷ ops) rest le = drop_session client (index + 1) n ops rest (omega (arith, le)) ∙ ap (λ (i : ℕ). session_names client i (drop n ops) ++ rest) (omega arith)

-- a whole session, dropped
pub drop_whole : (client index n : ℕ) (ops : List Operation) (rest : List OpName) → length ops ≤ n → drop n (session_names client index ops ++ rest) ≡ drop (n - length ops) rest
drop_whole client index n [] rest le = ap (λ (k : ℕ). drop k rest) (omega arith)
drop_whole client index zero (op ∷ ops) rest le = absurd (omega (arith, le))
drop_whole client index (suc n) (op ∷ ops) rest le = drop_whole client (index + 1) n ops rest (omega (arith, le)) ∙ ap (λ (k : ℕ). drop k rest) (omega arith)

-- the names from a place on, in the session where it is and in those after it
pub names_at : (h : Sessions) (client index : ℕ) → client < length h → index ≤ length (slice_index_or h client []) → drop index (names_from client (drop client h)) ≡ names_after h client index
names_at h client index less le =
    let s = slice_index_or h client [] in
    ap (λ ss. drop index (names_from client ss)) (drop_more h client [] less) ∙ drop_session client 0 index s (names_from (client + 1) (drop (client + 1) h)) le
    ∙ ap (λ (i : ℕ). session_names client i (drop index s) ++ names_from (client + 1) (drop (client + 1) h)) (omega arith)

pub names_past : (h : Sessions) (client index : ℕ) → client < length h → length (slice_index_or h client []) ≤ index
    → drop index (names_from client (drop client h)) ≡ drop (index - length (slice_index_or h client [])) (names_from (client + 1) (drop (client + 1) h))
names_past h client index less le =
    ap (λ ss. drop index (names_from client ss)) (drop_more h client [] less) ∙ drop_whole client 0 index (slice_index_or h client []) (names_from (client + 1) (drop (client + 1) h)) le

-- the first of the names from an operation on is its own
pub names_first : (h : Sessions) (client index : ℕ) → index < length (slice_index_or h client []) → names_after h client index ≡ record { client = client; index = index } ∷ names_after h client (index + 1)
names_first h client index less = ap (λ s. session_names client index s ++ names_from (client + 1) (drop (client + 1) h)) (drop_more (slice_index_or h client []) index (slice_get_there (slice_index_or h client []) index less).0 less)

pub take_first : {A : Type 0} (n : ℕ) (x : A) (xs : List A) → 0 < n → take n (x ∷ xs) ≡ x ∷ take (n - 1) xs
take_first zero x xs some = absurd (omega (arith, some))
take_first (suc n) x xs some = ap (λ (k : ℕ). x ∷ take k xs) (omega arith)

session_count : (client index : ℕ) (ops : List Operation) → length (session_names client index ops) ≡ length ops
session_count client index [] = refl
session_count client index (op ∷ ops) = omega (arith, session_count client (index + 1) ops)

sessions_count : (client : ℕ) (ss : Sessions) → length (names_from client ss) ≡ count_of ss
sessions_count client [] = refl
sessions_count client (s ∷ ss) =
    length-append (session_names client 0 s) (names_from (client + 1) ss) ∙ ap (λ (n : ℕ). n + length (names_from (client + 1) ss)) (session_count client 0 s)
    ∙ ap (λ (n : ℕ). length s + n) (sessions_count (client + 1) ss) ∙ sym (sum_by-cons (length {A = Operation}) s ss)

-- a history has as many names as operations
pub names_count : (h : Sessions) → length (names_of h) ≡ count_of h
names_count h = sessions_count 0 h

-- the names of a session are its client's, with its indexes
in_session : (client index : ℕ) (ops : List Operation) (m : OpName) → Contains (session_names client index ops) m → (m.client ≡ client) × (index ≤ m.index) × (m.index < index + length ops)
in_session client index [] m (k, less, e) = absurd (omega (arith, less))
in_session client index (op ∷ ops) m at = elim (first_or_later _ _ m at) [
  | inl e ↦ (ap (λ (n : OpName). n.client) (sym e), omega (arith, ap (λ (n : OpName). n.index) e), omega (arith, ap (λ (n : OpName). n.index) e))
  | inr there ↦ let l = in_session client (index + 1) ops m there in (l.0, omega (arith, l.1), omega (arith, l.2))
]

session_has : (client index : ℕ) (ops : List Operation) (m : OpName) → m.client ≡ client → index ≤ m.index → m.index < index + length ops → Contains (session_names client index ops) m
session_has client index [] m same low high = absurd (omega (arith, low, high))
session_has client index (op ∷ ops) m same low high = elim (eq-or-lt_of_le low) [
  | inl e ↦ (0, omega arith, same_name (record { client = client; index = index }) m (sym same) e)
  | inr less ↦ later _ _ m (session_has client (index + 1) ops m same (omega (arith, less)) (omega (arith, high)))
]

-- the names of some sessions are those of their operations
in_sessions : (client : ℕ) (ss : Sessions) (m : OpName) → Contains (names_from client ss) m → (k : ℕ) × (m.client ≡ client + k) × (m.index < length (slice_index_or ss k []))
in_sessions client [] m (k, less, e) = absurd (omega (arith, less))
in_sessions client (s ∷ ss) m at = elim (Contains-append_cases (session_names client 0 s) (names_from (client + 1) ss) m at) [
  | inl here ↦ let l = in_session client 0 s m here in (0, omega (arith, l.0), omega (arith, l.2))
  | inr there ↦ let l = in_sessions (client + 1) ss m there in (suc l.0, omega (arith, l.1), l.2)
]

sessions_have : (client k : ℕ) (ss : Sessions) (m : OpName) → m.client ≡ client + k → m.index < length (slice_index_or ss k []) → Contains (names_from client ss) m
sessions_have client zero [] m same inside = absurd (omega (arith, inside))
sessions_have client (suc k) [] m same inside = absurd (omega (arith, inside))
sessions_have client zero (s ∷ ss) m same inside = Contains-append_left (session_names client 0 s) (names_from (client + 1) ss) m (session_has client 0 s m (omega (arith, same)) (omega arith) (omega (arith, inside)))
sessions_have client (suc k) (s ∷ ss) m same inside = Contains-append_right (session_names client 0 s) (names_from (client + 1) ss) m (sessions_have (client + 1) k ss m (omega (arith, same)) inside)

session_in_order : (client index : ℕ) (ops : List Operation) (rest : List OpName) → ((m : OpName) → Contains rest m → client < m.client) → AllPairs IsBefore rest → AllPairs IsBefore (session_names client index ops ++ rest)
session_in_order client index [] rest after pairs = pairs
session_in_order client index (op ∷ ops) rest after pairs = AllPairs-cons IsBefore (record { client = client; index = index }) (session_names client (index + 1) ops ++ rest)
    (λ k m inside. elim (Contains-append_cases (session_names client (index + 1) ops) rest _ (Contains-get_or (session_names client (index + 1) ops ++ rest) k m inside)) [
      | inl here ↦ let l = in_session client (index + 1) ops _ here in inr (sym l.0, omega (arith, l.1))
      | inr there ↦ inl (after _ there)
    ])
    (session_in_order client (index + 1) ops rest after pairs)

sessions_in_order : (client : ℕ) (ss : Sessions) → AllPairs IsBefore (names_from client ss)
sessions_in_order client [] = λ i j d less inside. absurd (omega (arith, inside))
sessions_in_order client (s ∷ ss) = session_in_order client 0 s (names_from (client + 1) ss)
    (λ m at. let l = in_sessions (client + 1) ss m at in omega (arith, l.1)) (sessions_in_order (client + 1) ss)

-- the names of a history are those of all its operations, in order
pub names_listed : (h : Sessions) → Lists (λ n. n) (IsNamed h) (names_of h)
names_listed h = record {
  members = λ m. (
    (λ at. let l = in_sessions 0 h m at in slice_get_there (slice_index_or h m.client []) m.index (subst (λ (k : ℕ). m.index < length (slice_index_or h k [])) (let e : l.0 ≡ m.client = omega (arith, l.1) in e) l.2)),
    (λ named. sessions_have 0 m.client h m (omega arith) (named_index h m named)),
  );
  in_order = sessions_in_order 0 h;
}
