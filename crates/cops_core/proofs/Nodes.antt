-- The settled and held puts of a node after its steps, and a node in its place among the others.
use Rattle.std.proofs.Common.{◌≡◌, ◌≢◌, ℕ, zero, suc, ◌+◌, ◌*◌, ◌<◌, ◌≤◌, max, ◌⊎◌, inl, inr, List, [], ◌∷◌, ◌++◌, Bool, true, false, cond, ◌||◌, Contains, Option, Some, None, slice_set, slice_index_or, get_or, length, filter, find, flat_map, refl, sym, ap, ◌∙◌, arith, subst, get_or-set_same, get_or-set_other, nat_lt, bytes_eq}
use Rattle.std.specs.List.{list_any}
use Rattle.std.proofs.lemmas.Bool.{cases_eq, or_cases, both_ways, ltb-true, ltb-false}
use Rattle.std.proofs.lemmas.List.Elements.{Contains-append_left, Contains-append_right, Contains-push, Contains-push_cases, Contains-append_cases}
use Rattle.std.proofs.lemmas.List.{set-get_or}
use Rattle.std.proofs.lemmas.Slice.Eq.{bytes_eq-Decides}
use Rattle.cops_types.specs.declared.dep.Dep.{Dep}
use Rattle.cops_types.specs.Dep.{is_same_dep}
use Rattle.cops_types.specs.Version.{clock_of}
use Rattle.cops_store.specs.Store.{Stored, stored_pair, has_pair, with_settled, newer, shown}
use Rattle.cops_held.specs.Held.{Waiting, is_at, marked, with_waiting, with_mark, without}
use Rattle.cops_node.specs.Node.{Node, opened, raised}
use Rattle.cops_core.specs.World.{World, node_at, with_node, settled_in}
use Rattle.cops_node.proofs.Same.{same_pair_true, same_pair_refl}
use Rattle.cops_core.proofs.Lists.{contains_none, contains_one, contains_cases, contains_head, contains_tail}

-- an element that passes the test
pub record Passes {X : Type 0} (test : X → Bool) (xs : List X) : Type 0 where
  pub item : X
  pub among : Contains xs item
  pub passes : test item ≡ true

pub any_to : {X : Type 0} (test : X → Bool) (xs : List X) → list_any test xs ≡ true → Passes test xs
any_to test [] h = cc
any_to test (x ∷ xs) h = cases (or_cases (test x) (list_any test xs) h) (λ r. any_to test xs r)
  where
    cases : (test x ≡ true) ⊎ (list_any test xs ≡ true) → (list_any test xs ≡ true → Passes test xs) → Passes test (x ∷ xs)
    cases (inl e) rest = record { item = x; among = contains_head x xs; passes = e }
    cases (inr r) rest = let p = rest r in record { item = p.item; among = contains_tail x xs p.item p.among; passes = p.passes }

pub any_from : {X : Type 0} (test : X → Bool) (xs : List X) (x : X) → Contains xs x → test x ≡ true → list_any test xs ≡ true
any_from test [] x h e = absurd (contains_none x h)
any_from test (y ∷ xs) x h e = cases (contains_cases y xs x h) (λ r. any_from test xs x r e)
  where
    later : (b : Bool) → list_any test xs ≡ true → (b || list_any test xs) ≡ true
    later true r = refl
    later false r = r

    cases : (y ≡ x) ⊎ Contains xs x → (Contains xs x → list_any test xs ≡ true) → (test y || list_any test xs) ≡ true
    cases (inl same) rest = ap (λ b. b || list_any test xs) (ap test same ∙ e)
    cases (inr r) rest = later (test y) (rest r)

pub filter_to : {X : Type 0} (test : X → Bool) (xs : List X) (x : X) → Contains (filter test xs) x → Contains xs x × (test x ≡ true)
filter_to test [] x h = absurd (contains_none x h)
filter_to test (y ∷ xs) x h = cases (test y) refl h (λ r. filter_to test xs x r)
  where
    head : test y ≡ true → (y ≡ x) ⊎ Contains (filter test xs) x → (Contains (filter test xs) x → Contains xs x × (test x ≡ true)) → Contains (y ∷ xs) x × (test x ≡ true)
    head e (inl same) rest = (subst (λ z. Contains (y ∷ xs) z) same (contains_head y xs), ap test (sym same) ∙ e)
    head e (inr r) rest = let p = rest r in (contains_tail y xs x p.0, p.1)

    cases : (b : Bool) → test y ≡ b → Contains (cond b (y ∷ filter test xs) (filter test xs)) x → (Contains (filter test xs) x → Contains xs x × (test x ≡ true)) → Contains (y ∷ xs) x × (test x ≡ true)
    cases true e i rest = head e (contains_cases y (filter test xs) x i) rest
    cases false e i rest = let p = rest i in (contains_tail y xs x p.0, p.1)

pub filter_from : {X : Type 0} (test : X → Bool) (xs : List X) (x : X) → Contains xs x → test x ≡ true → Contains (filter test xs) x
filter_from test [] x h e = h
filter_from test (y ∷ xs) x h e = cases (test y) refl (contains_cases y xs x h) (λ r. filter_from test xs x r e)
  where
    cases : (b : Bool) → test y ≡ b → (y ≡ x) ⊎ Contains xs x → (Contains xs x → Contains (filter test xs) x) → Contains (cond b (y ∷ filter test xs) (filter test xs)) x
    cases true t (inl same) rest = subst (λ z. Contains (y ∷ filter test xs) z) same (contains_head y (filter test xs))
    cases true t (inr r) rest = contains_tail y (filter test xs) x (rest r)
    cases false t (inl same) rest = absurd (both_ways (test y) t (ap test same ∙ e))
    cases false t (inr r) rest = rest r

pub find_to : {X : Type 0} (test : X → Bool) (xs : List X) (x : X) → find test xs ≡ Some x → Contains xs x × (test x ≡ true)
find_to test [] x h = cc
find_to test (y ∷ xs) x h = cases (test y) refl h (λ r. find_to test xs x r)
  where
    cases : (b : Bool) → test y ≡ b → cond b (Some y) (find test xs) ≡ Some x → (find test xs ≡ Some x → Contains xs x × (test x ≡ true)) → Contains (y ∷ xs) x × (test x ≡ true)
    cases true t e rest = let same : y ≡ x = cc in (subst (λ z. Contains (y ∷ xs) z) same (contains_head y xs), ap test (sym same) ∙ t)
    cases false t e rest = let p = rest e in (contains_tail y xs x p.0, p.1)

-- the held puts after a mark, or after one was taken out
pub record IsMarked (held : List Waiting) (version dep : ℕ) (y : Waiting) : Type 0 where
  pub from : Waiting
  pub among : Contains held from
  pub at : is_at version from ≡ true
  pub is : marked dep from ≡ y

is_marked_later : (w : Waiting) (held : List Waiting) (version dep : ℕ) (y : Waiting) → IsMarked held version dep y → IsMarked (w ∷ held) version dep y
is_marked_later w held version dep y m = record { from = m.from; among = contains_tail w held m.from m.among; at = m.at; is = m.is }

pub with_mark_cases : (held : List Waiting) (version dep : ℕ) (y : Waiting) → Contains (with_mark held version dep) y → Contains held y ⊎ IsMarked held version dep y
with_mark_cases [] version dep y h = inl h
with_mark_cases (w ∷ held) version dep y h = go (is_at version w) refl h (λ r. with_mark_cases held version dep y r)
  where
    go : (b : Bool) → is_at version w ≡ b → Contains (cond b (marked dep w ∷ held) (w ∷ with_mark held version dep)) y → (Contains (with_mark held version dep) y → Contains held y ⊎ IsMarked held version dep y) → Contains (w ∷ held) y ⊎ IsMarked (w ∷ held) version dep y
    go true e i rest =
        elim (contains_cases (marked dep w) held y i) [
          | inl same ↦ inr (record { from = w; among = contains_head w held; at = e; is = same })
          | inr r ↦ inl (contains_tail w held y r)
        ]
    go false e i rest =
        elim (contains_cases w (with_mark held version dep) y i) [
          | inl same ↦ inl (subst (λ x. Contains (w ∷ held) x) same (contains_head w held))
          | inr r ↦ (elim (rest r) [ inl a ↦ inl (contains_tail w held y a) | inr m ↦ inr (is_marked_later w held version dep y m) ])
        ]

pub with_waiting_cases : (held : List Waiting) (w y : Waiting) → Contains (with_waiting held w) y → Contains held y ⊎ (w ≡ y)
with_waiting_cases [] w y h = inr (contains_one w y h)
with_waiting_cases (x ∷ held) w y h = go (nat_lt w.put.version x.put.version) h (λ r. with_waiting_cases held w y r)
  where
    go : (b : Bool) → Contains (cond b (w ∷ x ∷ held) (x ∷ with_waiting held w)) y → (Contains (with_waiting held w) y → Contains held y ⊎ (w ≡ y)) → Contains (x ∷ held) y ⊎ (w ≡ y)
    go true i rest = elim (contains_cases w (x ∷ held) y i) [ inl e ↦ inr e | inr r ↦ inl r ]
    go false i rest =
        elim (contains_cases x (with_waiting held w) y i) [
          | inl e ↦ inl (subst (λ z. Contains (x ∷ held) z) e (contains_head x held))
          | inr r ↦ (elim (rest r) [ inl a ↦ inl (contains_tail x held y a) | inr e ↦ inr e ])
        ]

pub without_to : (held : List Waiting) (version : ℕ) (y : Waiting) → Contains (without held version) y → Contains held y
without_to [] version y h = h
without_to (w ∷ held) version y h = go (is_at version w) h (λ r. without_to held version y r)
  where
    go : (b : Bool) → Contains (cond b held (w ∷ without held version)) y → (Contains (without held version) y → Contains held y) → Contains (w ∷ held) y
    go true i rest = contains_tail w held y i
    go false i rest =
        elim (contains_cases w (without held version) y i) [
          | inl same ↦ subst (λ x. Contains (w ∷ held) x) same (contains_head w held)
          | inr r ↦ contains_tail w held y (rest r)
        ]

-- one of the lists has an element that passes
pub any_flat_to : {X Y : Type 0} (test : Y → Bool) (f : X → List Y) (xs : List X) → list_any test (flat_map f xs) ≡ true → (i : ℕ) × (i < length xs) × ((d : X) → list_any test (f (get_or xs i d)) ≡ true)
any_flat_to test f [] h = cc
any_flat_to {X = X} test f (x ∷ xs) h =
    let p = any_to test (flat_map f (x ∷ xs)) h in
    cases p (Contains-append_cases (f x) (flat_map f xs) p.item p.among) (λ r. any_flat_to test f xs r)
  where
    cases : (p : Passes test (flat_map f (x ∷ xs))) → Contains (f x) p.item ⊎ Contains (flat_map f xs) p.item → (list_any test (flat_map f xs) ≡ true → (i : ℕ) × (i < length xs) × ((d : X) → list_any test (f (get_or xs i d)) ≡ true)) → (i : ℕ) × (i < length (x ∷ xs)) × ((d : X) → list_any test (f (get_or (x ∷ xs) i d)) ≡ true)
    cases p (inl a) rest = (zero, omega arith, λ d. any_from test (f x) p.item a p.passes)
    cases p (inr b) rest = let r = rest (any_from test (flat_map f xs) p.item b p.passes) in (suc r.0, omega (arith, r.1), r.2)

pub any_flat_from : {X Y : Type 0} (test : Y → Bool) (f : X → List Y) (d : X) (xs : List X) (i : ℕ) → f d ≡ [] → list_any test (f (get_or xs i d)) ≡ true → list_any test (flat_map f xs) ≡ true
any_flat_from test f d [] i e h = let bad : list_any test [] ≡ true = subst (λ ys. list_any test ys ≡ true) e h in cc
any_flat_from test f d (x ∷ xs) zero e h = let p = any_to test (f x) h in any_from test (flat_map f (x ∷ xs)) p.item (Contains-append_left (f x) (flat_map f xs) p.item p.among) p.passes
any_flat_from test f d (x ∷ xs) (suc i) e h =
    let r = any_flat_from test f d xs i e h in
    let p = any_to test (flat_map f xs) r in
    any_from test (flat_map f (x ∷ xs)) p.item (Contains-append_right (f x) (flat_map f xs) p.item p.among) p.passes

-- a settled pair, and its element
pub record IsAmong (settled : List Stored) (pair : Dep) : Type 0 where
  pub item : Stored
  pub among : Contains settled item
  pub is : stored_pair item ≡ pair

pub has_to : (settled : List Stored) (pair : Dep) → has_pair settled pair ≡ true → IsAmong settled pair
has_to settled pair h =
    let p = any_to (λ s. is_same_dep pair (stored_pair s)) settled h in
    record { item = p.item; among = p.among; is = sym (same_pair_true pair (stored_pair p.item) p.passes) }

pub has_from : (settled : List Stored) (s : Stored) → Contains settled s → has_pair settled (stored_pair s) ≡ true
has_from settled s h = any_from (λ t. is_same_dep (stored_pair s) (stored_pair t)) settled s h (same_pair_refl (stored_pair s))

pub with_settled_old : (settled : List Stored) (s : Stored) (pair : Dep) → has_pair settled pair ≡ true → has_pair (with_settled settled s) pair ≡ true
with_settled_old settled s pair h = go (has_pair settled (stored_pair s))
  where
    go : (b : Bool) → has_pair (cond b settled (settled ++ s ∷ [])) pair ≡ true
    go true = h
    go false = let p = any_to (λ t. is_same_dep pair (stored_pair t)) settled h in any_from (λ t. is_same_dep pair (stored_pair t)) (settled ++ s ∷ []) p.item (Contains-append_left settled (s ∷ []) p.item p.among) p.passes

pub with_settled_new : (settled : List Stored) (s : Stored) → has_pair (with_settled settled s) (stored_pair s) ≡ true
with_settled_new settled s = go (has_pair settled (stored_pair s)) refl
  where
    go : (b : Bool) → has_pair settled (stored_pair s) ≡ b → has_pair (cond b settled (settled ++ s ∷ [])) (stored_pair s) ≡ true
    go true e = e
    go false e = has_from (settled ++ s ∷ []) s (Contains-push settled s)

pub with_settled_cases : (settled : List Stored) (s t : Stored) → Contains (with_settled settled s) t → Contains settled t ⊎ (s ≡ t)
with_settled_cases settled s t = go (has_pair settled (stored_pair s))
  where
    go : (b : Bool) → Contains (cond b settled (settled ++ s ∷ [])) t → Contains settled t ⊎ (s ≡ t)
    go true h = inl h
    go false h = Contains-push_cases settled s t h

-- the shown put is on the key, and no settled put on the key is newer
pub record IsShown (settled : List Stored) (key : List ℕ) (s : Stored) : Type 0 where
  pub among : Contains settled s
  pub on_key : s.key ≡ key
  pub greatest : (t : Stored) → Contains settled t → t.key ≡ key → t.version ≤ s.version

abbrev pub ShowsWell : List Stored → List ℕ → Option Stored → Type 0
ShowsWell settled key None = (t : Stored) → Contains settled t → t.key ≢ key
ShowsWell settled key (Some s) = IsShown settled key s

pub shows : (settled : List Stored) (key : List ℕ) → ShowsWell settled key (shown settled key)
shows [] key = λ t h. absurd (contains_none t h)
shows (s ∷ settled) key = step (bytes_eq key s.key) refl (shown settled key) (shows settled key)
  where
    first : (best : Option Stored) → s.key ≡ key → ShowsWell settled key best → IsShown (s ∷ settled) key (newer s best)
    first None e w = record {
      among = contains_head s settled;
      on_key = e;
      greatest = λ t h k. (elim (contains_cases s settled t h) [ inl same ↦ (let v = ap (λ (x : Stored). x.version) same in omega arith) | inr r ↦ absurd (w t r k) ]);
    }
    first (Some b) e w = pick (nat_lt b.version s.version) refl
      where
        pick : (c : Bool) → nat_lt b.version s.version ≡ c → IsShown (s ∷ settled) key (cond c s b)
        pick false c = record {
          among = contains_tail s settled b w.among;
          on_key = w.on_key;
          greatest = λ t h k. (elim (contains_cases s settled t h) [ inl same ↦ (let v = ap (λ (x : Stored). x.version) same in let ge = ltb-false b.version s.version c in omega arith) | inr r ↦ w.greatest t r k ]);
        }
        pick true c = record {
          among = contains_head s settled;
          on_key = e;
          greatest = λ t h k. (elim (contains_cases s settled t h) [ inl same ↦ (let v = ap (λ (x : Stored). x.version) same in omega arith) | inr r ↦ (let le = w.greatest t r k in let lt = ltb-true b.version s.version c in omega arith) ]);
        }

    later : (best : Option Stored) → bytes_eq key s.key ≡ false → ShowsWell settled key best → ShowsWell (s ∷ settled) key best
    later None e w = λ t h k. (elim (contains_cases s settled t h) [ inl same ↦ both_ways (bytes_eq key s.key) e ((bytes_eq-Decides key s.key).1 (sym (ap (λ (x : Stored). x.key) same ∙ k))) | inr r ↦ w t r k ])
    later (Some b) e w = record {
      among = contains_tail s settled b w.among;
      on_key = w.on_key;
      greatest = λ t h k. (elim (contains_cases s settled t h) [ inl same ↦ absurd (both_ways (bytes_eq key s.key) e ((bytes_eq-Decides key s.key).1 (sym (ap (λ (x : Stored). x.key) same ∙ k)))) | inr r ↦ w.greatest t r k ]);
    }

    step : (b : Bool) → bytes_eq key s.key ≡ b → (best : Option Stored) → ShowsWell settled key best → ShowsWell (s ∷ settled) key (cond b (Some (newer s best)) best)
    step true e best w = first best (sym ((bytes_eq-Decides key s.key).0 e)) w
    step false e best w = later best e w

-- a raised clock is not below the old one
pub raised_own : (clock : ℕ) (deps : List Dep) → clock ≤ raised clock deps
raised_own clock [] = omega arith
raised_own clock (d ∷ deps) = let rest = raised_own (max clock (clock_of d.version)) deps in omega arith

pub raised_dep : (clock : ℕ) (deps : List Dep) (d : Dep) → Contains deps d → clock_of d.version ≤ raised clock deps
raised_dep clock [] d h = absurd (contains_none d h)
raised_dep clock (e ∷ deps) d h = cases (contains_cases e deps d h) (λ r. raised_dep (max clock (clock_of e.version)) deps d r)
  where
    cases : (e ≡ d) ⊎ Contains deps d → (Contains deps d → clock_of d.version ≤ raised (max clock (clock_of e.version)) deps) → clock_of d.version ≤ raised (max clock (clock_of e.version)) deps
    cases (inl same) rest =
        let own = raised_own (max clock (clock_of e.version)) deps in
        let v : clock_of e.version ≡ clock_of d.version = ap (λ (x : Dep). clock_of x.version) same in
        omega arith
    cases (inr r) rest = rest r

-- a node in its place
pub node_here : (w : World) (dc place : ℕ) (n : Node) → dc < length w.nodes → place < length (slice_index_or w.nodes dc []) → node_at (with_node w dc place n) dc place ≡ n
node_here w dc place n hd hp =
    ap (λ r. slice_index_or r place (opened (dc * 64 + place))) (get_or-set_same w.nodes dc (slice_set (slice_index_or w.nodes dc []) place n) [] hd)
    ∙ get_or-set_same (slice_index_or w.nodes dc []) place n (opened (dc * 64 + place)) hp

other_row : (w : World) (dc place : ℕ) (n : Node) (d q : ℕ) → d ≢ dc → node_at (with_node w dc place n) d q ≡ node_at w d q
other_row w dc place n d q ne = ap (λ r. slice_index_or r q (opened (d * 64 + q))) (get_or-set_other w.nodes dc d (slice_set (slice_index_or w.nodes dc []) place n) [] ne)

pub node_elsewhere : (w : World) (dc place : ℕ) (n : Node) (d q : ℕ) → dc < length w.nodes → (d ≢ dc) ⊎ (q ≢ place) → node_at (with_node w dc place n) d q ≡ node_at w d q
node_elsewhere w dc place n d q hd (inl ne) = other_row w dc place n d q ne
node_elsewhere w dc place n d q hd (inr ne) = cases (cases_eq d dc)
  where
    cases : (d ≡ dc) ⊎ (d ≡ dc → ⊥) → node_at (with_node w dc place n) d q ≡ node_at w d q
    cases (inr other) = other_row w dc place n d q other
    cases (inl same) =
        subst (λ e. node_at (with_node w dc place n) e q ≡ node_at w e q) (sym same)
        (ap (λ r. slice_index_or r q (opened (dc * 64 + q))) (get_or-set_same w.nodes dc (slice_set (slice_index_or w.nodes dc []) place n) [] hd)
        ∙ get_or-set_other (slice_index_or w.nodes dc []) place q n (opened (dc * 64 + q)) ne)

-- putting a node back in its place
pub same_node : (w : World) (dc place : ℕ) → with_node w dc place (node_at w dc place) ≡ w
same_node w dc place =
    ap (λ nodes. let x : World = record { nodes = nodes; issued = w.issued; said = w.said; contexts = w.contexts; sessions = w.sessions } in x)
    (ap (slice_set w.nodes dc) (set-get_or (slice_index_or w.nodes dc []) place (opened (dc * 64 + place))) ∙ set-get_or w.nodes dc [])

-- a pair that a data centre has settled is settled at one of its nodes
pub settled_in_to : (w : World) (dc : ℕ) (pair : Dep) → has_pair (settled_in w dc) pair ≡ true → (place : ℕ) × (has_pair (node_at w dc place).settled pair ≡ true)
settled_in_to w dc pair h =
    let p = any_flat_to (λ s. is_same_dep pair (stored_pair s)) (λ n. n.settled) (slice_index_or w.nodes dc []) h in
    (p.0, p.2 (opened (dc * 64 + p.0)))

pub settled_in_from : (w : World) (dc place : ℕ) (pair : Dep) → has_pair (node_at w dc place).settled pair ≡ true → has_pair (settled_in w dc) pair ≡ true
settled_in_from w dc place pair h =
    any_flat_from (λ s. is_same_dep pair (stored_pair s)) (λ n. n.settled) (opened (dc * 64 + place)) (slice_index_or w.nodes dc []) place refl h
