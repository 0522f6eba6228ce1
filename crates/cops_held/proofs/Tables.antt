-- A map from versions, as the list of its puts.
use Rattle.std.proofs.Common.{◌≡◌, ℕ, Bool, true, false, cond, nat_lt, List, [], ◌∷◌, Option, None, Some, find, IfSome, Result, Ok, Err, OnOk, OnErr, refl, sym, ap, ◌∙◌, arith, subst, eqb-true}
use borrow.Author.Tests.{ltb-true}
use Rattle.std.specs.BTreeMap.{insert_entry}
use Rattle.std.specs.Cmp.{nat_eq_equiv}
use Rattle.std.specs.Map.{values_of, lookup, set_value, remove_entry}
use Rattle.std.specs.Ordering.{nat_cmp, is_eq, match_ordering}
use Rattle.std.specs.declared.cmp.Ordering.{Ordering}
use Rattle.std.specs.declared.cmp.Ordering.TheVariants.{Less, Equal, Greater}
use Rattle.std.specs.Prelude.{nat_eq}
use Rattle.cops_held.specs.Held.{Waiting, is_at, waiting, with_waiting, marked, with_mark, without}
use Rattle.cops_held.specs.Table.{IsTable}

abbrev pub Entries : Type 0
Entries = List (ℕ × Waiting)

-- the test that a look-up applies to each key
abbrev pub at_key : ℕ → ℕ → Bool
at_key v k = is_eq (nat_cmp v k)

same_test : (v k : ℕ) → at_key v k ≡ nat_eq k v
same_test v k = go (nat_lt v k) refl (nat_eq v k) refl
  where
    go : (a : Bool) → nat_lt v k ≡ a → (b : Bool) → nat_eq v k ≡ b → is_eq (cond a Less (cond b Equal Greater)) ≡ nat_eq k v
    go true e true f = absurd (let h = eqb-true v k f in let l = ltb-true v k e in omega (arith, h, l))
    go true e false f = sym f ∙ nat_eq_equiv.symm v k
    go false e true f = sym f ∙ nat_eq_equiv.symm v k
    go false e false f = sym f ∙ nat_eq_equiv.symm v k

-- the test of a key is equal to that of its put
test_at : (v : ℕ) (e : ℕ × Waiting) → e.1.put.version ≡ e.0 → at_key v e.0 ≡ is_at v e.1
test_at v e h = same_test v e.0 ∙ ap (λ k. nat_eq k v) (sym h)

pub found : (es : Entries) (v : ℕ) → IsTable es → lookup (at_key v) es ≡ waiting (values_of es) v
found [] v h = refl
found (e ∷ es) v h = ap (λ b. cond b (Some e.1) (lookup (at_key v) es)) (test_at v e h.0) ∙ ap (λ o. cond (is_at v e.1) (Some e.1) o) (found es v h.1)

pub removed : (es : Entries) (v : ℕ) → IsTable es → values_of (remove_entry (at_key v) es) ≡ without (values_of es) v
removed [] v h = refl
removed (e ∷ es) v h = go (at_key v e.0) (test_at v e h.0) (removed es v h.1)
  where
    go : (b : Bool) → b ≡ is_at v e.1 → values_of (remove_entry (at_key v) es) ≡ without (values_of es) v
        → values_of (cond b es (e ∷ remove_entry (at_key v) es)) ≡ without (values_of (e ∷ es)) v
    go true t rest = ap (λ c. cond c (values_of es) (e.1 ∷ without (values_of es) v)) t
    go false t rest = ap (λ r. e.1 ∷ r) rest ∙ ap (λ c. cond c (values_of es) (e.1 ∷ without (values_of es) v)) t

pub removed_table : (es : Entries) (v : ℕ) → IsTable es → IsTable (remove_entry (at_key v) es)
removed_table [] v h = tt
removed_table (e ∷ es) v h = go (at_key v e.0) (removed_table es v h.1)
  where
    go : (b : Bool) → IsTable (remove_entry (at_key v) es) → IsTable (cond b es (e ∷ remove_entry (at_key v) es))
    go true rest = h.1
    go false rest = (h.0, rest)

-- a put that is found at a version has it
pub at_version : (ws : List Waiting) (v : ℕ) → IfSome (waiting ws v) (λ w. w.put.version ≡ v)
at_version [] v = tt
at_version (w ∷ ws) v = go (is_at v w) refl (at_version ws v)
  where
    go : (b : Bool) → is_at v w ≡ b → IfSome (waiting ws v) (λ w. w.put.version ≡ v) → IfSome (cond b (Some w) (waiting ws v)) (λ w. w.put.version ≡ v)
    go true e rest = eqb-true w.put.version v e
    go false e rest = rest

pub set_mark : (es : Entries) (v dep : ℕ) (w : Waiting) → IsTable es → Some w ≡ lookup (at_key v) es → values_of (set_value (at_key v) es (marked dep w)) ≡ with_mark (values_of es) v dep
set_mark [] v dep w h e = absurd cc
set_mark (x ∷ es) v dep w h e = go (at_key v x.0) (test_at v x h.0) e (λ f. set_mark es v dep w h.1 f)
  where
    go : (b : Bool) → b ≡ is_at v x.1 → Some w ≡ cond b (Some x.1) (lookup (at_key v) es) → (Some w ≡ lookup (at_key v) es → values_of (set_value (at_key v) es (marked dep w)) ≡ with_mark (values_of es) v dep)
        → values_of (cond b ((x.0, marked dep w) ∷ es) (x ∷ set_value (at_key v) es (marked dep w))) ≡ with_mark (values_of (x ∷ es)) v dep
    go true t f rest =
        let same : w ≡ x.1 = cc in
        ap (λ y. marked dep y ∷ values_of es) same ∙ ap (λ c. cond c (marked dep x.1 ∷ values_of es) (x.1 ∷ with_mark (values_of es) v dep)) t
    go false t f rest = ap (λ r. x.1 ∷ r) (rest f) ∙ ap (λ c. cond c (marked dep x.1 ∷ values_of es) (x.1 ∷ with_mark (values_of es) v dep)) t

pub set_same : (es : Entries) (v : ℕ) (w : Waiting) → Some w ≡ lookup (at_key v) es → set_value (at_key v) es w ≡ es
set_same [] v w e = refl
set_same (x ∷ es) v w e = go (at_key v x.0) e (λ f. set_same es v w f)
  where
    go : (b : Bool) → Some w ≡ cond b (Some x.1) (lookup (at_key v) es) → (Some w ≡ lookup (at_key v) es → set_value (at_key v) es w ≡ es)
        → cond b ((x.0, w) ∷ es) (x ∷ set_value (at_key v) es w) ≡ x ∷ es
    go true f rest = let same : w ≡ x.1 = cc in λ i. (x.0, same i) ∷ es
    go false f rest = ap (λ r. x ∷ r) (rest f)

pub set_table : (es : Entries) (v : ℕ) (w u : Waiting) → IsTable es → Some w ≡ lookup (at_key v) es → u.put.version ≡ w.put.version → IsTable (set_value (at_key v) es u)
set_table [] v w u h e s = tt
set_table (x ∷ es) v w u h e s = go (at_key v x.0) e (λ f. set_table es v w u h.1 f s)
  where
    go : (b : Bool) → Some w ≡ cond b (Some x.1) (lookup (at_key v) es) → (Some w ≡ lookup (at_key v) es → IsTable (set_value (at_key v) es u)) → IsTable (cond b ((x.0, u) ∷ es) (x ∷ set_value (at_key v) es u))
    go true f rest = let same : w ≡ x.1 = cc in (s ∙ ap (λ (y : Waiting). y.put.version) same ∙ h.0, h.1)
    go false f rest = (h.0, rest f)

pub inserted : (es : Entries) (w : Waiting) → IsTable es → waiting (values_of es) w.put.version ≡ None → values_of (insert_entry nat_cmp es w.put.version w) ≡ with_waiting (values_of es) w
inserted [] w h e = refl
inserted (x ∷ es) w h e = go (nat_lt v x.0) refl (is_at v x.1) refl e (λ f. inserted es w h.1 f)
  where
    v : ℕ
    v = w.put.version

    before : nat_lt v x.0 ≡ nat_lt v x.1.put.version
    before = ap (nat_lt v) (sym h.0)

    go : (a : Bool) → nat_lt v x.0 ≡ a → (b : Bool) → is_at v x.1 ≡ b → cond b (Some x.1) (waiting (values_of es) v) ≡ None
        → (waiting (values_of es) v ≡ None → values_of (insert_entry nat_cmp es v w) ≡ with_waiting (values_of es) w)
        → values_of (match_ordering (nat_cmp v x.0) ((v, w) ∷ x ∷ es) ((x.0, w) ∷ es) (x ∷ insert_entry nat_cmp es v w)) ≡ with_waiting (values_of (x ∷ es)) w
    go a ea true eb f rest = absurd cc
    go true ea false eb f rest =
        let less : nat_cmp v x.0 ≡ Less = ap (λ a. cond a Less (cond (nat_eq v x.0) Equal Greater)) ea in
        rw (less, sym before ∙ ea) refl
    go false ea false eb f rest =
        let apart : nat_eq v x.0 ≡ false = nat_eq_equiv.symm v x.0 ∙ ap (λ k. nat_eq k v) (sym h.0) ∙ eb in
        let greater : nat_cmp v x.0 ≡ Greater = ap (λ a. cond a Less (cond (nat_eq v x.0) Equal Greater)) ea ∙ ap (λ b. cond b Equal Greater) apart in
        rw (greater, sym before ∙ ea) (ap (λ r. x.1 ∷ r) (rest f))

pub inserted_table : (es : Entries) (w : Waiting) → IsTable es → IsTable (insert_entry nat_cmp es w.put.version w)
inserted_table [] w h = (refl, tt)
inserted_table (x ∷ es) w h = go (nat_cmp w.put.version x.0) refl (inserted_table es w h.1)
  where
    go : (o : Ordering) → nat_cmp w.put.version x.0 ≡ o → IsTable (insert_entry nat_cmp es w.put.version w)
        → IsTable (match_ordering o ((w.put.version, w) ∷ x ∷ es) ((x.0, w) ∷ es) (x ∷ insert_entry nat_cmp es w.put.version w))
    go Less e rest = (refl, (h.0, h.1))
    go Equal e rest = (sym (eqb-true x.0 w.put.version (sym (same_test w.put.version x.0) ∙ ap is_eq e)), h.1)
    go Greater e rest = (h.0, rest)

-- a put keeps its version, whether marking it succeeds or not
pub same_version : {X E : Type 0} (r : Result X E) (dep : ℕ) (w n : Waiting) → OnOk r (n ≡ marked dep w) → OnErr r (n ≡ w) → n.put.version ≡ w.put.version
same_version (Ok x) dep w n ok err = ap (λ (y : Waiting). y.put.version) ok
same_version (Err e) dep w n ok err = ap (λ (y : Waiting). y.put.version) err

pub on_ok : {X E : Type 0} {A B : Type 0} (r : Result X E) → OnOk r A → (A → B) → OnOk r B
on_ok (Ok x) a f = f a
on_ok (Err e) a f = tt

pub on_err : {X E : Type 0} {A B : Type 0} (r : Result X E) → OnErr r A → (A → B) → OnErr r B
on_err (Ok x) a f = tt
on_err (Err e) a f = f a
