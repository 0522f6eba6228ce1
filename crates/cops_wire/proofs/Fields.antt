-- Reading a field gives the field that was encoded, and an encoding is read as its field.
use Rattle.std.proofs.Common.{◌≡◌, ℕ, zero, suc, ◌+◌, ◌/◌, ◌%◌, ◌<◌, ◌≤◌, Bool, true, false, cond, ltb, leb, ◌&&◌, List, [], ◌∷◌, ◌++◌, length, take, drop, Option, Some, None, refl, sym, ap, subst, ◌∙◌, append_assoc, arith, inl, inr}
use Rattle.std.specs.List.{flat_map, list_any, IsDistinct, AllByRecursion}
use Rattle.std.specs.Int.{byte_len, from_be_bytes}
use Rattle.std.proofs.Math.Nat.{mod-eq_of_lt}
use Rattle.std.proofs.lemmas.Bool.{cases_lt, ltb-false, ltb-true, leb-true, le-ltb, lt-ltb, le-leb, and_parts, and_from, or_parts, or_from, not-true, not_from_false}
use Rattle.std.proofs.lemmas.List.{take_at, drop_at, take-append-drop, length-append, length-take, get_or-drop, get_or-take, get_or_past}
use Rattle.std.proofs.lemmas.List.Concat.{flat_map-cons}
use Rattle.std.proofs.lemmas.Nat.{be_bytes_2, be_bytes_4, be_bytes_8, from_be_bytes-to_be_bytes_2, from_be_bytes-to_be_bytes_4, from_be_bytes-to_be_bytes_8}
use Rattle.cops_types.specs.declared.dep.Dep.{Dep}
use Rattle.cops_types.specs.Dep.{is_same_dep}
use Rattle.cops_types.specs.Deps.{IsDep, ArePairs}
use Rattle.cops_types.specs.Version.{IsVersion}
use Rattle.cops_wire.specs.Field.{Size, u8, u16, u32, u64, width, Field, number, number_in, string, version, pairs, Content, of_number, of_bytes, of_pairs, encoded_number, encoded_string, encoded_pair, encoded}
use Rattle.cops_wire.specs.Answer.{IsBytes}
use Rattle.cops_wire.specs.Legal.{limit, IsLegal}
use Rattle.cops_wire.specs.Reading.{◌>>=◌, only_if, number_at, number_in_at, string_at, version_at, pair_at, pairs_at, are_distinct, deps_at, with_content, field_at}

pub IsBytes-drop : (n : ℕ) (bytes : List ℕ) → IsBytes bytes → IsBytes (drop n bytes)
IsBytes-drop n bytes h i = rw get_or-drop (h (n + i))

pub IsBytes-take : (n : ℕ) (bytes : List ℕ) → IsBytes bytes → IsBytes (take n bytes)
IsBytes-take n bytes h i =
    elim (cases_lt i n) [
      | inl lt ↦ rw (get_or-take n bytes i 0 lt) (h i)
      | inr le ↦ rw (get_or_past (take n bytes) i 0 (omega (arith, length-take n bytes))) (omega arith)
    ]

pub IsBytes-left : (a b : List ℕ) → IsBytes (a ++ b) → IsBytes a
IsBytes-left a b h = subst IsBytes (take_at a b (length a) refl) (IsBytes-take (length a) (a ++ b) h)

pub IsBytes-right : (a b : List ℕ) → IsBytes (a ++ b) → IsBytes b
IsBytes-right a b h = subst IsBytes (drop_at a b (length a) refl) (IsBytes-drop (length a) (a ++ b) h)

-- the value of a step that gave one
pub bind_some : {A B : Type 0} (r : Option A) (f : A → Option B) (y : B) → (r >>= f) ≡ Some y → (x : A) × (r ≡ Some x) × (f x ≡ Some y)
bind_some (Some x) f y e = (x, refl, e)
bind_some None f y e = absurd cc

only_if_some : {A : Type 0} (b : Bool) (x y : A) → only_if b x ≡ Some y → (b ≡ true) × (x ≡ y)
only_if_some true x y e = (refl, cc)
only_if_some false x y e = absurd cc

some_is : {A : Type 0} (x y : A) → Some x ≡ Some y → x ≡ y
some_is x y e = cc

-- the bytes that a reader took from the front
pub record Takes (bytes text rest : List ℕ) : Type 0 where
  pub parts : bytes ≡ text ++ rest
  pub rest_fits : IsBytes rest

pub Takes-then : (a x b y c : List ℕ) → Takes a x b → Takes b y c → Takes a (x ++ y) c
Takes-then a x b y c p q = record { parts = p.parts ∙ ap (λ (t : List ℕ). x ++ t) q.parts ∙ sym (append_assoc x y c); rest_fits = q.rest_fits }

-- ---- numbers

pub record IsWide (s : Size) : Type 0 where
  pub len : (n : ℕ) → length (encoded_number s n) ≡ byte_len (width s)
  pub back : (bytes : List ℕ) → length bytes ≡ byte_len (width s) → IsBytes bytes → encoded_number s (from_be_bytes (width s) bytes) ≡ bytes
  pub again : (n : ℕ) → n < limit s → from_be_bytes (width s) (encoded_number s n) ≡ n
  pub below : (bytes : List ℕ) → IsBytes bytes → from_be_bytes (width s) bytes < limit s

byte_back : (bytes : List ℕ) → length bytes ≡ 1 → IsBytes bytes → encoded_number u8 (from_be_bytes (width u8) bytes) ≡ bytes
unfolding encoded_number
byte_back [] len fits = absurd (omega arith)
byte_back (b ∷ []) len fits = let h : b < 256 = fits 0 in ap (λ (n : ℕ). n ∷ []) (mod-eq_of_lt h)
byte_back (b ∷ c ∷ bs) len fits = absurd (omega arith)

pub wide : (s : Size) → IsWide s
unfolding encoded_number
wide u8 = record {
  len = λ n. refl;
  back = byte_back;
  again = λ n lt. mod-eq_of_lt lt;
  below = λ bytes fits. omega (arith, fits 0);
}
wide u16 = record {
  len = λ n. refl;
  back = λ bytes len fits. be_bytes_2 bytes _ len fits refl;
  again = λ n lt. from_be_bytes-to_be_bytes_2 n lt;
  below = λ bytes fits. omega (arith, fits 0, fits 1);
}
wide u32 = record {
  len = λ n. refl;
  back = λ bytes len fits. be_bytes_4 bytes _ len fits refl;
  again = λ n lt. from_be_bytes-to_be_bytes_4 n lt;
  below = λ bytes fits. omega (arith, fits 0, fits 1, fits 2, fits 3);
}
wide u64 = record {
  len = λ n. refl;
  back = λ bytes len fits. be_bytes_8 bytes _ len fits refl;
  again = λ n lt. from_be_bytes-to_be_bytes_8 n lt;
  below = λ bytes fits. omega (arith, fits 0, fits 1, fits 2, fits 3, fits 4, fits 5, fits 6, fits 7);
}

unless_some : {A : Type 0} (b : Bool) (x y : A) → cond b None (Some x) ≡ Some y → (b ≡ false) × (x ≡ y)
unless_some true x y e = absurd cc
unless_some false x y e = (refl, cc)

number_takes : (s : Size) (bytes : List ℕ) (x : ℕ × List ℕ) → IsBytes bytes → number_at s bytes ≡ Some x → Takes bytes (encoded_number s x.0) x.1 × (x.0 < limit s)
unfolding number_at
number_takes s bytes x fits e =
    let k : ℕ = byte_len (width s) in
    let g = unless_some (ltb (length bytes) k) (from_be_bytes (width s) (take k bytes), drop k bytes) x e in
    let long : k ≤ length bytes = ltb-false _ _ g.0 in
    let front : encoded_number s (from_be_bytes (width s) (take k bytes)) ≡ take k bytes = (wide s).back (take k bytes) (omega (arith, length-take k bytes)) (IsBytes-take k bytes fits) in
    let taken : Takes bytes (encoded_number s (from_be_bytes (width s) (take k bytes))) (drop k bytes) = record { parts = sym (take-append-drop k bytes) ∙ ap (λ (t : List ℕ). t ++ drop k bytes) (sym front); rest_fits = IsBytes-drop k bytes fits } in
    subst (λ (y : ℕ × List ℕ). Takes bytes (encoded_number s y.0) y.1 × (y.0 < limit s)) g.1 (taken, (wide s).below (take k bytes) (IsBytes-take k bytes fits))

number_again : (s : Size) (n : ℕ) (rest : List ℕ) → n < limit s → number_at s (encoded_number s n ++ rest) ≡ Some (n, rest)
unfolding number_at
number_again s n rest lt =
    let k : ℕ = byte_len (width s) in
    let len = (wide s).len n in
    let long : ltb (length (encoded_number s n ++ rest)) k ≡ false = le-ltb _ _ (omega (arith, length-append (encoded_number s n) rest)) in
    let front : take k (encoded_number s n ++ rest) ≡ encoded_number s n = take_at (encoded_number s n) rest k len in
    let back : drop k (encoded_number s n ++ rest) ≡ rest = drop_at (encoded_number s n) rest k len in
    ap (λ (b : Bool). cond b None (Some (from_be_bytes (width s) (take k (encoded_number s n ++ rest)), drop k (encoded_number s n ++ rest)))) long
    ∙ ap (λ (t : List ℕ). Some (from_be_bytes (width s) t, drop k (encoded_number s n ++ rest))) front
    ∙ ap (λ (t : List ℕ). Some (from_be_bytes (width s) (encoded_number s n), t)) back
    ∙ ap (λ (m : ℕ). Some (m, rest)) ((wide s).again n lt)

number_in_takes : (s : Size) (least greatest : ℕ) (bytes : List ℕ) (x : ℕ × List ℕ) → IsBytes bytes → number_in_at s least greatest bytes ≡ Some x
    → Takes bytes (encoded_number s x.0) x.1 × (x.0 < limit s) × (least ≤ x.0) × (x.0 ≤ greatest)
unfolding number_in_at
number_in_takes s least greatest bytes x fits e =
    let a = bind_some (number_at s bytes) (λ n. only_if (leb least n.0 && leb n.0 greatest) n) x e in
    let t = number_takes s bytes a.0 fits a.1 in
    let g = only_if_some (leb least a.0.0 && leb a.0.0 greatest) a.0 x a.2 in
    let both = and_parts _ _ g.0 in
    subst (λ (y : ℕ × List ℕ). Takes bytes (encoded_number s y.0) y.1 × (y.0 < limit s) × (least ≤ y.0) × (y.0 ≤ greatest)) g.1 (t.0, t.1, leb-true _ _ both.0, leb-true _ _ both.1)

number_in_again : (s : Size) (least greatest n : ℕ) (rest : List ℕ) → n < limit s → least ≤ n → n ≤ greatest → number_in_at s least greatest (encoded_number s n ++ rest) ≡ Some (n, rest)
unfolding number_in_at
number_in_again s least greatest n rest lt ge le =
    ap (λ (r : Option (ℕ × List ℕ)). r >>= λ n. only_if (leb least n.0 && leb n.0 greatest) n) (number_again s n rest lt)
    ∙ ap (λ (b : Bool). only_if b (n, rest)) (and_from _ _ (le-leb least n ge) (le-leb n greatest le))

-- ---- strings

string_takes : (s : Size) (least greatest : ℕ) (bytes : List ℕ) (x : List ℕ × List ℕ) → IsBytes bytes → string_at s least greatest bytes ≡ Some x
    → Takes bytes (encoded_string s x.0) x.1 × (length x.0 < limit s) × (least ≤ length x.0) × (length x.0 ≤ greatest)
unfolding string_at
string_takes s least greatest bytes x fits e =
    let a = bind_some (number_in_at s least greatest bytes) (λ n. only_if (leb n.0 (length n.1)) (take n.0 n.1, drop n.0 n.1)) x e in
    let n : ℕ × List ℕ = a.0 in
    let t = number_in_takes s least greatest bytes n fits a.1 in
    let g = only_if_some (leb n.0 (length n.1)) (take n.0 n.1, drop n.0 n.1) x a.2 in
    let long : n.0 ≤ length n.1 = leb-true _ _ g.0 in
    let len : length (take n.0 n.1) ≡ n.0 = omega (arith, length-take n.0 n.1) in
    let second : Takes n.1 (take n.0 n.1) (drop n.0 n.1) = record { parts = sym (take-append-drop n.0 n.1); rest_fits = IsBytes-drop n.0 n.1 t.0.rest_fits } in
    let both = Takes-then bytes (encoded_number s n.0) n.1 (take n.0 n.1) (drop n.0 n.1) t.0 second in
    let text : Takes bytes (encoded_string s (take n.0 n.1)) (drop n.0 n.1) = subst (λ (k : ℕ). Takes bytes (encoded_number s k ++ take n.0 n.1) (drop n.0 n.1)) (sym len) both in
    let legal : (length (take n.0 n.1) < limit s) × (least ≤ length (take n.0 n.1)) × (length (take n.0 n.1) ≤ greatest) = subst (λ (k : ℕ). (k < limit s) × (least ≤ k) × (k ≤ greatest)) (sym len) (t.1, t.2, t.3) in
    subst (λ (y : List ℕ × List ℕ). Takes bytes (encoded_string s y.0) y.1 × (length y.0 < limit s) × (least ≤ length y.0) × (length y.0 ≤ greatest)) g.1 (text, legal.0, legal.1, legal.2)

string_again : (s : Size) (least greatest : ℕ) (text rest : List ℕ) → length text < limit s → least ≤ length text → length text ≤ greatest
    → string_at s least greatest (encoded_string s text ++ rest) ≡ Some (text, rest)
unfolding string_at
string_again s least greatest text rest lt ge le =
    let regrouped : encoded_string s text ++ rest ≡ encoded_number s (length text) ++ (text ++ rest) = append_assoc (encoded_number s (length text)) text rest in
    let first : number_in_at s least greatest (encoded_string s text ++ rest) ≡ Some (length text, text ++ rest) = ap (number_in_at s least greatest) regrouped ∙ number_in_again s least greatest (length text) (text ++ rest) lt ge le in
    let long : leb (length text) (length (text ++ rest)) ≡ true = le-leb _ _ (omega (arith, length-append text rest)) in
    ap (λ (r : Option (ℕ × List ℕ)). r >>= λ n. only_if (leb n.0 (length n.1)) (take n.0 n.1, drop n.0 n.1)) first
    ∙ ap (λ (b : Bool). only_if b (take (length text) (text ++ rest), drop (length text) (text ++ rest))) long
    ∙ ap (λ (t : List ℕ). Some (t, drop (length text) (text ++ rest))) (take_at text rest (length text) refl)
    ∙ ap (λ (t : List ℕ). Some (text, t)) (drop_at text rest (length text) refl)

-- ---- versions

version_takes : (bytes : List ℕ) (x : ℕ × List ℕ) → IsBytes bytes → version_at bytes ≡ Some x → Takes bytes (encoded_number u64 x.0) x.1 × IsVersion x.0
unfolding version_at
version_takes bytes x fits e =
    let a = bind_some (number_at u64 bytes) (λ n. only_if (leb 1 (n.0 / 65536) && ltb (n.0 % 65536) 1024) n) x e in
    let t = number_takes u64 bytes a.0 fits a.1 in
    let g = only_if_some (leb 1 (a.0.0 / 65536) && ltb (a.0.0 % 65536) 1024) a.0 x a.2 in
    let both = and_parts _ _ g.0 in
    subst (λ (y : ℕ × List ℕ). Takes bytes (encoded_number u64 y.0) y.1 × IsVersion y.0) g.1 (t.0, (leb-true _ _ both.0, ltb-true _ _ both.1, t.1))

version_again : (n : ℕ) (rest : List ℕ) → IsVersion n → version_at (encoded_number u64 n ++ rest) ≡ Some (n, rest)
unfolding version_at
version_again n rest v =
    ap (λ (r : Option (ℕ × List ℕ)). r >>= λ n. only_if (leb 1 (n.0 / 65536) && ltb (n.0 % 65536) 1024) n) (number_again u64 n rest v.2)
    ∙ ap (λ (b : Bool). only_if b (n, rest)) (and_from _ _ (le-leb _ _ v.0) (lt-ltb _ _ v.1))

-- ---- pairs

pair_takes : (bytes : List ℕ) (x : Dep × List ℕ) → IsBytes bytes → pair_at bytes ≡ Some x → Takes bytes (encoded_pair x.0) x.1 × IsDep x.0
unfolding pair_at
pair_takes bytes x fits e =
    let a = bind_some (string_at u8 1 64 bytes) (λ k. version_at k.1 >>= λ v. Some (record { key = k.0; version = v.0 }, v.1)) x e in
    let b = bind_some (version_at a.0.1) (λ v. Some (record { key = a.0.0; version = v.0 }, v.1)) x a.2 in
    let first = string_takes u8 1 64 bytes a.0 fits a.1 in
    let second = version_takes a.0.1 b.0 first.0.rest_fits b.1 in
    let both = Takes-then bytes (encoded_string u8 a.0.0) a.0.1 (encoded_number u64 b.0.0) b.0.1 first.0 second.0 in
    let made : Dep × List ℕ = (record { key = a.0.0; version = b.0.0 }, b.0.1) in
    subst (λ (y : Dep × List ℕ). Takes bytes (encoded_pair y.0) y.1 × IsDep y.0) (some_is made x b.2) (both, ((first.2, first.3), second.1))

pair_again : (d : Dep) (rest : List ℕ) → IsDep d → pair_at (encoded_pair d ++ rest) ≡ Some (d, rest)
unfolding pair_at
pair_again d rest legal =
    let regrouped : encoded_pair d ++ rest ≡ encoded_string u8 d.key ++ (encoded_number u64 d.version ++ rest) = append_assoc (encoded_string u8 d.key) (encoded_number u64 d.version) rest in
    let first : string_at u8 1 64 (encoded_pair d ++ rest) ≡ Some (d.key, encoded_number u64 d.version ++ rest) = ap (string_at u8 1 64) regrouped ∙ string_again u8 1 64 d.key (encoded_number u64 d.version ++ rest) (omega (arith, legal.0.1)) legal.0.0 legal.0.1 in
    ap (λ (r : Option (List ℕ × List ℕ)). r >>= λ k. version_at k.1 >>= λ v. Some (record { key = k.0; version = v.0 }, v.1)) first
    ∙ ap (λ (r : Option (ℕ × List ℕ)). r >>= λ v. Some (record { key = d.key; version = v.0 }, v.1)) (version_again d.version rest legal.1)

pairs_take : (n : ℕ) (bytes : List ℕ) (x : List Dep × List ℕ) → IsBytes bytes → pairs_at n bytes ≡ Some x → Takes bytes (flat_map encoded_pair x.0) x.1 × (length x.0 ≡ n) × AllByRecursion IsDep x.0
unfolding pairs_at
pairs_take zero bytes x fits e =
    subst (λ (y : List Dep × List ℕ). Takes bytes (flat_map encoded_pair y.0) y.1 × (length y.0 ≡ 0) × AllByRecursion IsDep y.0) (some_is ([], bytes) x e) (record { parts = refl; rest_fits = fits }, refl, tt)
pairs_take (suc n) bytes x fits e =
    let a = bind_some (pair_at bytes) (λ first. pairs_at n first.1 >>= λ others. Some (first.0 ∷ others.0, others.1)) x e in
    let b = bind_some (pairs_at n a.0.1) (λ others. Some (a.0.0 ∷ others.0, others.1)) x a.2 in
    let first = pair_takes bytes a.0 fits a.1 in
    let second = pairs_take n a.0.1 b.0 first.0.rest_fits b.1 in
    let both = Takes-then bytes (encoded_pair a.0.0) a.0.1 (flat_map encoded_pair b.0.0) b.0.1 first.0 second.0 in
    let made : List Dep × List ℕ = (a.0.0 ∷ b.0.0, b.0.1) in
    subst (λ (y : List Dep × List ℕ). Takes bytes (flat_map encoded_pair y.0) y.1 × (length y.0 ≡ suc n) × AllByRecursion IsDep y.0) (some_is made x b.2) (rw flat_map-cons both, ap suc second.1, (first.1, second.2))

pairs_again : (ds : List Dep) (rest : List ℕ) → AllByRecursion IsDep ds → pairs_at (length ds) (flat_map encoded_pair ds ++ rest) ≡ Some (ds, rest)
unfolding pairs_at
pairs_again [] rest legal = refl
pairs_again (d ∷ ds) rest legal =
    let regrouped : flat_map encoded_pair (d ∷ ds) ++ rest ≡ encoded_pair d ++ (flat_map encoded_pair ds ++ rest) = ap (λ (x : List ℕ). x ++ rest) (flat_map-cons encoded_pair d ds) ∙ append_assoc (encoded_pair d) (flat_map encoded_pair ds) rest in
    let first : pair_at (flat_map encoded_pair (d ∷ ds) ++ rest) ≡ Some (d, flat_map encoded_pair ds ++ rest) = ap pair_at regrouped ∙ pair_again d (flat_map encoded_pair ds ++ rest) legal.0 in
    ap (λ (r : Option (Dep × List ℕ)). r >>= λ first. pairs_at (length ds) first.1 >>= λ others. Some (first.0 ∷ others.0, others.1)) first
    ∙ ap (λ (r : Option (List Dep × List ℕ)). r >>= λ others. Some (d ∷ others.0, others.1)) (pairs_again ds rest legal.1)

-- the test decides whether a pair differs from all others
apart_from_none : (d : Dep) (ds : List Dep) → list_any (is_same_dep d) ds ≡ false → AllByRecursion (λ y. is_same_dep d y ≡ false) ds
apart_from_none d [] e = tt
apart_from_none d (x ∷ xs) e = let both = or_parts _ _ e in (both.0, apart_from_none d xs both.1)

none_from_apart : (d : Dep) (ds : List Dep) → AllByRecursion (λ y. is_same_dep d y ≡ false) ds → list_any (is_same_dep d) ds ≡ false
none_from_apart d [] h = refl
none_from_apart d (x ∷ xs) h = or_from _ _ h.0 (none_from_apart d xs h.1)

pub IsDistinct-from_test : (ds : List Dep) → are_distinct ds ≡ true → IsDistinct is_same_dep ds
unfolding IsDistinct
IsDistinct-from_test [] e = tt
IsDistinct-from_test (d ∷ ds) e =
    let both = and_parts _ _ e in
    (apart_from_none d ds (not-true _ both.0), IsDistinct-from_test ds both.1)

pub test_from_IsDistinct : (ds : List Dep) → IsDistinct is_same_dep ds → are_distinct ds ≡ true
unfolding IsDistinct
test_from_IsDistinct [] h = refl
test_from_IsDistinct (d ∷ ds) h = and_from _ _ (not_from_false _ (none_from_apart d ds h.0)) (test_from_IsDistinct ds h.1)

deps_take : (most : ℕ) (bytes : List ℕ) (x : List Dep × List ℕ) → IsBytes bytes → deps_at most bytes ≡ Some x
    → Takes bytes (encoded_number u16 (length x.0) ++ flat_map encoded_pair x.0) x.1 × (length x.0 < limit u16) × (length x.0 ≤ most) × ArePairs x.0
unfolding deps_at
deps_take most bytes x fits e =
    let a = bind_some (number_in_at u16 0 most bytes) (λ n. pairs_at n.0 n.1 >>= λ ds. only_if (are_distinct ds.0) ds) x e in
    let b = bind_some (pairs_at a.0.0 a.0.1) (λ ds. only_if (are_distinct ds.0) ds) x a.2 in
    let g = only_if_some (are_distinct b.0.0) b.0 x b.2 in
    let first = number_in_takes u16 0 most bytes a.0 fits a.1 in
    let second = pairs_take a.0.0 a.0.1 b.0 first.0.rest_fits b.1 in
    let both = Takes-then bytes (encoded_number u16 a.0.0) a.0.1 (flat_map encoded_pair b.0.0) b.0.1 first.0 second.0 in
    let counted : Takes bytes (encoded_number u16 (length b.0.0) ++ flat_map encoded_pair b.0.0) b.0.1 = subst (λ (k : ℕ). Takes bytes (encoded_number u16 k ++ flat_map encoded_pair b.0.0) b.0.1) (sym second.1) both in
    subst (λ (y : List Dep × List ℕ). Takes bytes (encoded_number u16 (length y.0) ++ flat_map encoded_pair y.0) y.1 × (length y.0 < limit u16) × (length y.0 ≤ most) × ArePairs y.0) g.1
    (counted, omega (arith, second.1, first.1), omega (arith, second.1, first.3), (IsDistinct-from_test b.0.0 g.0, second.2))

deps_again : (most : ℕ) (ds : List Dep) (rest : List ℕ) → length ds < limit u16 → length ds ≤ most → ArePairs ds
    → deps_at most ((encoded_number u16 (length ds) ++ flat_map encoded_pair ds) ++ rest) ≡ Some (ds, rest)
unfolding deps_at
deps_again most ds rest lt le legal =
    let regrouped : (encoded_number u16 (length ds) ++ flat_map encoded_pair ds) ++ rest ≡ encoded_number u16 (length ds) ++ (flat_map encoded_pair ds ++ rest) = append_assoc (encoded_number u16 (length ds)) (flat_map encoded_pair ds) rest in
    let first : number_in_at u16 0 most ((encoded_number u16 (length ds) ++ flat_map encoded_pair ds) ++ rest) ≡ Some (length ds, flat_map encoded_pair ds ++ rest)
    = ap (number_in_at u16 0 most) regrouped ∙ number_in_again u16 0 most (length ds) (flat_map encoded_pair ds ++ rest) lt (omega arith) le in
    ap (λ (r : Option (ℕ × List ℕ)). r >>= λ n. pairs_at n.0 n.1 >>= λ ds. only_if (are_distinct ds.0) ds) first
    ∙ ap (λ (r : Option (List Dep × List ℕ)). r >>= λ ds. only_if (are_distinct ds.0) ds) (pairs_again ds rest legal.1)
    ∙ ap (λ (b : Bool). only_if b (ds, rest)) (test_from_IsDistinct ds legal.0)

-- ---- any field

content_takes : {A : Type 0} (f : A → Content) (read : Option (A × List ℕ)) (x : Content × List ℕ) → with_content f read ≡ Some x → (y : A × List ℕ) × (read ≡ Some y) × ((f y.0, y.1) ≡ x)
content_takes f read x e =
    let a = bind_some read (λ y. Some (f y.0, y.1)) x e in
    (a.0, a.1, some_is (f a.0.0, a.0.1) x a.2)

pub field_takes : (field : Field) (bytes : List ℕ) (x : Content × List ℕ) → IsBytes bytes → field_at field bytes ≡ Some x → Takes bytes (encoded field x.0) x.1 × IsLegal field x.0
field_takes (number s) bytes x fits e =
    let a = content_takes of_number (number_at s bytes) x e in
    let t = number_takes s bytes a.0 fits a.1 in
    subst (λ (y : Content × List ℕ). Takes bytes (encoded (number s) y.0) y.1 × IsLegal (number s) y.0) a.2 t
field_takes (number_in s least greatest) bytes x fits e =
    let a = content_takes of_number (number_in_at s least greatest bytes) x e in
    let t = number_in_takes s least greatest bytes a.0 fits a.1 in
    subst (λ (y : Content × List ℕ). Takes bytes (encoded (number_in s least greatest) y.0) y.1 × IsLegal (number_in s least greatest) y.0) a.2 (t.0, (t.1, t.2, t.3))
field_takes (string s least greatest) bytes x fits e =
    let a = content_takes of_bytes (string_at s least greatest bytes) x e in
    let t = string_takes s least greatest bytes a.0 fits a.1 in
    subst (λ (y : Content × List ℕ). Takes bytes (encoded (string s least greatest) y.0) y.1 × IsLegal (string s least greatest) y.0) a.2 (t.0, (t.1, t.2, t.3))
field_takes version bytes x fits e =
    let a = content_takes of_number (version_at bytes) x e in
    let t = version_takes bytes a.0 fits a.1 in
    subst (λ (y : Content × List ℕ). Takes bytes (encoded version y.0) y.1 × IsLegal version y.0) a.2 t
field_takes (pairs most) bytes x fits e =
    let a = content_takes of_pairs (deps_at most bytes) x e in
    let t = deps_take most bytes a.0 fits a.1 in
    subst (λ (y : Content × List ℕ). Takes bytes (encoded (pairs most) y.0) y.1 × IsLegal (pairs most) y.0) a.2 (t.0, (t.1, t.2, t.3))

pub field_again : (field : Field) (c : Content) (rest : List ℕ) → IsLegal field c → field_at field (encoded field c ++ rest) ≡ Some (c, rest)
field_again (number s) (of_number n) rest h = ap (with_content of_number) (number_again s n rest h)
field_again (number_in s least greatest) (of_number n) rest h = ap (with_content of_number) (number_in_again s least greatest n rest h.0 h.1 h.2)
field_again (string s least greatest) (of_bytes text) rest h = ap (with_content of_bytes) (string_again s least greatest text rest h.0 h.1 h.2)
field_again version (of_number n) rest h = ap (with_content of_number) (version_again n rest h)
field_again (pairs most) (of_pairs ds) rest h = ap (with_content of_pairs) (deps_again most ds rest h.0 h.1 h.2)
field_again _ _ rest h = absurd h
