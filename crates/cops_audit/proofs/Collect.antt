-- A loop over the names that collects the faults of a class.
use Rattle.std.proofs.Common.{rules, ◌≡◌, ◌<◌, ◌≤◌, ◌+◌, ◌↔◌, ℕ, List, [], ◌∷◌, ◌++◌, length, get_or, take, take_all, sym, ◌∙◌, ap, subst, inl, inr, arith, Contains, AllPairs}
use Rattle.std.proofs.lemmas.List.Quantifiers.{all_pairs_push}
use Rattle.std.proofs.lemmas.List.Elements.{Contains-append_left, Contains-push, Contains-push_cases, Contains-get_or}
use Rattle.std.proofs.lemmas.List.{take_more, get_or_default}
use Rattle.std.proofs.Common.{append_assoc, append-nil, get_or-take, length-append, length-take}
use lib.ListN.{get_or-append}
use lib.Seq.{get_or-append_seam}
use Rattle.std.proofs.lemmas.Grind.{common_steps}
use Rattle.cops_types.specs.declared.op.OpName.{OpName}
use Rattle.cops_types.specs.Faults.{IsBefore, Lists}
use Rattle.cops_audit.specs.Names.{ListsAmong}

module _ {A : Type 0} (name_of : A → OpName) (IsFault : A → Type 0) where
  pub among_none : ListsAmong name_of IsFault [] []
  among_none = search rules

  -- a name without a fault
  pub among_skip : (names : List OpName) (n : OpName) (faults : List A) → ListsAmong name_of IsFault names faults
      → ((x : A) → IsFault x → name_of x ≡ n → ⊥) → ListsAmong name_of IsFault (names ++ n ∷ []) faults
  among_skip names n faults lists none = record {
    members = λ x. (
      (λ at. let o = (lists.members x).0 at in (o.0, Contains-append_left names (n ∷ []) (name_of x) o.1)),
      (λ w. elim (Contains-push_cases names n (name_of x) w.1) [
        | inl old ↦ (lists.members x).1 (w.0, old)
        | inr same ↦ absurd (none x w.0 (sym same))
      ]),
    );
    in_order = lists.in_order;
  }

  -- a name with its fault
  pub among_push : (names : List OpName) (faults : List A) (y : A) → ListsAmong name_of IsFault names faults → IsFault y
      → ((x : A) → IsFault x → name_of x ≡ name_of y → x ≡ y)
      → ((m : OpName) → Contains names m → IsBefore m (name_of y))
      → ListsAmong name_of IsFault (names ++ name_of y ∷ []) (faults ++ y ∷ [])
  among_push names faults y lists fault one before = record {
    members = λ x. (
      (λ at. elim (Contains-push_cases faults y x at) [
        | inl old ↦ let o = (lists.members x).0 old in (o.0, Contains-append_left names (name_of y ∷ []) (name_of x) o.1)
        | inr same ↦ (subst IsFault same fault, subst (λ m. Contains (names ++ name_of y ∷ []) m) (ap name_of same) (Contains-push names (name_of y)))
      ]),
      (λ w. elim (Contains-push_cases names (name_of y) (name_of x) w.1) [
        | inl old ↦ Contains-append_left faults (y ∷ []) x ((lists.members x).1 (w.0, old))
        | inr same ↦ subst (λ z. Contains (faults ++ y ∷ []) z) (sym (one x w.0 (sym same))) (Contains-push faults y)
      ]),
    );
    in_order = all_pairs_push (λ a b. IsBefore (name_of a) (name_of b)) faults y lists.in_order
        (λ k d inside. before (name_of (get_or faults k d)) ((lists.members (get_or faults k d)).0 (Contains-get_or faults k d inside)).1);
  }

  -- among any names, where there is no fault
  pub among_faultless : (names : List OpName) → ((x : A) → ¬ IsFault x) → (faults : List A) → faults ≡ [] → ListsAmong name_of IsFault names faults
  among_faultless names none faults empty = search rules

  pub among_all : (names : List OpName) (faults : List A) → ListsAmong name_of IsFault names faults
      → ((x : A) → IsFault x → Contains names (name_of x)) → Lists name_of IsFault faults
  among_all names faults lists named = search rules

pub get_or-default : {A : Type 0} (xs : List A) (i : ℕ) (d e : A) → i < length xs → get_or xs i d ≡ get_or xs i e
get_or-default xs i d e inside = get_or_default xs i d e inside

-- an element, read with another default
pub item_at : {A : Type 0} (xs : List A) (i : ℕ) (x d : A) → i < length xs → x ≡ get_or xs i x → get_or xs i d ≡ x
item_at xs i x d inside at = get_or-default xs i d x inside ∙ sym at

-- the elements so far come before the next one
pub earlier : {A : Type 0} (Before : A → A → Type 0) (xs : List A) (i : ℕ) (d : A) → AllPairs Before xs → i < length xs → (m : A) → Contains (take i xs) m → Before m (get_or xs i d)
earlier Before xs i d in_order inside m at =
    let short : length (take i xs) ≤ i = omega (arith, length-take i xs) in
    let same : get_or xs at.0 m ≡ m = sym (get_or-take i xs at.0 m (omega (arith, at.1, short))) ∙ at.2 in
    let same_d : get_or xs i m ≡ get_or xs i d = get_or-default xs i m d inside in
    subst (λ x. Before x (get_or xs i d)) same (subst (λ x. Before (get_or xs at.0 m) x) same_d (in_order at.0 i m (omega (arith, at.1, short)) inside))

pub next_split : (names yielded left rest : List OpName) (n : OpName) → names ≡ yielded ++ left → left ≡ n ∷ rest → names ≡ (yielded ++ n ∷ []) ++ rest
next_split names yielded left rest n split first = split ∙ ap (λ ns. yielded ++ ns) first ∙ sym (append_assoc yielded (n ∷ []) rest)

-- what comes before the next name in an ordered list
pub before_next : (names yielded rest : List OpName) (n : OpName) → AllPairs IsBefore names → names ≡ yielded ++ n ∷ rest → (m : OpName) → Contains yielded m → IsBefore m n
before_next names yielded rest n in_order split m at =
    let pairs : AllPairs IsBefore (yielded ++ n ∷ rest) = subst (AllPairs IsBefore) split in_order in
    let long = length-append yielded (n ∷ rest) in
    let first = get_or-append yielded (n ∷ rest) m at.0 at.1 ∙ at.2 in
    let next = get_or-append_seam yielded n rest m in
    subst (λ x. IsBefore x n) first (subst (IsBefore (get_or (yielded ++ n ∷ rest) at.0 m)) next (pairs at.0 (length yielded) m at.1 (omega (arith, long))))

-- a loop over names: those that it has seen, those that are left, and the faults among those that it has seen
pub record Collected {A : Type 0} (name_of : A → OpName) (IsFault : A → Type 0) (names yielded left : List OpName) (faults : List A) : Type 0 where
  pub split : names ≡ yielded ++ left
  pub lists : ListsAmong name_of IsFault yielded faults

module _ {A : Type 0} (name_of : A → OpName) (IsFault : A → Type 0) where
  -- the next name, of which there is no fault
  pub collect_skip : {names yielded left rest : List OpName} {n : OpName} {faults : List A} → Collected name_of IsFault names yielded left faults → left ≡ n ∷ rest
      → ((x : A) → IsFault x → name_of x ≡ n → ⊥) → Collected name_of IsFault names (yielded ++ n ∷ []) rest faults
  collect_skip {names} {yielded} {left} {rest} {n} {faults} so_far first none = record {
    split = next_split names yielded left rest n so_far.split first;
    lists = among_skip name_of IsFault yielded n faults so_far.lists none;
  }

  -- the next name, with its fault
  pub collect_push : {names yielded left rest : List OpName} {n : OpName} {faults pushed : List A} (y : A) → AllPairs IsBefore names → Collected name_of IsFault names yielded left faults → left ≡ n ∷ rest
      → pushed ≡ faults ++ y ∷ [] → name_of y ≡ n → IsFault y → ((x : A) → IsFault x → name_of x ≡ name_of y → x ≡ y) → Collected name_of IsFault names (yielded ++ n ∷ []) rest pushed
  collect_push {names} {yielded} {left} {rest} {n} {faults} {pushed} y in_order so_far first is same fault one = record {
    split = next_split names yielded left rest n so_far.split first;
    lists = subst (ListsAmong name_of IsFault (yielded ++ n ∷ [])) (sym is) (subst (λ m. ListsAmong name_of IsFault (yielded ++ m ∷ []) (faults ++ y ∷ [])) same
        (among_push name_of IsFault yielded faults y so_far.lists fault one
        (λ m at. subst (IsBefore m) (sym same) (before_next names yielded rest n in_order (so_far.split ∙ ap (λ ns. yielded ++ ns) first) m at))));
  }

  pub collected_all : {names yielded left : List OpName} {faults : List A} → Collected name_of IsFault names yielded left faults → left ≡ [] → ListsAmong name_of IsFault names faults
  collected_all {names} {yielded} {left} {faults} so_far last = subst (λ ns. ListsAmong name_of IsFault ns faults) (sym (so_far.split ∙ ap (λ ns. yielded ++ ns) last ∙ append-nil yielded)) so_far.lists

-- the list so far, with the next name
module _ {A : Type 0} (name_of : A → OpName) (IsFault : A → Type 0) (names : List OpName) (in_order : AllPairs IsBefore names) (i : ℕ) (inside : i < length names) where
  pub skip_next : (faults : List A) (d : OpName) → ListsAmong name_of IsFault (take i names) faults
      → ((x : A) → IsFault x → name_of x ≡ get_or names i d → ⊥) → ListsAmong name_of IsFault (take (i + 1) names) faults
  skip_next faults d lists none =
      subst (λ ns. ListsAmong name_of IsFault ns faults) (sym (take_more names i d inside))
      (among_skip name_of IsFault (take i names) (get_or names i d) faults lists none)

  pub push_next : (faults : List A) (d : OpName) (y : A) → name_of y ≡ get_or names i d → ListsAmong name_of IsFault (take i names) faults → IsFault y
      → ((x : A) → IsFault x → name_of x ≡ name_of y → x ≡ y)
      → ListsAmong name_of IsFault (take (i + 1) names) (faults ++ y ∷ [])
  push_next faults d y same lists fault one =
      subst (λ ns. ListsAmong name_of IsFault ns (faults ++ y ∷ [])) (ap (λ m. take i names ++ m ∷ []) same ∙ sym (take_more names i d inside))
      (among_push name_of IsFault (take i names) faults y lists fault one
      (λ m there. subst (IsBefore m) (sym same) (earlier IsBefore names i d in_order inside m there)))

-- the list so far, at the end
pub among_here : {A : Type 0} (name_of : A → OpName) (IsFault : A → Type 0) (names : List OpName) (i : ℕ) (faults : List A)
    → length names ≤ i → ListsAmong name_of IsFault (take i names) faults → ListsAmong name_of IsFault names faults
among_here name_of IsFault names i faults enough lists = subst (λ ns. ListsAmong name_of IsFault ns faults) (take_all i names enough) lists

-- where two classes have the same faults, their lists are the same
pub among_same : {A : Type 0} (name_of : A → OpName) (F G : A → Type 0) (names : List OpName) (faults : List A) → ((x : A) → F x ↔ G x) → ListsAmong name_of F names faults → ListsAmong name_of G names faults
among_same name_of F G names faults same lists = record {
  members = λ x. (
    (λ at. let o = (lists.members x).0 at in ((same x).0 o.0, o.1)),
    (λ w. (lists.members x).1 ((same x).1 w.0, w.1)),
  );
  in_order = lists.in_order;
}

-- what holds of each element so far and of the next one
pub each_next : {A : Type 0} (P : A → Type 0) (xs : List A) (i : ℕ) (e : A) → i < length xs → ((k : ℕ) (d : A) → k < i → P (get_or xs k d)) → P (get_or xs i e) → (k : ℕ) (d : A) → k < i + 1 → P (get_or xs k d)
each_next P xs i e inside old new k d less = grind (arith, common_steps)
