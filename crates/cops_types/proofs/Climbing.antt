-- The maxima of sessions when one more operation is added.
use Rattle.std.proofs.Common.{◌≡◌, ◌≢◌, ◌<◌, ◌≤◌, ◌+◌, ◌⊎◌, ℕ, zero, suc, List, [], ◌∷◌, ◌++◌, length, length-append, max, replicate, Bool, true, false, Option, Some, None, refl, sym, ◌∙◌, ap, subst, inl, inr, arith, slice_get, slice_index_or, slice_set, get_or-set_same, get_or-set_other}
use Rattle.std.proofs.Math.ListN.{length-set}
use Rattle.std.proofs.Math.Nat.{eq-or-lt_of_le}
use Rattle.std.proofs.lemmas.Bool.{cases_eq, cases_lt}
use Rattle.std.proofs.lemmas.List.{get_or-replicate, length-replicate, set-get_or}
use Rattle.std.proofs.lemmas.Option.{slice_get_within}
use Rattle.cops_types.specs.declared.op.OpName.{OpName}
use Rattle.cops_types.specs.declared.maxima.Maxima.{Maxima}
use Rattle.cops_types.specs.Histories.{Sessions, op_at, with_op, PutsVersion, Operation, write, read, missed}
use Rattle.cops_types.specs.Faults.{HasVersion, IsNotAbove, IsNotBelow}
use Rattle.cops_types.specs.Maxima.{AreSessionMaxima, HasNotAbove, IsMaximum, IsSessionAbove}
use Rattle.cops_types.specs.Verdicts.{AllAbove}
use Rattle.cops_types.proofs.Sessions.{none_of}
use Rattle.cops_types.proofs.Showing.{item_came_last, item_last, item_stays}

same_name : (a b : OpName) → a.client ≡ b.client → a.index ≡ b.index → a ≡ b
same_name a b c i = λ j. record { client = c j; index = i j }

one_version : (h : Sessions) (p : OpName) (v w : ℕ) → PutsVersion h p v → PutsVersion h p w → v ≡ w
one_version h p v w first second = let at : Some (write first.0 first.1 v) ≡ Some (write second.0 second.1 w) = sym first.2 ∙ second.2 in cc

-- an operation has one version
pub one_has : (h : Sessions) (n : OpName) (v w : ℕ) → HasVersion h n v → HasVersion h n w → v ≡ w
one_has h n v w (inl a) (inl b) = let e : Some (write a.0 a.1 v) ≡ Some (write b.0 b.1 w) = sym a.2 ∙ b.2 in cc
one_has h n v w (inl a) (inr b) = let e : Some (write a.0 a.1 v) ≡ Some (read b.0 b.1 w) = sym a.2 ∙ b.2 in cc
one_has h n v w (inr a) (inl b) = let e : Some (read a.0 a.1 v) ≡ Some (write b.0 b.1 w) = sym a.2 ∙ b.2 in cc
one_has h n v w (inr a) (inr b) = let e : Some (read a.0 a.1 v) ≡ Some (read b.0 b.1 w) = sym a.2 ∙ b.2 in cc

missed_has : (h : Sessions) (n : OpName) (k : List ℕ) (v : ℕ) → op_at h n ≡ Some (missed k) → ¬ HasVersion h n v
missed_has h n k v nothing (inl a) = let e : Some (missed k) ≡ Some (write a.0 a.1 v) = sym nothing ∙ a.2 in cc
missed_has h n k v nothing (inr a) = let e : Some (missed k) ≡ Some (read a.0 a.1 v) = sym nothing ∙ a.2 in cc

none_has : (h : Sessions) (n : OpName) (v : ℕ) → op_at h n ≡ None → ¬ HasVersion h n v
none_has h n v none (inl a) = let e : None ≡ Some (write a.0 a.1 v) = sym none ∙ a.2 in cc
none_has h n v none (inr a) = let e : None ≡ Some (read a.0 a.1 v) = sym none ∙ a.2 in cc

-- an operation has a version or none
has_cases : (h : Sessions) (n : OpName) → ((v : ℕ) × HasVersion h n v) ⊎ ((v : ℕ) → ¬ HasVersion h n v)
has_cases h n = by_op (op_at h n) refl
  where
    by_op : (o : Option Operation) → op_at h n ≡ o → ((v : ℕ) × HasVersion h n v) ⊎ ((v : ℕ) → ¬ HasVersion h n v)
    by_op None at = inr (λ v. none_has h n v at)
    by_op (Some (write k x v)) at = inl (v, inl (k, x, at))
    by_op (Some (read k x v)) at = inl (v, inr (k, x, at))
    by_op (Some (missed k)) at = inr (λ v. missed_has h n k v at)

-- if some earlier operation of its session makes a put faulty, there is a first one
module _ (h : Sessions) (name : OpName) (own : ℕ) (put : PutsVersion h name own) where
  before : ℕ → OpName
  before i = record { client = name.client; index = i }

  own_before : (e : OpName) → IsNotBelow h e name → e ≡ before e.index
  unfolding before
  own_before e f = same_name e (record { client = name.client; index = e.index }) f.same_client refl

  below_cases : (i : ℕ) → IsNotBelow h (before i) name ⊎ ¬ IsNotBelow h (before i) name
  unfolding before
  below_cases i = elim (has_cases h (record { client = name.client; index = i })) [
    | inr none ↦ inr (λ f. none f.version f.has)
    | inl has ↦ elim (cases_lt i name.index) [
      | inr late ↦ inr (λ f. omega (arith, late, f.before))
      | inl early ↦ elim (cases_lt has.0 own) [
        | inl less ↦ inr (λ f. omega (arith, less, f.not_below, one_has h (record { client = name.client; index = i }) f.version has.0 f.has has.1, one_version h name f.own own f.put put))
        | inr le ↦ inl (record { version = has.0; own = own; put = put; has = has.1; same_client = refl; before = early; not_below = le })
      ]
    ]
  ]

  search_below : (count : ℕ) → ((e : OpName) × IsNotAbove h name e) ⊎ ((e : OpName) → e.index < count → ¬ IsNotBelow h e name)
  unfolding before
  search_below zero = inr (λ e less. absurd (omega (arith, less)))
  search_below (suc count) = elim (search_below count) [
    | inl found ↦ inl found
    | inr none ↦ elim (below_cases count) [
      | inl here ↦ inl (
        before count,
        record {
          is_not_below = here;
          first = λ e f. let not : ¬ (e.index < count) = λ less. none e less f in omega (arith, not);
        },
      )
      | inr not ↦ inr (λ e less f. elim (eq-or-lt_of_le (let le : e.index ≤ count = omega (arith, less) in le)) [
        | inl same ↦ not (subst (λ n. IsNotBelow h n name) (own_before e f ∙ ap before same) f)
        | inr lower ↦ none e lower f
      ])
    ]
  ]

pub first_below : (h : Sessions) (earlier name : OpName) → IsNotBelow h earlier name → (e : OpName) × IsNotAbove h name e
first_below h earlier name f = elim (search_below h name f.own f.put (suc earlier.index)) [
  | inl found ↦ found
  | inr none ↦ absurd (none earlier (omega arith) f)
]

-- the maximum of a session without operations is 0
pub maximum_none : (h : Sessions) (client : ℕ) → IsMaximum h client 0 0
maximum_none h client = record { bounds = λ i v less has. absurd (omega (arith, less)); reached = inl refl }

-- the maximum after one more operation, given its version, or 0 if it has none
pub maximum_next : (h : Sessions) (client i maximum number : ℕ) → IsMaximum h client i maximum
    → ((v : ℕ) → HasVersion h (record { client = client; index = i }) v → number ≡ v) → (number ≡ 0) ⊎ HasVersion h (record { client = client; index = i }) number
    → IsMaximum h client (i + 1) (max maximum number)
maximum_next h client i maximum number was is has = record {
  bounds = λ k v less there. elim (eq-or-lt_of_le (let le : k ≤ i = omega (arith, less) in le)) [
    | inl same ↦ let e = is v (subst (λ (j : ℕ). HasVersion h (record { client = client; index = j }) v) same there) in omega (arith, e)
    | inr lower ↦ omega (arith, was.bounds k v lower there)
  ];
  reached = elim (cases_lt maximum number) [
    | inl higher ↦
        let e : max maximum number ≡ number = omega (arith, higher) in
        elim has [
          | inl none ↦ inl (omega (arith, none, higher))
          | inr there ↦ inr (i, omega arith, subst (HasVersion h (record { client = client; index = i })) (sym e) there)
        ]
    | inr le ↦
        let e : max maximum number ≡ maximum = omega (arith, le) in
        elim was.reached [
          | inl none ↦ inl (e ∙ none)
          | inr there ↦ inr (there.0, omega (arith, there.1), subst (HasVersion h (record { client = client; index = there.0 })) (sym e) there.2)
        ]
  ];
}

-- one more operation of a client
module _ (h : Sessions) (client : ℕ) (op : Operation) (inside : client < length h) where
  abbrev own : List Operation
  own = slice_index_or h client []

  abbrev longer : Sessions
  longer = with_op h client op

  abbrev last : OpName
  last = record { client = client; index = length own }

  last_there : op_at longer last ≡ Some op
  last_there = item_last h client op inside

  has_kept : (n : OpName) (v : ℕ) → HasVersion h n v → HasVersion longer n v
  has_kept n v (inl a) = inl (a.0, a.1, item_stays h client op inside n (write a.0 a.1 v) a.2)
  has_kept n v (inr a) = inr (a.0, a.1, item_stays h client op inside n (read a.0 a.1 v) a.2)

  has_was : (n : OpName) (v : ℕ) → HasVersion longer n v → HasVersion h n v ⊎ ((n.client ≡ client) × (n.index ≡ length own))
  has_was n v (inl a) = elim (item_came_last h client op inside n (write a.0 a.1 v) a.2) [ inl old ↦ inl (inl (a.0, a.1, old)) | inr new ↦ inr (new.1, new.2) ]
  has_was n v (inr a) = elim (item_came_last h client op inside n (read a.0 a.1 v) a.2) [ inl old ↦ inl (inr (a.0, a.1, old)) | inr new ↦ inr (new.1, new.2) ]

  -- the sessions' maxima stay
  maximum_kept : (c count maximum : ℕ) → count ≤ length (slice_index_or h c []) → IsMaximum h c count maximum → IsMaximum longer c count maximum
  maximum_kept c count maximum within was = record {
    bounds = λ i v less has. elim (has_was (record { client = c; index = i }) v has) [
      | inl old ↦ was.bounds i v less old
      | inr new ↦ let e : length (slice_index_or h c []) ≡ length own = ap (λ (k : ℕ). length (slice_index_or h k [])) new.0 in absurd (omega (arith, less, within, e, new.1))
    ];
    reached = elim was.reached [ inl none ↦ inl none | inr r ↦ inr (r.0, r.1, has_kept (record { client = c; index = r.0 }) maximum r.2) ];
  }

  others_length : (c : ℕ) → c ≢ client → length (slice_index_or longer c []) ≡ length (slice_index_or h c [])
  others_length c differs = ap length (get_or-set_other h client c (own ++ op ∷ []) [] differs)

  own_length : length (slice_index_or longer client []) ≡ length own + 1
  own_length = omega (arith, ap length (get_or-set_same h client (own ++ op ∷ []) [] inside), length-append own (op ∷ []))

  -- an operation that makes a put faulty did so before, or the put is the last operation
  below_was : (e n : OpName) → IsNotBelow longer e n → IsNotBelow h e n ⊎ ((n.client ≡ client) × (n.index ≡ length own))
  below_was e n f =
      let put = f.put in
      elim (item_came_last h client op inside n (write put.0 put.1 f.own) put.2) [
        | inr new ↦ inr (new.1, new.2)
        | inl old ↦ elim (has_was e f.version f.has) [
          | inl had ↦ inl (record { version = f.version; own = f.own; put = (put.0, put.1, old); has = had; same_client = f.same_client; before = f.before; not_below = f.not_below })
          | inr last ↦
              let within : n.index < length (slice_index_or h n.client []) = slice_get_within (slice_index_or h n.client []) n.index (write put.0 put.1 f.own) old in
              let e' : length (slice_index_or h n.client []) ≡ length own = ap (λ (k : ℕ). length (slice_index_or h k [])) (sym f.same_client ∙ last.0) in
              absurd (omega (arith, within, e', f.before, last.1))
        ]
      ]

  below_kept : (e n : OpName) → IsNotBelow h e n → IsNotBelow longer e n
  below_kept e n f =
      let put = f.put in
      record { version = f.version; own = f.own; put = (put.0, put.1, item_stays h client op inside n (write put.0 put.1 f.own) put.2); has = has_kept e f.version f.has; same_client = f.same_client; before = f.before; not_below = f.not_below }

  module _ (old : Maxima) (was : AreSessionMaxima h old) where
    abbrev before_last : ℕ
    before_last = slice_index_or old.sessions.items client 0

    -- the last operation is not a put, or is a put above what its session saw
    module _ (rises : (v : ℕ) → PutsVersion longer last v → before_last < v) where
      last_is_right : (earlier name : OpName) → IsNotBelow longer earlier name → name.client ≡ client → name.index ≡ length own → ⊥
      last_is_right earlier name b of at =
          let same : name ≡ last = same_name name (record { client = client; index = length own }) of at in
          let higher = rises b.own (subst (λ (n : OpName). PutsVersion longer n b.own) same b.put) in
          elim (has_was earlier b.version b.has) [
            | inl had ↦
                let e : earlier ≡ record { client = client; index = earlier.index } = same_name earlier (record { client = client; index = earlier.index }) (b.same_client ∙ of) refl in
                let le = (was.each client inside).bounds earlier.index b.version (omega (arith, b.before, at)) (subst (λ (n : OpName). HasVersion h n b.version) e had) in
                omega (arith, le, higher, b.not_below)
            | inr late ↦ omega (arith, b.before, at, late.1)
          ]

      pub still_above : AllAbove h → AllAbove longer
      still_above above name earlier f = elim (below_was earlier name f.is_not_below) [
        | inl old ↦ let found = first_below h earlier name old in above name found.0 found.1
        | inr new ↦ last_is_right earlier name f.is_not_below new.0 new.1
      ]

      pub session_still_above : (c : ℕ) → IsSessionAbove h c → IsSessionAbove longer c
      session_still_above c above name earlier of f = elim (below_was earlier name f.is_not_below) [
        | inl old ↦ let found = first_below h earlier name old in above name found.0 of found.1
        | inr new ↦ last_is_right earlier name f.is_not_below new.0 new.1
      ]

    -- the last operation is a put that is not above its session's maximum
    pub falls : (own_version : ℕ) → PutsVersion longer last own_version → 0 < own_version → own_version ≤ before_last → HasNotAbove longer client
    falls own_version put some low = elim (was.each client inside).reached [
      | inl none ↦ absurd (omega (arith, none, some, low))
      | inr r ↦
          let found = first_below longer (record { client = client; index = r.0 }) last
          (record { version = before_last; own = own_version; put = put; has = has_kept (record { client = client; index = r.0 }) before_last r.2; same_client = refl; before = r.1; not_below = low }) in
          (last, found.0, refl, found.1)
    ]

    -- the maxima with the last operation's version, or with 0 if it has none
    module _ (number : ℕ) (is : (v : ℕ) → HasVersion longer last v → number ≡ v) (has : (number ≡ 0) ⊎ HasVersion longer last number) where
      -- the client's maximum takes in the number, and the others stay
      pub maxima_more : (maxima : List ℕ) → maxima ≡ slice_set old.sessions.items client (max before_last number)
          → (c : ℕ) → c < length longer → IsMaximum longer c (length (slice_index_or longer c [])) (slice_index_or maxima c 0)
      maxima_more maxima set c small =
          let small' : c < length h = omega (arith, small, length-set h client (own ++ op ∷ [])) in
          elim (cases_eq c client) [
            | inl same ↦
                let next = maximum_next longer client (length own) before_last number (maximum_kept client (length own) before_last (omega arith) (was.each client inside)) is has in
                let own_maximum : slice_index_or maxima client 0 ≡ max before_last number =
                ap (λ (l : List ℕ). slice_index_or l client 0) set ∙ get_or-set_same old.sessions.items client (max before_last number) 0 (omega (arith, inside, was.clients)) in
                let at : IsMaximum longer client (length (slice_index_or longer client [])) (slice_index_or maxima client 0) =
                subst (λ (k : ℕ). IsMaximum longer client k (slice_index_or maxima client 0)) (sym own_length) (subst (IsMaximum longer client (length own + 1)) (sym own_maximum) next) in
                subst (λ (k : ℕ). IsMaximum longer k (length (slice_index_or longer k [])) (slice_index_or maxima k 0)) (sym same) at
            | inr differs ↦
                let others : slice_index_or maxima c 0 ≡ slice_index_or old.sessions.items c 0 =
                ap (λ (l : List ℕ). slice_index_or l c 0) set ∙ get_or-set_other old.sessions.items client c (max before_last number) 0 differs in
                let kept = maximum_kept c (length (slice_index_or h c [])) (slice_index_or old.sessions.items c 0) (omega arith) (was.each c small') in
                subst (λ (k : ℕ). IsMaximum longer c k (slice_index_or maxima c 0)) (sym (others_length c differs)) (subst (IsMaximum longer c (length (slice_index_or h c []))) (sym others) kept)
          ]

  -- the other sessions
  pub other_still_above : (c : ℕ) → c ≢ client → IsSessionAbove h c → IsSessionAbove longer c
  other_still_above c differs above name earlier of f = elim (below_was earlier name f.is_not_below) [
    | inl old ↦ let found = first_below h earlier name old in above name found.0 of found.1
    | inr new ↦ differs (sym of ∙ new.0)
  ]

  pub session_still_not_above : (c : ℕ) → HasNotAbove h c → HasNotAbove longer c
  session_still_not_above c not = let found = first_below longer not.1 not.0 (below_kept not.1 not.0 not.3.is_not_below) in (not.0, found.0, not.2, found.1)

  pub still_not_above : (name earlier : OpName) → IsNotAbove h name earlier → (n : OpName) × (e : OpName) × IsNotAbove longer n e
  still_not_above name earlier f = let found = first_below longer earlier name (below_kept earlier name f.is_not_below) in (name, found.0, found.1)

module _ (h : Sessions) (client : ℕ) (op : Operation) (inside : client < length h) (old new : Maxima) (was : AreSessionMaxima h old) where
  abbrev grown : Sessions
  grown = with_op h client op

  abbrev newest : OpName
  newest = record { client = client; index = length (slice_index_or h client []) }

  abbrev own_maximum : ℕ
  own_maximum = slice_index_or old.sessions.items client 0

  -- a number that is not above the maximum leaves it as it is
  unchanged : (number : ℕ) → number ≤ own_maximum → new.sessions.items ≡ old.sessions.items → new.sessions.items ≡ slice_set old.sessions.items client (max own_maximum number)
  unchanged number low same =
      same ∙ sym (set-get_or old.sessions.items client 0) ∙ ap (slice_set old.sessions.items client) (let m : own_maximum ≡ max own_maximum number = omega (arith, low) in m)

  clients_longer : (number : ℕ) → new.sessions.items ≡ slice_set old.sessions.items client number → length new.sessions.items ≡ length (with_op h client op)
  clients_longer number e = omega (arith, ap length e, length-set old.sessions.items client number, was.clients, length-set h client (slice_index_or h client [] ++ op ∷ []))

  flags_longer : length new.rise.items ≡ length old.rise.items → length new.rise.items ≡ length (with_op h client op)
  flags_longer e = omega (arith, e, was.flags, length-set h client (slice_index_or h client [] ++ op ∷ []))

  was_there : (c : ℕ) → c < length (with_op h client op) → c < length h
  was_there c small = omega (arith, small, length-set h client (slice_index_or h client [] ++ op ∷ []))

  flag_same : new.rise.items ≡ old.rise.items → (c : ℕ) → slice_index_or old.rise.items c false ≡ slice_index_or new.rise.items c false
  flag_same e c = ap (λ (l : List Bool). slice_index_or l c false) (sym e)

  flag_other : new.rise.items ≡ slice_set old.rise.items client false → (c : ℕ) → c ≢ client → slice_index_or old.rise.items c false ≡ slice_index_or new.rise.items c false
  flag_other e c differs = sym (ap (λ (l : List Bool). slice_index_or l c false) e ∙ get_or-set_other old.rise.items client c false false differs)

  flag_own : new.rise.items ≡ slice_set old.rise.items client false → slice_index_or new.rise.items client false ≡ false
  flag_own e = ap (λ (l : List Bool). slice_index_or l client false) e ∙ get_or-set_same old.rise.items client false false (omega (arith, inside, was.flags))

  pub took_low : (v : ℕ) (key : List ℕ) (content : Option (List ℕ)) → op ≡ write key content v → 0 < v → v ≤ own_maximum → new.sessions.items ≡ old.sessions.items → new.rise.items ≡ slice_set old.rise.items client false → new.are_above ≡ false
      → AreSessionMaxima (with_op h client op) new
  took_low v key content e some low same flag not =
      let put : PutsVersion grown newest v = (key, content, last_there h client op inside ∙ ap (λ (x : Operation). Some x) e) in
      record {
        clients = clients_longer (max own_maximum v) (unchanged v low same);
        each = maxima_more h client op inside old was v (λ w has. one_has grown newest v w (inl put) has) (inr (inl put)) new.sessions.items (unchanged v low same);
        flags = flags_longer (ap length flag ∙ length-set old.rise.items client false);
        session_above = λ c t. elim (cases_eq c client) [
          | inl equal ↦ let bad : true ≡ false = sym t ∙ ap (λ (k : ℕ). slice_index_or new.rise.items k false) equal ∙ flag_own flag in absurd cc
          | inr differs ↦ other_still_above h client op inside c differs (was.session_above c (flag_other flag c differs ∙ t))
        ];
        session_not_above = λ c small f. elim (cases_eq c client) [
          | inl equal ↦ subst (HasNotAbove grown) (sym equal) (falls h client op inside old was v put some low)
          | inr differs ↦ session_still_not_above h client op inside c (was.session_not_above c (was_there c small) (flag_other flag c differs ∙ f))
        ];
        above = λ t. let bad : true ≡ false = sym t ∙ not in absurd cc;
        not_above = λ _. let found = falls h client op inside old was v put some low in (found.0, found.1, found.3);
      }

  -- the last operation is not a put, or is a put above what its session saw
  climbed : (number : ℕ) → ((v : ℕ) → HasVersion grown newest v → number ≡ v) → (number ≡ 0) ⊎ HasVersion grown newest number → ((v : ℕ) → PutsVersion grown newest v → own_maximum < v)
      → new.sessions.items ≡ slice_set old.sessions.items client (max own_maximum number) → new.rise.items ≡ old.rise.items → new.are_above ≡ old.are_above
      → AreSessionMaxima (with_op h client op) new
  climbed number is has rises set flag kept = record {
    clients = clients_longer (max own_maximum number) set;
    each = maxima_more h client op inside old was number is has new.sessions.items set;
    flags = flags_longer (ap length flag);
    session_above = λ c t. session_still_above h client op inside old was rises c (was.session_above c (flag_same flag c ∙ t));
    session_not_above = λ c small f. session_still_not_above h client op inside c (was.session_not_above c (was_there c small) (flag_same flag c ∙ f));
    above = λ t. still_above h client op inside old was rises (was.above (sym kept ∙ t));
    not_above = λ f. let last = was.not_above (sym kept ∙ f) in still_not_above h client op inside last.0 last.1 last.2;
  }

  pub took_high : (v : ℕ) (key : List ℕ) (content : Option (List ℕ)) → op ≡ write key content v → own_maximum < v → new.sessions.items ≡ slice_set old.sessions.items client v → new.rise.items ≡ old.rise.items → new.are_above ≡ old.are_above
      → AreSessionMaxima (with_op h client op) new
  took_high v key content e high same =
      let put : PutsVersion grown newest v = (key, content, last_there h client op inside ∙ ap (λ (x : Operation). Some x) e) in
      climbed v (λ w has. one_has grown newest v w (inl put) has) (inr (inl put)) (λ w other. let s = one_version grown newest v w put other in omega (arith, s, high))
      (same ∙ ap (slice_set old.sessions.items client) (let m : v ≡ max own_maximum v = omega (arith, high) in m))

  pub took_got : (v : ℕ) (key : List ℕ) (content : Option (List ℕ)) → op ≡ read key content v → new.sessions.items ≡ slice_set old.sessions.items client (max own_maximum v) → new.rise.items ≡ old.rise.items → new.are_above ≡ old.are_above
      → AreSessionMaxima (with_op h client op) new
  took_got v key content e same =
      let at : op_at grown newest ≡ Some (read key content v) = last_there h client op inside ∙ ap (λ (x : Operation). Some x) e in
      climbed v (λ w has. one_has grown newest v w (inr (key, content, at)) has) (inr (inr (key, content, at)))
      (λ w other. let bad : Some (write other.0 other.1 w) ≡ Some (read key content v) = sym other.2 ∙ at in absurd cc)
      same

  pub took_missed : (key : List ℕ) → op ≡ missed key → new.sessions.items ≡ old.sessions.items → new.rise.items ≡ old.rise.items → new.are_above ≡ old.are_above
      → AreSessionMaxima (with_op h client op) new
  took_missed key e same =
      let at : op_at grown newest ≡ Some (missed key) = last_there h client op inside ∙ ap (λ (x : Operation). Some x) e in
      climbed 0 (λ w has. absurd (missed_has grown newest key w at has)) (inl refl) (λ w other. let bad : Some (write other.0 other.1 w) ≡ Some (missed key) = sym other.2 ∙ at in absurd cc)
      (unchanged 0 (omega arith) same)

-- sessions without operations
nothing_there : (clients : ℕ) (n : OpName) (x : Operation) → ¬ (op_at (replicate clients []) n ≡ Some x)
nothing_there clients n x at = let e : None ≡ Some x = sym (ap (λ (s : List Operation). slice_get s n.index) (none_of {X = Operation} clients n.client)) ∙ at in cc

pub no_maxima : (clients : ℕ) (maxima : Maxima) → maxima.sessions.items ≡ replicate clients 0 → maxima.rise.items ≡ replicate clients true → maxima.are_above ≡ true
    → AreSessionMaxima (replicate clients []) maxima
no_maxima clients maxima are rise above = record {
  clients = ap length are ∙ length-replicate clients 0 ∙ sym (length-replicate {A = List Operation} clients []);
  each = λ client small.
      let len : length (slice_index_or (replicate clients (let none : List Operation = [] in none)) client []) ≡ 0 = ap length (none_of {X = Operation} clients client) in
      let low : slice_index_or maxima.sessions.items client 0 ≡ 0 = ap (λ (l : List ℕ). slice_index_or l client 0) are ∙ get_or-replicate clients client 0 0 (omega (arith, small, length-replicate {A = List Operation} clients [])) in
      subst (λ (k : ℕ). IsMaximum (replicate clients []) client k (slice_index_or maxima.sessions.items client 0)) (sym len)
      (subst (IsMaximum (replicate clients []) client 0) (sym low) (maximum_none (replicate clients []) client));
  flags = ap length rise ∙ length-replicate clients true ∙ sym (length-replicate {A = List Operation} clients []);
  session_above = λ client t name earlier of f. let put = f.is_not_below.put in nothing_there clients name (write put.0 put.1 f.is_not_below.own) put.2;
  session_not_above = λ client small f.
      let up : slice_index_or maxima.rise.items client false ≡ true =
      ap (λ (l : List Bool). slice_index_or l client false) rise ∙ get_or-replicate clients client true false (omega (arith, small, length-replicate {A = List Operation} clients [])) in
      let bad : true ≡ false = sym up ∙ f in absurd cc;
  above = λ t name earlier f. let put = f.is_not_below.put in nothing_there clients name (write put.0 put.1 f.is_not_below.own) put.2;
  not_above = λ f. let e : true ≡ false = sym above ∙ f in cc;
}

-- the index of a set flag is within the list
pub flag_inside : (flags : List Bool) (i : ℕ) → slice_index_or flags i false ≡ true → i < length flags
flag_inside [] i is = let bad : false ≡ true = is in absurd cc
flag_inside (f ∷ flags) zero is = omega arith
flag_inside (f ∷ flags) (suc i) is = omega (arith, flag_inside flags i is)
