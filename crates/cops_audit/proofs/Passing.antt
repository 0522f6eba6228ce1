-- The first place on each key, handed on from each put to the next one on its key.
use Rattle.std.proofs.Common.{◌≡◌, ◌≢◌, ◌<◌, ◌≤◌, ◌+◌, ◌⊎◌, ℕ, zero, suc, List, length, Some, sym, ◌∙◌, ap, subst, inl, inr, arith, slice_get, slice_set}
use Rattle.std.proofs.Math.ListN.{length-set}
use Rattle.std.proofs.Math.Nat.{eq-or-lt_of_le}
use Rattle.std.proofs.lemmas.Bool.{cases_lt}
use Rattle.std.proofs.lemmas.Option.{slice_get_within}
use Rattle.cops_types.specs.Histories.{Sessions}
use Rattle.cops_types.specs.declared.versioned_put.VersionedPut.{VersionedPut}
use Rattle.cops_audit.specs.Keys.{AreFirsts, AreNexts, IsFirstOn, IsNext, OnKey}
use Rattle.cops_audit.specs.Tables.{IsVersionTable}
use Rattle.cops_audit.proofs.Bridging.{key_at}
use Rattle.cops_audit.proofs.Linking.{same_key, written}
use Rattle.cops_audit.proofs.Listing.{slice_get_there}
use Rattle.cops_audit.proofs.Places.{inside_table, stands_at}

-- either no place before this one was handed on to it, or what was is the first place on its key
abbrev pub Passed : Sessions → List VersionedPut → List ℕ → List ℕ → ℕ → ℕ → Type 0
Passed h table nexts firsts i q =
    ((slice_get firsts q ≡ Some q) × ((p : ℕ) → p < i → slice_get nexts p ≢ Some q))
    ⊎ ((first : ℕ) × (slice_get firsts q ≡ Some first) × ((key : List ℕ) → OnKey h table q key → IsFirstOn h table key first))

-- the first places of the puts before one, and what was handed on to those from it on
pub record PassedTo (h : Sessions) (table : List VersionedPut) (nexts : List ℕ) (firsts : List ℕ) (i : ℕ) : Type 0 where
  pub whole : length firsts ≡ length table
  pub before : (q first : ℕ) (key : List ℕ) → q < i → slice_get firsts q ≡ Some first → OnKey h table q key → IsFirstOn h table key first
  pub after : (q : ℕ) → i ≤ q → q < length table → Passed h table nexts firsts i q

module _ (h : Sessions) (table : List VersionedPut) (t : IsVersionTable h table) (nexts : List ℕ) (are : AreNexts h table nexts) where
  -- the key of a put
  own_key : (i : ℕ) → i < length table → (key : List ℕ) × OnKey h table i key
  own_key i inside = key_at h table t i _ _ (stands_at table i (record { version = 0; name = record { client = 0; index = 0 } }) inside)

  on_inside : (q : ℕ) (key : List ℕ) → OnKey h table q key → q < length table
  on_inside q key on = inside_table table q on.0 on.1 on.2

  -- a place on a key that is before another has a next one, which is not after the other
  next_of : (p q : ℕ) (key : List ℕ) → OnKey h table p key → OnKey h table q key → p < q → (n : ℕ) × (slice_get nexts p ≡ Some n) × (p < n) × (n ≤ q) × OnKey h table n key
  next_of p q key on_p on_q less =
      let there = slice_get_there nexts p (omega (arith, are.whole, on_inside p key on_p)) in
      let n = there.0 in
      let links = are.each p n there.1 in
      elim (cases_lt n (length table)) [
        | inl inside ↦ let next = links.0 inside in let k = next.1 key on_p in (n, there.1, next.0, k.1 q less on_q, k.0)
        | inr past ↦ absurd (links.1 past key on_p q less on_q)
      ]

  -- so some earlier place has it as its next
  previous : (fuel p q : ℕ) (key : List ℕ) → q ≤ p + fuel → OnKey h table p key → OnKey h table q key → p < q → (r : ℕ) × (r < q) × (slice_get nexts r ≡ Some q)
  previous zero p q key enough on_p on_q less = absurd (omega (arith, enough, less))
  previous (suc fuel) p q key enough on_p on_q less =
      let n = next_of p q key on_p on_q less in
      elim (eq-or-lt_of_le n.3) [
        | inl same ↦ (p, less, n.1 ∙ ap (λ (x : ℕ). Some x) same)
        | inr before ↦ previous fuel n.0 q key (omega (arith, enough, n.2)) n.4 on_q before
      ]

  module _ (firsts : List ℕ) (i : ℕ) (so_far : PassedTo h table nexts firsts i) (inside : i < length table) where
    -- the first place of the put at this place
    first_here : (first : ℕ) (key : List ℕ) → slice_get firsts i ≡ Some first → OnKey h table i key → IsFirstOn h table key first
    first_here first key at on = elim (so_far.after i (omega arith) inside) [
      | inl own ↦
          let e' : i ≡ first = cc (own.0, at) in
          subst (IsFirstOn h table key) e' (record {
            on_key = on;
            least = λ p on_p.
                let not : ¬ (p < i) = λ less. let r = previous i p i key (omega arith) on_p on less in own.1 r.0 r.1 r.2 in
                omega (arith, not);
          })
      | inr passed ↦
          let e' : passed.0 ≡ first = cc (passed.1, at) in
          subst (IsFirstOn h table key) e' (passed.2 key on)
    ]

    before_next : (q first : ℕ) (key : List ℕ) → q < i + 1 → slice_get firsts q ≡ Some first → OnKey h table q key → IsFirstOn h table key first
    before_next q first key less at on = elim (eq-or-lt_of_le (let le : q ≤ i = omega (arith, less) in le)) [
      | inl same ↦ first_here first key (ap (slice_get firsts) (sym same) ∙ at) (subst (λ (k : ℕ). OnKey h table k key) same on)
      | inr old ↦ so_far.before q first key old at on
    ]

    -- the last put on its key hands nothing on
    pub passed_none : (next : ℕ) → slice_get nexts i ≡ Some next → length table ≤ next → PassedTo h table nexts firsts (i + 1)
    passed_none next at_next past = record {
      whole = so_far.whole;
      before = before_next;
      after = λ q le in_q. elim (so_far.after q (omega (arith, le)) in_q) [
        | inl own ↦ inl (
          own.0,
          λ p less e. elim (eq-or-lt_of_le (let l : p ≤ i = omega (arith, less) in l)) [
            | inl same ↦
                let g : next ≡ q = cc (at_next, same, e) in
                omega (arith, g, past, in_q)
            | inr old ↦ own.1 p old e
          ],
        )
        | inr passed ↦ inr passed
      ];
    }

    -- any other put hands its first place on to the next one
    pub passed_on : (next first : ℕ) → slice_get nexts i ≡ Some next → next < length table → slice_get firsts i ≡ Some first → PassedTo h table nexts (slice_set firsts next first) (i + 1)
    passed_on next first at_next inside_next at_first =
        let is = (are.each i next at_next).0 inside_next in
        record {
          whole = omega (arith, length-set firsts next first, so_far.whole);
          before = λ q x key less at on. elim (written firsts next q first x at) [
            | inl w ↦ absurd (omega (arith, w.0, less, is.0))
            | inr w ↦ before_next q x key less w.1 on
          ];
          after = λ q le in_q.
              let there = slice_get_there (slice_set firsts next first) q (omega (arith, length-set firsts next first, so_far.whole, in_q)) in
              elim (written firsts next q first there.0 there.1) [
                | inl w ↦ inr (
                  there.0,
                  there.1,
                  λ key on.
                      let on' = on_here next first q key w.0 is on in
                      subst (IsFirstOn h table key) w.1 (first_here first key at_first on'),
                )
                | inr w ↦ elim (so_far.after q (omega (arith, le)) in_q) [
                  | inl own ↦
                      let e : Some q ≡ Some there.0 = sym own.0 ∙ w.1 in
                      inl (
                        there.1 ∙ sym e,
                        λ p less e'. elim (eq-or-lt_of_le (let l : p ≤ i = omega (arith, less) in l)) [
                          | inl same ↦ let f : Some next ≡ Some q = sym at_next ∙ ap (slice_get nexts) (sym same) ∙ e' in let g : next ≡ q = cc in w.0 (sym g)
                          | inr old ↦ own.1 p old e'
                        ],
                      )
                  | inr passed ↦ let e : Some passed.0 ≡ Some there.0 = sym passed.1 ∙ w.1 in inr (passed.0, there.1 ∙ sym e, passed.2)
                ]
              ];
        }
      where
        -- the next put's key is this one's
        on_here : (next first q : ℕ) (key : List ℕ) → q ≡ next → IsNext h table i (Some next) → OnKey h table q key → OnKey h table i key
        on_here next first q key same is on =
            let own = own_key i inside in
            let k : own.0 ≡ key = same_key h table t.rising next own.0 key (is.1 own.0 own.1).0 (subst (λ (x : ℕ). OnKey h table x key) same on) in
            subst (OnKey h table i) k own.1

pub all_passed : (h : Sessions) (table : List VersionedPut) (nexts : List ℕ) (firsts : List ℕ) (i : ℕ) → length table ≤ i → PassedTo h table nexts firsts i → AreFirsts h table firsts
all_passed h table nexts firsts i enough so_far = record {
  whole = so_far.whole;
  each = λ place first key at on. so_far.before place first key (let l = slice_get_within firsts place first at in omega (arith, l, enough, so_far.whole)) at on;
}
