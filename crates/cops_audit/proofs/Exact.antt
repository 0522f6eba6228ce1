-- Accepted exactly where convergent with the version order.
use Rattle.std.proofs.Common.{rules, ◌≡◌, ◌≢◌, ◌<◌, ◌⊎◌, ℕ, List, [], ◌∷◌, Option, Some, refl, sym, subst, inl, inr, arith, slice_get, Contains, length}
use Rattle.std.proofs.lemmas.Option.{slice_get_read, slice_get_within, get_or_from_slice_get}
use Rattle.cops_types.specs.declared.op.OpName.{OpName}
use Rattle.cops_types.specs.Histories.{Sessions, IsGot, IsMissed, PutsVersion, SessionStep, SourceStep, write}
use Rattle.cops_types.specs.Past.{Step, Past, step, more}
use Rattle.cops_types.specs.Convergence.{Order, Precedes, IsCausalOrder, StandsBefore, IsArbitration, ReturnsLast, Explains, ConvergesBy}
use Rattle.cops_types.specs.Verdicts.{AllHaveSources, IsAccepted}
use Rattle.cops_types.specs.VersionOrder.{IsVersionOrder, NoneDoubled}
use Rattle.cops_types.specs.Faults.{IsNotBelow, IsNewer}
use Rattle.cops_audit.proofs.Acyclic.{VersionsRise, one_version, irreflexive, past_below}
use Rattle.cops_audit.proofs.Firsts.{versions_rise, none_newer}
use Rattle.cops_audit.specs.Names.{names_of}
use Rattle.cops_audit.proofs.Naming.{names_listed}
use Rattle.cops_audit.proofs.Listing.{first_or_later}
use Rattle.cops_audit.proofs.PastOrder.{past_order, precedes_past, past_precedes, past_joined, source_dec}

-- a place in a list, and that the list has the element
place_of : {A : Type 0} (xs : List A) (x : A) → Contains xs x → (i : ℕ) × (slice_get xs i ≡ Some x)
place_of xs x at = (at.0, slice_get_read xs (length xs) at.0 x refl at.1 (sym at.2))

has_place : {A : Type 0} (xs : List A) (i : ℕ) (x : A) → slice_get xs i ≡ Some x → Contains xs x
has_place xs i x e = (i, slice_get_within xs i x e, get_or_from_slice_get xs i x x e)

one_element : {A : Type 0} (xs : List A) (i j : ℕ) (x y : A) → slice_get xs i ≡ Some x → slice_get xs j ≡ Some y → i ≡ j → x ≡ y
one_element xs i j x y e f g = search rules

module _ (h : Sessions) (names : List OpName) (by_version : IsVersionOrder h names) where
  lower_before : (p q : OpName) (v w : ℕ) → PutsVersion h p v → PutsVersion h q w → v < w → StandsBefore names p q
  lower_before p q v w first second less =
      let at_p = place_of names p ((by_version.members p).1 (v, first)) in
      let at_q = place_of names q ((by_version.members q).1 (w, second)) in
      let not_same : ¬ (at_p.0 ≡ at_q.0) = λ e. omega (arith, one_version h p q v w first second (one_element names at_p.0 at_q.0 p q at_p.1 at_q.1 e), less) in
      let not_after : ¬ (at_q.0 < at_p.0) = λ e. omega (arith, by_version.rising q p w v (at_q.0, at_p.0, e, at_q.1, at_p.1) second first, less) in
      (at_p.0, at_q.0, omega (arith, not_same, not_after), at_p.1, at_q.1)

  each_once : (p : OpName) → ¬ StandsBefore names p p
  each_once p twice =
      let put = (by_version.members p).0 (has_place names twice.0 p twice.3) in
      omega (arith, by_version.rising p p put.0 put.0 twice put.1 put.1)

-- a get's source is found, where there is one
find_source : (h : Sessions) (got : OpName) (names : List OpName) → ((s : OpName) × SourceStep h s got) ⊎ ((s : OpName) → Contains names s → ¬ SourceStep h s got)
find_source h got [] = inr (λ s there is. omega (arith, there.1))
find_source h got (n ∷ ns) = elim (source_dec h n got) [
  | yes is ↦ inl (n, is)
  | no differs ↦ elim (find_source h got ns) [
    | inl found ↦ inl found
    | inr none ↦ inr (λ s there is. elim (first_or_later n ns s there) [ inl same ↦ differs (subst (λ x. SourceStep h x got) (sym same) is) | inr later ↦ none s later is ])
  ]
]

pub source_of : (h : Sessions) → AllHaveSources h → (got : OpName) (key : List ℕ) (content : Option (List ℕ)) (version : ℕ) → IsGot h got key content version → (s : OpName) × SourceStep h s got
source_of h sourced got key content version is_got = elim (find_source h got (names_of h)) [
  | inl found ↦ found
  | inr none ↦ absurd (sourced got (record {
    key = key;
    content = content;
    version = version;
    got = is_got;
    none = λ s is. none s (((names_listed h).members s).1 (_, is.put)) is;
  }))
]

-- the source of a get has the get's version
pub source_version : (h : Sessions) (s got : OpName) (key : List ℕ) (content : Option (List ℕ)) (version : ℕ) → SourceStep h s got → IsGot h got key content version → PutsVersion h s version
source_version h s got key content version is_source is_got = search rules

module _ (h : Sessions) (names : List OpName) (accepted : IsAccepted h names) where
  rise : VersionsRise h
  rise = versions_rise h accepted.above

  past_is_causal : IsCausalOrder h (past_order h)
  past_is_causal = record {
    irreflexive = λ a p. irreflexive h rise a (precedes_past h a a p);
    transitive = λ a b c p q. past_precedes h a c (past_joined h a b c (precedes_past h a b p) (precedes_past h b c q));
    sessions = λ a b s. past_precedes h a b (step (inl s));
    sources = λ a b s. past_precedes h a b (step (inr s));
  }

  versions_arbitrate : IsArbitration h (past_order h) names
  versions_arbitrate = record {
    puts = record { members = accepted.version_order.members; once = each_once h names accepted.version_order };
    extends = λ p q first second before. lower_before h names accepted.version_order p q first.0 second.0 first.1 second.1
        (past_below h rise p q first.0 second.0 first.1 second.1 (precedes_past h p q before));
  }

  returns_last : (got : OpName) (key : List ℕ) (content : Option (List ℕ)) (version : ℕ) → IsGot h got key content version → ReturnsLast h (past_order h) names got key
  returns_last got key content version is_got =
      let s = source_of h accepted.sources got key content version is_got in
      let put = source_version h s.0 got key content version s.1 is_got in
      record {
        source = s.0;
        is_source = s.1;
        last = λ q w on_key other before.
            let has_version : PutsVersion h q w = (key, on_key.0, on_key.1) in
            let not_above : ¬ (version < w) = λ less. none_newer h accepted.stale got q w (record {
              key = key;
              put = on_key;
              past = precedes_past h q got before;
              returned = inl (content, version, is_got, less);
            }) in
            let not_same : ¬ (version ≡ w) = λ e. accepted.doubled s.0 (record {
              version = version;
              put = put;
              other = q;
              other_put = subst (PutsVersion h q) (sym e) has_version;
              differs = other;
            }) in
            lower_before h names accepted.version_order q s.0 w version has_version put (omega (arith, not_above, not_same));
      }

  pub converges : ConvergesBy h names
  converges = (
    past_order h,
    past_is_causal,
    versions_arbitrate,
    record {
      got = returns_last;
      missed = λ got q key w is_missed on_key before. none_newer h accepted.stale got q w (record {
        key = key;
        put = on_key;
        past = precedes_past h q got before;
        returned = inr is_missed;
      });
    },
  )

module _ (h : Sessions) (order : Order) (causal : IsCausalOrder h order) where
  step_ordered : (a b : OpName) → Step h a b → Precedes order a b
  step_ordered a b (inl s) = causal.sessions a b s
  step_ordered a b (inr s) = causal.sources a b s

  past_ordered : (a b : OpName) → Past h a b → Precedes order a b
  past_ordered a b (step s) = step_ordered a b s
  past_ordered a b (more {by = m} p s) = causal.transitive a m b (past_ordered a m p) (step_ordered m b s)

module _ (h : Sessions) (names : List OpName) (by_version : IsVersionOrder h names) (order : Order) (causal : IsCausalOrder h order)
    (arbitrates : IsArbitration h order names) (explains : Explains h order names) where
  ordered_rises : (p q : OpName) (v w : ℕ) → PutsVersion h p v → PutsVersion h q w → Precedes order p q → v < w
  ordered_rises p q v w first second before = by_version.rising p q v w (arbitrates.extends p q (v, first) (w, second) before) first second

  none_sourceless : AllHaveSources h
  none_sourceless name fault =
      let r = explains.got name fault.key fault.content fault.version fault.got in
      fault.none r.source r.is_source

  none_below : (e n : OpName) → ¬ IsNotBelow h e n
  none_below e n f = by_cases f.has
    where
      session : SessionStep h e n
      session = record { same_client = f.same_client; earlier = f.before; is_there = (write f.put.0 f.put.1 f.own, f.put.2) }

      by_cases : (PutsVersion h e f.version) ⊎ ((key : List ℕ) × (content : Option (List ℕ)) × IsGot h e key content f.version) → ⊥
      by_cases (inl put) = omega (arith, f.not_below, ordered_rises e n f.version f.own put f.put (causal.sessions e n session))
      by_cases (inr got) =
          let r = explains.got e got.0 got.1 f.version got.2 in
          let put = source_version h r.source e got.0 got.1 f.version r.is_source got.2 in
          omega (
            arith,
            f.not_below,
            ordered_rises r.source n f.version f.own put f.put
                (causal.transitive r.source e n (causal.sources r.source e r.is_source) (causal.sessions e n session)),
          )

  none_newer_there : (n q : OpName) (w : ℕ) → ¬ IsNewer h n q w
  none_newer_there n q w f = by_cases f.returned
    where
      before : Precedes order q n
      before = past_ordered h order causal q n f.past

      by_cases : ((content : Option (List ℕ)) × (old : ℕ) × IsGot h n f.key content old × (old < w)) ⊎ IsMissed h n f.key → ⊥
      by_cases (inr missed) = explains.missed n q f.key w missed f.put before
      by_cases (inl got) =
          let r = explains.got n f.key got.0 got.1 got.2 in
          let put = source_version h r.source n f.key got.0 got.1 r.is_source got.2 in
          let has_version : PutsVersion h q w = (f.key, f.put.0, f.put.1) in
          let other : q ≢ r.source = λ e. omega (arith, got.3, one_version h q r.source w got.1 has_version put e) in
          omega (arith, got.3, by_version.rising q r.source w got.1 (r.last q w f.put other before) has_version put)

pub accepted_where : (h : Sessions) (names : List OpName) → NoneDoubled h → IsVersionOrder h names → ConvergesBy h names → IsAccepted h names
accepted_where h names single by_version c = record {
  doubled = single;
  sources = none_sourceless h names by_version c.0 c.1 c.2 c.3;
  above = λ n e fault. none_below h names by_version c.0 c.1 c.2 c.3 e n fault.is_not_below;
  stale = λ n q fault. none_newer_there h names by_version c.0 c.1 c.2 c.3 n q fault.version fault.is_newer;
  version_order = by_version;
}
