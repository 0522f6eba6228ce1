-- Gets that may be stale, and gets that are not suspects.
use Rattle.std.proofs.Common.{rules, ◌≡◌, ◌≢◌, ◌<◌, ◌≤◌, ℕ, List, Option, Some, None, refl, sym, ◌∙◌, subst, inl, inr, arith}
use Rattle.cops_types.specs.declared.op.OpName.{OpName}
use Rattle.cops_types.specs.Histories.{Sessions, IsGot, IsMissed, PutsKey, PutsVersion}
use Rattle.cops_types.specs.Operations.{GetsVersion}
use Rattle.cops_types.specs.declared.versioned_put.VersionedPut.{VersionedPut}
use Rattle.cops_audit.specs.declared.summaries.OpPlace.TheVariants as seen
use Rattle.cops_audit.specs.SoFar.{IsWaiting}
use Rattle.cops_audit.specs.Tables.{IsVersionTable}
use Rattle.cops_audit.specs.Summaries.{IsSeen, StandsAt}
use Rattle.cops_audit.specs.Keys.{IsFirstFrom, IsFirstOn, IsNext, OnKey}
use Rattle.cops_audit.specs.Windows.{HasFirst, IsSuspect, NoneWithin, WouldBeNewer}
use Rattle.cops_audit.proofs.Acyclic.{one_version}
use Rattle.cops_audit.proofs.Gets.{one_get_version}
use Rattle.cops_audit.proofs.Linking.{same_key}
use Rattle.cops_audit.proofs.Reading.{missed_gets_nothing}
use Rattle.cops_audit.proofs.Places.{put_there, place_rises, version_rises, same_place}

one_got : (h : Sessions) (n : OpName) (a b : List ℕ) (x y : Option (List ℕ)) (v w : ℕ) → IsGot h n a x v → IsGot h n b y w → (a ≡ b) × (v ≡ w)
one_got h n a b x y v w first second = search rules

module _ (h : Sessions) (table : List VersionedPut) (t : IsVersionTable h table) where
  -- the first place on a key is the first place of each put on it
  has_first : (p first : ℕ) (k : List ℕ) → OnKey h table p k → IsFirstFrom h table 0 k (Some first) → HasFirst h table p first
  has_first p first k on is key on' =
      let same : k ≡ key = same_key h table t.rising p k key on on' in
      subst (λ x. IsFirstOn h table x first) same (record { on_key = is.1; least = λ place there. is.2 place (omega arith) there })

  -- a put with that first place is on that key
  on_first : (p first : ℕ) (k : List ℕ) (put : OpName) (version : ℕ) → StandsAt table p put version → HasFirst h table p first → OnKey h table first k → PutsKey h put k version
  on_first p first k put version at has on =
      let puts : PutsVersion h put version = put_there h table t.table p put version at in
      let own : PutsKey h put puts.0 version = (puts.1, puts.2) in
      let same : puts.0 ≡ k = same_key h table t.rising first puts.0 k (has puts.0 (put, version, at, own)).on_key on in
      subst (λ x. PutsKey h put x version) same own

  module _ (op : OpName) (k : List ℕ) (nothing : IsMissed h op k) where
    would_missed : (p : ℕ) (put : OpName) (version : ℕ) → StandsAt table p put version → WouldBeNewer h op put version → OnKey h table p k
    would_missed p put version at (key, puts, inl got) = absurd (missed_gets_nothing h op k got.1 nothing (key, got.0, got.2))
    would_missed p put version at (key, puts, inr other) = (put, version, at, subst (λ x. PutsKey h put x version) (let same : key ≡ k = cc in same) puts)

    pub missed_clear : (mark : ℕ) → IsFirstFrom h table 0 k None → NoneWithin h table op mark
    missed_clear mark none p put version at would = absurd (none p (omega arith) (would_missed p put version at would))

    pub missed_far : (mark first : ℕ) → IsFirstFrom h table 0 k (Some first) → mark ≤ first → NoneWithin h table op mark
    missed_far mark first is far p put version at would = omega (arith, far, is.2 p (omega arith) (would_missed p put version at would))

    pub missed_is : (first : ℕ) → IsFirstFrom h table 0 k (Some first) → IsSuspect h table (record { op = op; first = first; from = first })
    missed_is first is = record {
      named = (_, nothing);
      later = λ p put version at would. let on = would_missed p put version at would in (is.2 p (omega arith) on, has_first p first k on is);
      newer = λ p put version at le has. (k, on_first p first k put version at has is.1, inr nothing);
      source = λ p put version at s. absurd (missed_gets_nothing h op k s.version nothing (s.key, s.content, s.got));
    }

  module _ (op : OpName) (place : ℕ) (got : IsSeen h table op (seen.Sourceless place)) (waits : IsWaiting h op) where
    would_wait : (p : ℕ) (put : OpName) (version : ℕ) → StandsAt table p put version → WouldBeNewer h op put version → OnKey h table p got.0.key × (place ≤ p)
    would_wait p put version at (key', puts, inr nothing) = absurd (missed_gets_nothing h op key' got.0.version nothing (got.0.key, got.0.content, got.0.got))
    would_wait p put version at (key', puts, inl g) =
        let same = one_got h op key' got.0.key g.0 got.0.content g.1 got.0.version g.2 got.0.got in
        let not : ¬ (p < place) = λ l. let low = got.1.before p put version at l in omega (arith, low, same.1, g.3) in
        ((put, version, at, subst (λ x. PutsKey h put x version) same.0 puts), omega (arith, not))

    pub waiting_clear : (mark : ℕ) → IsFirstFrom h table 0 got.0.key None → NoneWithin h table op mark
    waiting_clear mark none p put version at would = absurd (none p (omega arith) (would_wait p put version at would).0)

    pub waiting_is : (first : ℕ) → IsFirstFrom h table 0 got.0.key (Some first) → IsSuspect h table (record { op = op; first = first; from = place })
    waiting_is first is = record {
      named = (_, got.0.got);
      later = λ p put version at would. let w = would_wait p put version at would in (w.1, has_first p first got.0.key w.0 is);
      newer = λ p put version at le has.
          let gets : GetsVersion h op got.0.version = (got.0.key, got.0.content, got.0.got) in
          let late : waits.version ≡ got.0.version = one_get_version h op waits.version got.0.version waits.gets gets in
          let differs : version ≢ got.0.version = λ e. waits.none put (subst (PutsVersion h put) (e ∙ sym late) (put_there h table t.table p put version at)) in
          (got.0.key, on_first p first got.0.key put version at has is.1, inl (got.0.content, got.0.version, got.0.got, let l = got.1.from p put version at le in omega (arith, l, differs)));
      source = λ p put version at s. absurd (got.0.none put s);
    }

  module _ (op : OpName) (place : ℕ) (got : IsSeen h table op (seen.Got place)) where
    -- the version of the source
    version_is : got.4.version ≡ got.1
    version_is = one_get_version h op got.4.version got.1 (got.4.key, got.4.content, got.4.got) got.3

    source_key : PutsKey h got.0 got.4.key got.1
    source_key = subst (PutsKey h got.0 got.4.key) version_is (got.4.content, got.4.put)

    pub on_source : OnKey h table place got.4.key
    on_source = (got.0, got.1, got.2, source_key)

    would_got : (p : ℕ) (put : OpName) (version : ℕ) → StandsAt table p put version → WouldBeNewer h op put version → OnKey h table p got.4.key × (place < p)
    would_got p put version at (key', puts, inr nothing) = absurd (missed_gets_nothing h op key' got.4.version nothing (got.4.key, got.4.content, got.4.got))
    would_got p put version at (key', puts, inl g) =
        let same = one_got h op key' got.4.key g.0 got.4.content g.1 got.4.version g.2 got.4.got in
        let v : g.1 ≡ got.1 = same.1 ∙ version_is in
        ((put, version, at, subst (λ x. PutsKey h put x version) same.0 puts), place_rises table t.rising place p got.0 put got.1 version got.2 at (omega (arith, v, g.3)))

    pub got_clear : (mark : ℕ) → IsNext h table place None → NoneWithin h table op mark
    got_clear mark none p put version at would = let w = would_got p put version at would in absurd (none got.4.key on_source p w.1 w.0)

    pub got_far : (mark from : ℕ) → IsNext h table place (Some from) → mark ≤ from → NoneWithin h table op mark
    got_far mark from next far p put version at would =
        let w = would_got p put version at would in
        omega (arith, far, (next.1 got.4.key on_source).1 p w.1 w.0)

    pub got_is : (first from : ℕ) → IsNext h table place (Some from) → IsFirstFrom h table 0 got.4.key (Some first) → IsSuspect h table (record { op = op; first = first; from = from })
    got_is first from next is = record {
      named = (_, got.4.got);
      later = λ p put version at would. let w = would_got p put version at would in ((next.1 got.4.key on_source).1 p w.1 w.0, has_first p first got.4.key w.0 is);
      newer = λ p put version at le has. (
        got.4.key,
        on_first p first got.4.key put version at has is.1,
        inl (got.4.content, got.4.version, got.4.got, omega (arith, version_is, version_rises table t.rising place p got.0 put got.1 version got.2 at (omega (arith, next.0, le)))),
      );
      source = λ p put version at s.
          let v : s.version ≡ got.4.version = (one_got h op s.key got.4.key s.content got.4.content s.version got.4.version s.got got.4.got).1 in
          let w : version ≡ s.version = one_version h put put version s.version (put_there h table t.table p put version at) (s.key, s.content, s.put) refl in
          let e : p ≡ place = same_place table t.rising p place put got.0 got.1 (subst (StandsAt table p put) (w ∙ v ∙ version_is) at) got.2 in
          omega (arith, e, next.0);
    }
