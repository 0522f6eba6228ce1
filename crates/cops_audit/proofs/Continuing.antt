-- A lasting fault stays, and a clean history is an accepted one.
use Rattle.std.proofs.Common.{rules, ◌↔◌, ℕ, List, sym, subst, inl, inr}
use Rattle.cops_types.specs.declared.op.OpName.{OpName}
use Rattle.cops_types.specs.Histories.{Sessions, PutsVersion, SourceStep}
use Rattle.cops_types.specs.Operations.{GetsVersion}
use Rattle.cops_types.specs.Past.{Step, Past, step, more}
use Rattle.cops_types.specs.Faults.{HasNoSource, IsNewer, IsNotAbove, IsNotBelow, IsStale}
use Rattle.cops_types.specs.VersionOrder.{IsDoubled}
use Rattle.cops_types.specs.Verdicts.{IsAccepted}
use Rattle.cops_audit.specs.declared.verdict.NotAbove.{NotAbove}
use Rattle.cops_audit.specs.declared.verdict.Stale.{Stale}
use Rattle.cops_audit.specs.declared.verdict.SoFar.TheVariants as so_far
use Rattle.cops_audit.specs.declared.verdict.Verdict.{Verdict}
use Rattle.cops_audit.specs.declared.verdict.Verdict.TheVariants.{Accepted, Refused}
use Rattle.cops_audit.specs.declared.verdict.Faults.TheVariants as class
use Rattle.cops_audit.specs.SoFar.{IsSoFar, IsWaiting, HasLastingFault, Continues}
use Rattle.cops_audit.specs.Verdicts.{Accepts, IsVerdict}
use Rattle.cops_audit.proofs.Firsts.{versions_rise, none_newer}
use Rattle.cops_audit.proofs.Exact.{source_of, source_version}
use Rattle.cops_audit.proofs.Unique.{some_fault}
use Rattle.cops_audit.proofs.Differing.{name_cases}

module _ (h longer : Sessions) (continues : Continues h longer) where
  puts_stay : (name : OpName) (v : ℕ) → PutsVersion h name v → PutsVersion longer name v
  puts_stay name v put = (put.0, put.1, continues name _ put.2)

  step_stays : (a b : OpName) → Step h a b → Step longer a b
  step_stays a b (inl s) = inl (record { same_client = s.same_client; earlier = s.earlier; is_there = (s.is_there.0, continues b _ s.is_there.1) })
  step_stays a b (inr s) = inr (record { key = s.key; content = s.content; version = s.version; put = continues a _ s.put; got = continues b _ s.got })

  pub past_stays : (a b : OpName) → Past h a b → Past longer a b
  past_stays a b (step s) = step (step_stays a b s)
  past_stays a b (more {by = m} p s) = more (past_stays a m p) (step_stays m b s)

  not_below_stays : (e n : OpName) → IsNotBelow h e n → IsNotBelow longer e n
  not_below_stays e n f = search rules

  newer_stays : (n q : OpName) (w : ℕ) → IsNewer h n q w → IsNewer longer n q w
  newer_stays n q w f = record {
    key = f.key;
    put = (f.put.0, continues q _ f.put.1);
    past = past_stays q n f.past;
    returned = elim f.returned [ inl g ↦ inl (g.0, g.1, continues n _ g.2, g.3) | inr m ↦ inr (continues n _ m) ];
  }

  -- a source in the longer history was one before, where both operations were in it
  source_was : (put got : OpName) (v w : ℕ) → PutsVersion h put v → GetsVersion h got w → SourceStep longer put got → SourceStep h put got
  source_was put got v w is_put is_got s = search rules

  pub stays_refused : HasLastingFault h → (puts : List OpName) → ¬ IsAccepted longer puts
  stays_refused (inl d) puts accepted =
      let f = d.1 in
      accepted.doubled d.0 (record { version = f.version; put = puts_stay d.0 f.version f.put; other = f.other; other_put = puts_stay f.other f.version f.other_put; differs = f.differs })
  stays_refused (inr (inl a)) puts accepted = versions_rise longer accepted.above a.1 a.0 (not_below_stays a.1 a.0 a.2.is_not_below)
  stays_refused (inr (inr (inl s))) puts accepted = none_newer longer accepted.stale s.0 s.1 s.2.version (newer_stays s.0 s.1 s.2.version s.2.is_newer)
  stays_refused (inr (inr (inr m))) puts accepted =
      let f = m.2 in
      let got = continues m.0 _ f.gets.2 in
      let s = source_of longer accepted.sources m.0 f.gets.0 f.gets.1 f.version got in
      let has_version = source_version longer s.0 m.0 f.gets.0 f.gets.1 f.version s.1 got in
      elim (name_cases m.1 s.0) [
        | inl same ↦ f.no_source (source_was m.1 m.0 f.version f.version f.puts f.gets (subst (λ p. SourceStep longer p m.0) (sym same) s.1))
        | inr differs ↦ accepted.doubled s.0 (record { version = f.version; put = has_version; other = m.1; other_put = puts_stay m.1 f.version f.puts; differs = differs })
      ]

-- no get waits in an accepted history
pub none_waits : (h : Sessions) (puts : List OpName) → IsAccepted h puts → (n : OpName) → ¬ IsWaiting h n
none_waits h puts accepted n w =
    let s = source_of h accepted.sources n w.gets.0 w.gets.1 w.version w.gets.2 in
    w.none s.0 (source_version h s.0 n w.gets.0 w.gets.1 w.version s.1 w.gets.2)

sources_there : (h : Sessions) → ¬ HasLastingFault h → ((n : OpName) → ¬ IsWaiting h n) → (n : OpName) → ¬ HasNoSource h n
sources_there h no_fault none_waiting n f = none_waiting n (record {
  version = f.version;
  gets = (f.key, f.content, f.got);
  none = λ put has_version.
      no_fault (inr (inr (inr (n, put, record { version = f.version; gets = (f.key, f.content, f.got); puts = has_version; no_source = f.none put }))));
})

-- the only verdict on a clean history is acceptance
clean_accepts : (h : Sessions) (v : Verdict) → IsVerdict h v → ¬ HasLastingFault h → ((n : OpName) → ¬ IsWaiting h n) → Accepts v
clean_accepts h (Accepted puts) is no_fault none_waiting = tt
clean_accepts h (Refused (class.Doubled a)) is no_fault none_waiting = let x = some_fault {A = OpName} (λ n. n) (IsDoubled h) a.items is.0 is.1 in absurd (no_fault (inl (x.0, x.1)))
clean_accepts h (Refused (class.NoSource a)) is no_fault none_waiting = let x = some_fault {A = OpName} (λ n. n) (HasNoSource h) a.items is.1 is.2 in absurd (sources_there h no_fault none_waiting x.0 x.1)
clean_accepts h (Refused (class.NotAbove a)) is no_fault none_waiting =
    let x = some_fault {A = NotAbove} (λ f. f.op) (λ f. IsNotAbove h f.op f.earlier) a.items is.2 is.3 in absurd (no_fault (inr (inl (x.0.op, x.0.earlier, x.1))))
clean_accepts h (Refused (class.Stale a)) is no_fault none_waiting =
    let x = some_fault {A = Stale} (λ f. f.op) (λ f. IsStale h f.op f.newer) a.items is.3 is.4 in absurd (no_fault (inr (inr (inl (x.0.op, x.0.newer, x.1)))))

pub clean_where : (h : Sessions) (v : Verdict) → IsVerdict h v → IsSoFar h so_far.Clean ↔ Accepts v
clean_where h v is = (λ clean. clean_accepts h v is clean.0 clean.1, λ accepts. accepted_clean v is accepts)
  where
    accepted_clean : (v : Verdict) → IsVerdict h v → Accepts v → IsSoFar h so_far.Clean
    accepted_clean (Accepted puts) is accepts = (λ fault. stays_refused h h (λ n op e. e) fault puts.items is, none_waits h puts.items is)
    accepted_clean (Refused faults) is accepts = absurd accepts

pub refused_stays : (h longer : Sessions) (v : Verdict) → IsSoFar h so_far.Refused → Continues h longer → IsVerdict longer v → ¬ Accepts v
refused_stays h longer (Accepted puts) fault continues is accepts = stays_refused h longer continues fault puts.items is
refused_stays h longer (Refused faults) fault continues is accepts = accepts
