-- What causal summaries say of a history.
use Rattle.std.proofs.Common.{◌≡◌, ◌<◌, ◌≤◌, ◌↔◌, ℕ, List, Some, refl, ◌∙◌, ap, subst, inl, inr, arith}
use Rattle.cops_types.specs.declared.op.OpName.{OpName}
use Rattle.cops_types.specs.Histories.{Sessions, IsMissed, PutsVersion, SourceStep}
use Rattle.cops_types.specs.Operations.{GetsVersion}
use Rattle.cops_types.specs.Faults.{HasNoSource, HasVersion}
use Rattle.cops_types.specs.declared.versioned_put.VersionedPut.{VersionedPut}
use Rattle.cops_audit.specs.declared.summaries.Summary.{Summary}
use Rattle.cops_audit.specs.declared.summaries.OpPlace.{OpPlace}
use Rattle.cops_audit.specs.declared.summaries.OpPlace.TheVariants.{Put, Got, Missed, Sourceless}
use Rattle.cops_audit.specs.Tables.{IsVersionTable}
use Rattle.cops_audit.specs.Summaries.{above, IsSummarized, IsSeen, IsSourceless, StandsAt, summary_at}
use Rattle.cops_audit.proofs.Acyclic.{one_version, put_is_no_get}
use Rattle.cops_audit.proofs.Gets.{one_get_version}
use Rattle.cops_audit.proofs.Summarizing.{summary_there, session_of}
use Rattle.cops_audit.proofs.Places.{place_rises}

-- a get that found nothing is no get of a version
pub missed_gets_nothing : (h : Sessions) (n : OpName) (k : List ℕ) (v : ℕ) → IsMissed h n k → GetsVersion h n v → ⊥
missed_gets_nothing h n k v nothing got = let found = got.2 in absurd cc

module _ (h : Sessions) (table : List VersionedPut) where
  -- the summary of a put has its own place
  pub seen_put : (n : OpName) (v : ℕ) (seen : OpPlace) → IsSeen h table n seen → PutsVersion h n v → (p : ℕ) × (seen ≡ Put p) × StandsAt table p n v
  seen_put n v (Put p) s put = (p, refl, subst (StandsAt table p n) (one_version h n n s.0 v s.1 put refl) s.2)
  seen_put n v (Got p) s put = absurd (put_is_no_get h n n v s.1 put s.3 refl)
  seen_put n v Missed s put = let nothing = s.1 in let found = put.2 in absurd cc
  seen_put n v (Sourceless p) s put = absurd (put_is_no_get h n n v s.0.version put (s.0.key, s.0.content, s.0.got) refl)

  -- the summary of a get that has a source has its source's place
  pub seen_got : (n : OpName) (v : ℕ) (seen : OpPlace) → ¬ HasNoSource h n → IsSeen h table n seen → GetsVersion h n v → (p : ℕ) × (s : OpName) × (seen ≡ Got p) × StandsAt table p s v × SourceStep h s n
  seen_got n v (Put p) some s got = absurd (put_is_no_get h n n s.0 v s.1 got refl)
  seen_got n v (Got p) some s got = (p, s.0, refl, subst (StandsAt table p s.0) (one_get_version h n s.1 v s.3 got) s.2, s.4)
  seen_got n v Missed some s got = absurd (missed_gets_nothing h n s.0 v s.1 got)
  seen_got n v (Sourceless p) some s got = absurd (some s.0)

  -- the summary of a get without a source has none
  pub seen_sourceless : (n : OpName) (seen : OpPlace) → IsSeen h table n seen → HasNoSource h n → (p : ℕ) × (seen ≡ Sourceless p)
  seen_sourceless n (Put p) s f = absurd (put_is_no_get h n n s.0 f.version s.1 (f.key, f.content, f.got) refl)
  seen_sourceless n (Got p) s f = absurd (f.none s.0 s.4)
  seen_sourceless n Missed s f = absurd (missed_gets_nothing h n s.0 f.version s.1 (f.key, f.content, f.got))
  seen_sourceless n (Sourceless p) s f = (p, refl)

module _ (h : Sessions) (table : List VersionedPut) (t : IsVersionTable h table) (summaries : List (List Summary)) (summarized : IsSummarized h table summaries) where
  -- what a summary says
  pub says : (n : OpName) (summary : Summary) → summary_at summaries n ≡ Some summary → IsSeen h table n summary.seen
  says n summary at = (session_of h table summaries summarized n summary at).seen n.index summary at

  pub sourceless_same : (n : OpName) → IsSourceless summaries n ↔ HasNoSource h n
  sourceless_same n = (
    (λ w. (says n (record { seen = Sourceless w.0; mark = w.1 }) w.2).0),
    (λ f.
        let there = summary_there h table summaries summarized n (_, f.got) in
        let is = seen_sourceless h table n there.0.seen (says n there.0 there.1) f in
        (is.0, there.0.mark, there.1 ∙ ap (λ (s : OpPlace). Some (let x : Summary = record { seen = s; mark = there.0.mark } in x)) is.1)),
  )

  -- an operation whose `above` is greater than a put's place has a version that is not below the put's
  pub above_version : (own place : ℕ) (name e : OpName) (seen : OpPlace) → StandsAt table place name own → IsSeen h table e seen → place < above seen → (w : ℕ) × HasVersion h e w × (own ≤ w)
  above_version own place name e (Put p) at s less =
      let not : ¬ (s.0 < own) = λ l. let q : p < place = place_rises table t.rising p place e name s.0 own s.2 at l in omega (arith, q, less) in
      (s.0, inl s.1, omega (arith, not))
  above_version own place name e (Got p) at s less =
      let not : ¬ (s.1 < own) = λ l. let q : p < place = place_rises table t.rising p place s.0 name s.1 own s.2 at l in omega (arith, q, less) in
      (s.1, inr s.3, omega (arith, not))
  above_version own place name e Missed at s less = absurd (omega (arith, less))
  above_version own place name e (Sourceless p) at s less = let l = s.1.before place name own at less in (s.0.version, inr (s.0.key, s.0.content, s.0.got), omega (arith, l))
