-- Where each put's version is above all versions that its session put or got before, steps have no cycle.
use Rattle.std.proofs.Common.{rules, ◌≡◌, ◌<◌, ◌≤◌, ◌⊎◌, ℕ, refl, sym, ◌∙◌, ap, inl, inr, arith}
use Rattle.std.proofs.Math.Nat.{eq-or-lt_of_le}
use Rattle.cops_types.specs.declared.op.OpName.{OpName}
use Rattle.cops_types.specs.Histories.{Sessions, PutsVersion, SourceStep}
use Rattle.cops_types.specs.Operations.{GetsVersion}
use Rattle.cops_types.specs.Past.{Step, Past, step, more}
use Rattle.cops_types.specs.Faults.{IsNotBelow}

pub same_name : (a b : OpName) → a.client ≡ b.client → a.index ≡ b.index → a ≡ b
same_name a b c i = ap (λ (p : ℕ × ℕ). let n : OpName = record { client = p.0; index = p.1 } in n) (let q : (a.client, a.index) ≡ (b.client, b.index) = cc in q)

-- no operation is both a put and a get
pub put_is_no_get : (h : Sessions) (p g : OpName) (v w : ℕ) → PutsVersion h p v → GetsVersion h g w → p ≡ g → ⊥
put_is_no_get h p g v w put got e = search rules

-- a put has one version
pub one_version : (h : Sessions) (p q : OpName) (v w : ℕ) → PutsVersion h p v → PutsVersion h q w → p ≡ q → v ≡ w
one_version h p q v w first second e = search rules

-- two operations of one session, the first at or before the second
abbrev pub AtOrBefore : OpName → OpName → Type 0
AtOrBefore a b = (a.client ≡ b.client) × (a.index ≤ b.index)

-- a put in the session of the one, at or after it, with a version that is not above that of the other, a get
pub record Crosses (h : Sessions) (from got : OpName) : Type 0 where
  pub put : OpName
  pub v : ℕ
  pub w : ℕ
  pub is_put : PutsVersion h put v
  pub is_got : GetsVersion h got w
  pub rises : v ≤ w
  pub after_from : AtOrBefore from put

-- no put has an earlier put or get of its session with a version that is not below its own
abbrev pub VersionsRise : Sessions → Type 0
VersionsRise h = (earlier name : OpName) → ¬ IsNotBelow h earlier name

module _ (h : Sessions) (rise : VersionsRise h) where
  -- a put's version is above that of a get at or before it in its session
  pub got_below : (g p : OpName) (v w : ℕ) → GetsVersion h g v → PutsVersion h p w → AtOrBefore g p → v < w
  got_below g p v w got put at =
      let other : ¬ (g.index ≡ p.index) = λ e. put_is_no_get h p g w v put got (same_name p g (sym at.0) (sym e)) in
      let not : ¬ (w ≤ v) = λ le. rise g p (record { version = v; own = w; put = put; has = inr got; same_client = at.0; before = omega arith; not_below = le }) in
      omega (arith, not)

  -- a put's version is above that of an earlier put of its session
  put_below : (p q : OpName) (v w : ℕ) → PutsVersion h p v → PutsVersion h q w → p.client ≡ q.client → p.index < q.index → v < w
  put_below p q v w first second same before =
      let not : ¬ (w ≤ v) = λ le. rise p q (record { version = v; own = w; put = second; has = inl first; same_client = same; before = before; not_below = le }) in
      omega (arith, not)

  -- what is in the past is earlier in the session, or is seen through a get at or before the operation
  abbrev Precise : OpName → OpName → Type 0
  Precise a b = ((a.client ≡ b.client) × (a.index < b.index)) ⊎ ((got : OpName) × Crosses h a got × AtOrBefore got b)

  crossing : (a b c : OpName) → AtOrBefore a b → SourceStep h b c → Crosses h a c
  crossing a b c at s = record {
    put = b;
    v = s.version;
    w = s.version;
    is_put = (s.key, s.content, s.put);
    is_got = (s.key, s.content, s.got);
    rises = omega arith;
    after_from = at;
  }

  more_precise : (a b c : OpName) → Precise a b → Step h b c → Precise a c
  more_precise a b c (inl e) (inl s) = inl (e.0 ∙ s.same_client, omega (arith, s.earlier, e.1))
  more_precise a b c (inl e) (inr s) = inr (c, crossing a b c (e.0, omega (arith, e.1)) s, (refl, omega arith))
  more_precise a b c (inr x) (inl s) = inr (x.0, x.1, (x.2.0 ∙ s.same_client, omega (arith, s.earlier, x.2.1)))
  more_precise a b c (inr x) (inr s) =
      let below : x.1.w < s.version = got_below x.0 b x.1.w s.version x.1.is_got (s.key, s.content, s.put) x.2 in
      let crosses : Crosses h a c = record {
        put = x.1.put;
        v = x.1.v;
        w = s.version;
        is_put = x.1.is_put;
        is_got = (s.key, s.content, s.got);
        rises = omega (arith, below, x.1.rises);
        after_from = x.1.after_from;
      } in
      inr (c, crosses, (refl, omega arith))

  pub precise : {a b : OpName} → Past h a b → Precise a b
  precise {a} {b} (step (inl s)) = inl (s.same_client, s.earlier)
  precise {a} {b} (step (inr s)) = inr (b, crossing a a b (refl, omega arith) s, (refl, omega arith))
  precise {a} {b} (more {by = by} past s) = more_precise a by b (precise past) s

  -- no operation is in its own past
  pub irreflexive : (a : OpName) → ¬ Past h a a
  irreflexive a past = not_itself (precise past)
    where
      not_itself : ¬ Precise a a
      not_itself (inl e) = omega (arith, e.1)
      not_itself (inr x) = omega (arith, x.1.rises, got_below x.0 x.1.put x.1.w x.1.v x.1.is_got x.1.is_put (x.2.0 ∙ x.1.after_from.0, omega (arith, x.2.1, x.1.after_from.1)))

  -- puts in the past have lower versions
  pub past_below : (p q : OpName) (v w : ℕ) → PutsVersion h p v → PutsVersion h q w → Past h p q → v < w
  past_below p q v w first second past = by_cases (precise past)
    where
      same_put : (r : OpName) (u : ℕ) → PutsVersion h r u → AtOrBefore p r → v ≤ u
      same_put r u put at = elim (eq-or-lt_of_le at.1) [
        | inl same ↦ omega (arith, one_version h p r v u first put (same_name p r at.0 same))
        | inr before ↦ omega (arith, put_below p r v u first put at.0 before)
      ]

      by_cases : Precise p q → v < w
      by_cases (inl e) = put_below p q v w first second e.0 e.1
      by_cases (inr x) = omega (arith, x.1.rises, same_put x.1.put x.1.v x.1.is_put x.1.after_from, got_below x.0 q x.1.w w x.1.is_got second x.2)
