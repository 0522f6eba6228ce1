-- The machine's invariant makes its sessions an accepted history.
use Rattle.std.proofs.Common.{◌≡◌, ℕ, suc, ◌<◌, ◌≤◌, inl, inr, List, [], Contains, Some, slice_get, length, refl, sym, ap, ◌∙◌, arith, subst, Option}
use Rattle.cops_types.specs.declared.dep.Dep.{Dep}
use Rattle.cops_types.specs.declared.put_record.PutRecord.{PutRecord}
use Rattle.cops_types.specs.declared.op.OpName.{OpName}
use Rattle.cops_types.specs.Histories.{Sessions, op_at, IsPut, SessionStep, SourceStep, Operation, write, read, missed}
use Rattle.cops_types.specs.Past.{Step, Past}
use Rattle.cops_types.specs.Faults.{HasVersion, IsNotBelow}
use Rattle.cops_types.specs.Verdicts.{AllHaveSources, AllAbove, NoneStale}
use Rattle.cops_types.specs.VersionOrder.{NoneDoubled}
use Rattle.cops_context.specs.Context.{with_pair}
use Rattle.cops_core.specs.Dependencies.{HasPut, IsConsistent, IsClosed}
use Rattle.cops_core.specs.Machine.{State, context_of, session}
use Rattle.cops_core.specs.Invariants.{Covers}
use Rattle.cops_core.proofs.Lists.{at_version, contains_one, contains_head, gain_new}
use Rattle.cops_core.proofs.Reaching.{reaches_below}
use Rattle.cops_core.proofs.Contexts.{context_before, IsOf, WasPut, IsFair, AllFair, covers_own, covers_later, fair_at, after_at}

-- no two puts have the same version
abbrev pub IsOnce : Sessions → Type 0
IsOnce h = (a b : OpName) (k l : List ℕ) (x y : Option (List ℕ)) (version : ℕ) → IsPut h a k x version → IsPut h b l y version → a ≡ b

-- the version that an operation puts or returns is below this one
abbrev IsBelow : Operation → ℕ → Type 0
IsBelow (write k x v) version = v < version
IsBelow (read k x v) version = v < version
IsBelow (missed k) version = Unit {0}

-- the operation's result is not older than a put of this version on the key
abbrev IsNotStale : Operation → List ℕ → ℕ → Type 0
IsNotStale (write k x v) key version = Unit {0}
IsNotStale (read k x v) key version = k ≡ key → version ≤ v
IsNotStale (missed k) key version = k ≡ key → ⊥

-- the machine's invariant; home: the data centre of each client
pub record Kept (home : ℕ → ℕ) (s : State) : Type 0 where
  pub consistent : IsConsistent s.issued
  pub known : (d : ℕ) (p : PutRecord) → Contains (s.settled d) p → Contains s.issued p
  pub closed : (d : ℕ) → IsClosed (s.settled d)
  pub held : (c : ℕ) (p : Dep) → Contains (context_of s c) p → HasPut (s.settled (home c)) p
  pub fair : (c : ℕ) → AllFair s.issued [] (session s.sessions c)
  pub contexts : (c : ℕ) → context_of s c ≡ context_before [] (session s.sessions c) (length (session s.sessions c))
  pub named : (p : PutRecord) → Contains s.issued p → (n : OpName) × (op_at s.sessions n ≡ Some (write p.key p.value p.version))
  pub once : IsOnce s.sessions

pub wrote_of : (puts : List PutRecord) (k : List ℕ) (x : Option (List ℕ)) (v : ℕ) (put : PutRecord) → IsOf puts k x v put → write put.key put.value put.version ≡ write k x v
wrote_of puts k x v put i =
    let key : put.key ≡ k = ap (λ (p : Dep). p.key) i.pair_is in
    let version : put.version ≡ v = ap (λ (p : Dep). p.version) i.pair_is in
    let value = i.value in
    cc

module _ (puts : List PutRecord) (h : Sessions) (c : IsConsistent puts) (fair : (client : ℕ) → AllFair puts [] (session h client)) where
  -- the context after an operation
  abbrev pub context_at : OpName → List Dep
  context_at n = context_before [] (session h n.client) (suc n.index)

  covers_session : (a b : OpName) (p : Dep) → SessionStep h a b → Covers puts (context_at a) p → Covers puts (context_at b) p
  covers_session a b p s cov =
      let here : Covers puts (context_before [] (session h b.client) (suc a.index)) p = subst (λ n. Covers puts (context_before [] (session h n) (suc a.index)) p) s.same_client cov in
      let before = s.earlier in
      covers_later puts [] (session h b.client) (suc a.index) (suc b.index) p (fair b.client) (omega arith) here

  covers_source : (a b : OpName) (p : Dep) → SourceStep h a b → Covers puts (context_at a) p → Covers puts (context_at b) p
  covers_source a b p s cov =
      let pair = at_version s.key s.version in
      let put_is = after_at [] (session h a.client) a.index (write s.key s.content s.version) s.put in
      let got_is = after_at [] (session h b.client) b.index (read s.key s.content s.version) s.got in
      let from_is : pair ≡ cov.from = contains_one pair cov.from (subst (λ x. Contains x cov.from) put_is cov.among) in
      let before = context_before [] (session h b.client) b.index in
      let among : Contains (context_at b) cov.from = subst (λ x. Contains x cov.from) (sym got_is) (subst (λ x. Contains (with_pair before pair) x) from_is (gain_new before pair)) in
      record { from = cov.from; among = among; reaches = cov.reaches }

  covers_step : (a b : OpName) (p : Dep) → Step h a b → Covers puts (context_at a) p → Covers puts (context_at b) p
  covers_step a b p (inl s) cov = covers_session a b p s cov
  covers_step a b p (inr s) cov = covers_source a b p s cov

  pub covers_past : (a b : OpName) (p : Dep) → Past h a b → Covers puts (context_at a) p → Covers puts (context_at b) p
  covers_past a b p (Past.step s) cov = covers_step a b p s cov
  covers_past a b p (Past.more {by} past s) cov = covers_step by b p s (covers_past a by p past cov)

  -- the context after a put, or after a get of its version, covers it
  pub covers_wrote : (client i : ℕ) (k : List ℕ) (x : Option (List ℕ)) (v : ℕ) → slice_get (session h client) i ≡ Some (write k x v) → Covers puts (context_before [] (session h client) (suc i)) (at_version k v)
  covers_wrote client i k x v e =
      covers_own puts _ (at_version k v) (subst (λ y. Contains y (at_version k v)) (sym (after_at [] (session h client) i (write k x v) e)) (contains_head (at_version k v) []))

  covers_got : (client i : ℕ) (k : List ℕ) (x : Option (List ℕ)) (v : ℕ) → slice_get (session h client) i ≡ Some (read k x v) → Covers puts (context_before [] (session h client) (suc i)) (at_version k v)
  covers_got client i k x v e =
      covers_own puts _ (at_version k v) (subst (λ y. Contains y (at_version k v)) (sym (after_at [] (session h client) i (read k x v) e)) (gain_new (context_before [] (session h client) i) (at_version k v)))

  not_stale : (a b : OpName) (op : Operation) (k : List ℕ) (x : Option (List ℕ)) (v : ℕ) → IsPut h a k x v → op_at h b ≡ Some op → Past h a b → IsNotStale op k v
  not_stale a b op k x v ea eb past = cases op eb (fair_at puts [] (session h b.client) b.index op (fair b.client) eb)
    where
      cov : Covers puts (context_at b) (at_version k v)
      cov = covers_past a b (at_version k v) past (covers_wrote a.client a.index k x v ea)

      cases : (o : Operation) → op_at h b ≡ Some o → IsFair puts (context_before [] (session h b.client) b.index) o → IsNotStale o k v
      cases (write l y w) e f = tt
      cases (read l y w) e f =
          λ same. f.newest cov.from (at_version k v) (subst (λ z. Contains z cov.from) (after_at [] (session h b.client) b.index (read l y w) e) cov.among) cov.reaches (sym same)
      cases (missed l) e f =
          λ same. f.none cov.from (at_version k v) (subst (λ z. Contains z cov.from) (after_at [] (session h b.client) b.index (missed l) e) cov.among) cov.reaches (sym same)

  pub none_stale : NoneStale h
  none_stale name newer s =
      let n = s.is_newer in
      elim n.returned [
        | inl r ↦ (let le = not_stale newer name (read n.key r.0 r.1) n.key n.put.0 s.version n.put.1 r.2 n.past refl in let lt = r.3 in omega arith)
        | inr m ↦ not_stale newer name (missed n.key) n.key n.put.0 s.version n.put.1 m n.past refl
      ]

  is_below : (client i j : ℕ) (op : Operation) (k : List ℕ) (x : Option (List ℕ)) (version : ℕ) → i < j → slice_get (session h client) i ≡ Some op → slice_get (session h client) j ≡ Some (write k x version) → IsBelow op version
  is_below client i j op k x v lt ei ej = cases op ei
    where
      f : WasPut puts (context_before [] (session h client) j) k x v
      f = fair_at puts [] (session h client) j (write k x v) (fair client) ej

      below : (l : List ℕ) (w : ℕ) → Covers puts (context_before [] (session h client) (suc i)) (at_version l w) → w < v
      below l w cov =
          let later = covers_later puts [] (session h client) (suc i) j (at_version l w) (fair client) lt cov in
          let dep : Contains f.put.deps later.from = subst (λ d. Contains d later.from) (sym f.deps) later.among in
          let above = c.above f.put later.from f.is.among dep in
          let reached : w ≤ later.from.version = reaches_below puts c later.from (at_version l w) later.reaches in
          let version : f.put.version ≡ v = ap (λ (p : Dep). p.version) f.is.pair_is in
          omega arith

      cases : (o : Operation) → slice_get (session h client) i ≡ Some o → IsBelow o v
      cases (write l y w) e = below l w (covers_wrote client i l y w e)
      cases (read l y w) e = below l w (covers_got client i l y w e)
      cases (missed l) e = tt

  pub all_above : AllAbove h
  all_above name earlier a = cases b.has
    where
      b : IsNotBelow h earlier name
      b = a.is_not_below

      at : (op : Operation) → op_at h earlier ≡ Some op → slice_get (session h name.client) earlier.index ≡ Some op
      at op e = subst (λ c. slice_get (session h c) earlier.index ≡ Some op) b.same_client e

      cases : HasVersion h earlier b.version → ⊥
      cases (inl p) = (let lt = is_below name.client earlier.index name.index (write p.0 p.1 b.version) b.put.0 b.put.1 b.own b.before (at _ p.2) b.put.2 in let le = b.not_below in omega arith)
      cases (inr g) = (let lt = is_below name.client earlier.index name.index (read g.0 g.1 b.version) b.put.0 b.put.1 b.own b.before (at _ g.2) b.put.2 in let le = b.not_below in omega arith)

pub none_doubled : (h : Sessions) → IsOnce h → NoneDoubled h
none_doubled h once name d = d.differs (once d.other name d.other_put.0 d.put.0 d.other_put.1 d.put.1 d.version d.other_put.2 d.put.2)

pub all_have_sources : (home : ℕ → ℕ) (s : State) → Kept home s → AllHaveSources s.sessions
all_have_sources home s k name n =
    let f = fair_at s.issued [] (session s.sessions name.client) name.index (read n.key n.content n.version) (k.fair name.client) n.got in
    let put = k.named f.put f.is.among in
    n.none put.0 (record { key = n.key; content = n.content; version = n.version; put = put.1 ∙ ap Some (wrote_of s.issued n.key n.content n.version f.put f.is); got = n.got })
