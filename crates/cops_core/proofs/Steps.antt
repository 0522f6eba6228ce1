-- Each step of the machine keeps the invariant.
use Rattle.std.proofs.Common.{◌≡◌, ◌≢◌, ℕ, ◌<◌, ◌≤◌, ◌⊎◌, inl, inr, List, [], ◌∷◌, ◌++◌, Contains, Some, slice_get, slice_index_or, length, refl, sym, ap, ap₂, ◌∙◌, arith, subst, get_or-set_same, get_or-set_other, Option}
use Rattle.std.proofs.lemmas.Bool.{cases_eq}
use Rattle.std.proofs.lemmas.List.Elements.{Contains-append_left, Contains-push, Contains-push_cases}
use Rattle.cops_types.specs.declared.dep.Dep.{Dep}
use Rattle.cops_types.specs.declared.put_record.PutRecord.{PutRecord}
use Rattle.cops_types.specs.declared.op.OpName.{OpName}
use Rattle.cops_types.specs.Histories.{op_at, Operation, write, read, missed}
use Rattle.cops_context.specs.Context.{with_pair}
use Rattle.cops_node.specs.Node.{put_pair}
use Rattle.cops_core.specs.Dependencies.{HasPut, Reaches, IsConsistent, IsClosed}
use Rattle.cops_core.specs.Machine.{State, session, context_of, SettlesAt, Answers, Puts, Gets, Misses, Settles, Stays, Step}
use Rattle.cops_core.proofs.Lists.{contains_one, contains_none, gain_cases, get_pushed, get_kept, get_last}
use Rattle.cops_core.proofs.Reaching.{reaches_settled}
use Rattle.cops_core.proofs.Contexts.{context_after, context_before, WasPut, IsFair, AllFair, fair_pushed, context_pushed, all_fair_more, fair_at}
use Rattle.cops_core.proofs.Accepted.{IsOnce, Kept}

-- adding puts keeps the pairs of puts
pub has_put_more : (puts more : List PutRecord) (p : Dep) → ((q : PutRecord) → Contains puts q → Contains more q) → HasPut puts p → HasPut more p
has_put_more puts more p m b = record { put = b.put; among = m b.put b.among; pair_is = b.pair_is }

-- a put that a data centre had settled stays settled
settled_stays : (old new : State) (dc : ℕ) (put : PutRecord) → SettlesAt old new dc put → (d : ℕ) (p : PutRecord) → Contains (old.settled d) p → Contains (new.settled d) p
settled_stays old new dc put s d p h = cases (cases_eq d dc)
  where
    cases : (d ≡ dc) ⊎ (d ≡ dc → ⊥) → Contains (new.settled d) p
    cases (inl e) = subst (λ n. Contains (new.settled n) p) (sym e) ((s.here p).1 (inl (subst (λ n. Contains (old.settled n) p) e h)))
    cases (inr ne) = (s.others d ne p).1 h

-- a settled put was settled before, or is the one that settles
settled_cases : (old new : State) (dc : ℕ) (put : PutRecord) → SettlesAt old new dc put → (d : ℕ) (p : PutRecord) → Contains (new.settled d) p → Contains (old.settled d) p ⊎ ((d ≡ dc) × (put ≡ p))
settled_cases old new dc put s d p h = cases (cases_eq d dc)
  where
    here : d ≡ dc → Contains (old.settled dc) p ⊎ (put ≡ p) → Contains (old.settled d) p ⊎ ((d ≡ dc) × (put ≡ p))
    here e (inl o) = inl (subst (λ n. Contains (old.settled n) p) (sym e) o)
    here e (inr same) = inr (e, same)

    cases : (d ≡ dc) ⊎ (d ≡ dc → ⊥) → Contains (old.settled d) p ⊎ ((d ≡ dc) × (put ≡ p))
    cases (inl e) = here e ((s.here p).0 (subst (λ n. Contains (new.settled n) p) e h))
    cases (inr ne) = inl ((s.others d ne p).0 h)

settled_known : (old new : State) (dc : ℕ) (put : PutRecord) (puts : List PutRecord) → SettlesAt old new dc put → ((d : ℕ) (p : PutRecord) → Contains (old.settled d) p → Contains puts p) → Contains puts put → (d : ℕ) (p : PutRecord) → Contains (new.settled d) p → Contains puts p
settled_known old new dc put puts s known h d p i = cases (settled_cases old new dc put s d p i)
  where
    cases : Contains (old.settled d) p ⊎ ((d ≡ dc) × (put ≡ p)) → Contains puts p
    cases (inl o) = known d p o
    cases (inr e) = subst (λ (x : PutRecord). Contains puts x) e.1 h

settled_closed : (old new : State) (dc : ℕ) (put : PutRecord) → SettlesAt old new dc put → ((d : ℕ) → IsClosed (old.settled d)) → ((dep : Dep) → Contains put.deps dep → HasPut (old.settled dc) dep) → (d : ℕ) → IsClosed (new.settled d)
settled_closed old new dc put s closed deps d p dep hp hd = has_put_more _ _ dep (settled_stays old new dc put s d) (cases (settled_cases old new dc put s d p hp))
  where
    cases : Contains (old.settled d) p ⊎ ((d ≡ dc) × (put ≡ p)) → HasPut (old.settled d) dep
    cases (inl o) = closed d p dep o hd
    cases (inr e) = subst (λ n. HasPut (old.settled n) dep) (sym e.0) (deps dep (subst (λ (x : PutRecord). Contains x.deps dep) (sym e.1) hd))

-- the context after a session
abbrev AtEnd : List Dep → List Operation → Type 0
AtEnd x s = x ≡ context_before [] s (length s)

-- the changes of recording a client's operation
module _ (old new : State) (client : ℕ) (op : Operation) (context : List Dep) (a : Answers old new client op context) where
  session_here : session new.sessions client ≡ session old.sessions client ++ op ∷ []
  session_here = ap (λ h. session h client) a.sessions ∙ get_or-set_same old.sessions client _ [] a.has_session

  session_other : (c : ℕ) → c ≢ client → session new.sessions c ≡ session old.sessions c
  session_other c ne = ap (λ h. session h c) a.sessions ∙ get_or-set_other old.sessions client c _ [] ne

  context_here : context_of new client ≡ context
  context_here = ap (λ (x : List (List Dep)). slice_index_or x client []) a.contexts ∙ get_or-set_same old.contexts client _ [] a.has_context

  context_other : (c : ℕ) → c ≢ client → context_of new c ≡ context_of old c
  context_other c ne = ap (λ (x : List (List Dep)). slice_index_or x c []) a.contexts ∙ get_or-set_other old.contexts client c _ [] ne

  -- the name of the new operation
  abbrev new_name : OpName
  new_name = record { client = client; index = length (session old.sessions client) }

  operation_kept : (n : OpName) (z : Operation) → op_at old.sessions n ≡ Some z → op_at new.sessions n ≡ Some z
  operation_kept n z e = cases (cases_eq n.client client)
    where
      cases : (n.client ≡ client) ⊎ (n.client ≡ client → ⊥) → op_at new.sessions n ≡ Some z
      cases (inl same) =
          ap (λ c. slice_get (session new.sessions c) n.index) same ∙ ap (λ s. slice_get s n.index) session_here
          ∙ get_kept (session old.sessions client) op n.index z (ap (λ c. slice_get (session old.sessions c) n.index) (sym same) ∙ e)
      cases (inr ne) = ap (λ s. slice_get s n.index) (session_other n.client ne) ∙ e

  operation_new : op_at new.sessions new_name ≡ Some op
  operation_new = ap (λ s. slice_get s (length (session old.sessions client))) session_here ∙ get_last (session old.sessions client) op

  operation_cases : (n : OpName) (z : Operation) → op_at new.sessions n ≡ Some z → (op_at old.sessions n ≡ Some z) ⊎ ((n ≡ new_name) × (z ≡ op))
  operation_cases n z e = cases (cases_eq n.client client)
    where
      last : n.client ≡ client → (slice_get (session old.sessions client) n.index ≡ Some z) ⊎ ((n.index ≡ length (session old.sessions client)) × (z ≡ op)) → (op_at old.sessions n ≡ Some z) ⊎ ((n ≡ new_name) × (z ≡ op))
      last same (inl o) = inl (ap (λ c. slice_get (session old.sessions c) n.index) same ∙ o)
      last same (inr i) = inr (ap₂ (λ (c : ℕ) (i : ℕ). let m : OpName = record { client = c; index = i } in m) same i.0, i.1)

      cases : (n.client ≡ client) ⊎ (n.client ≡ client → ⊥) → (op_at old.sessions n ≡ Some z) ⊎ ((n ≡ new_name) × (z ≡ op))
      cases (inl same) =
          last same (get_pushed (session old.sessions client) op n.index z (ap (λ s. slice_get s n.index) (sym session_here) ∙ ap (λ c. slice_get (session new.sessions c) n.index) (sym same) ∙ e))
      cases (inr ne) = inl (ap (λ s. slice_get s n.index) (sym (session_other n.client ne)) ∙ e)

  answers_fair : (puts : List PutRecord) → ((c : ℕ) → AllFair puts [] (session old.sessions c)) → context_of old client ≡ context_before [] (session old.sessions client) (length (session old.sessions client)) → IsFair puts (context_of old client) op → (c : ℕ) → AllFair puts [] (session new.sessions c)
  answers_fair puts fair ctx f c = cases (cases_eq c client)
    where
      cases : (c ≡ client) ⊎ (c ≡ client → ⊥) → AllFair puts [] (session new.sessions c)
      cases (inl same) =
          subst (λ n. AllFair puts [] (session new.sessions n)) (sym same)
          (subst (λ s. AllFair puts [] s) (sym session_here)
          (fair_pushed puts [] (session old.sessions client) op (fair client) (subst (λ x. IsFair puts x op) ctx f)))
      cases (inr ne) = subst (λ s. AllFair puts [] s) (sym (session_other c ne)) (fair c)

  answers_contexts : ((c : ℕ) → context_of old c ≡ context_before [] (session old.sessions c) (length (session old.sessions c))) → context ≡ context_after (context_of old client) op → (c : ℕ) → context_of new c ≡ context_before [] (session new.sessions c) (length (session new.sessions c))
  answers_contexts ctx is c = cases (cases_eq c client)
    where
      cases : (c ≡ client) ⊎ (c ≡ client → ⊥) → AtEnd (context_of new c) (session new.sessions c)
      cases (inl same) =
          subst (λ n. AtEnd (context_of new n) (session new.sessions n)) (sym same)
          (subst (λ s. AtEnd (context_of new client) s) (sym session_here)
          (context_here ∙ is ∙ ap (λ x. context_after x op) (ctx client) ∙ sym (context_pushed [] (session old.sessions client) op)))
      cases (inr ne) = subst (λ s. AtEnd (context_of new c) s) (sym (session_other c ne)) (context_other c ne ∙ ctx c)

  answers_held : (settled : ℕ → List PutRecord) → ((c : ℕ) (p : Dep) → Contains (context_of old c) p → HasPut (settled c) p) → ((p : Dep) → Contains context p → HasPut (settled client) p) → (c : ℕ) (p : Dep) → Contains (context_of new c) p → HasPut (settled c) p
  answers_held settled held here c p h = cases (cases_eq c client)
    where
      cases : (c ≡ client) ⊎ (c ≡ client → ⊥) → HasPut (settled c) p
      cases (inl same) = subst (λ n. HasPut (settled n) p) (sym same) (here p (subst (λ x. Contains x p) context_here (subst (λ n. Contains (context_of new n) p) same h)))
      cases (inr ne) = held c p (subst (λ x. Contains x p) (context_other c ne) h)

  answers_named : (puts : List PutRecord) → ((p : PutRecord) → Contains puts p → (n : OpName) × (op_at old.sessions n ≡ Some (write p.key p.value p.version))) → (p : PutRecord) → Contains puts p → (n : OpName) × (op_at new.sessions n ≡ Some (write p.key p.value p.version))
  answers_named puts named p h = let m = named p h in (m.0, operation_kept m.0 _ m.1)

  answers_once : IsOnce old.sessions → ((n : OpName) (k l : List ℕ) (x y : Option (List ℕ)) (v : ℕ) → op ≡ write k x v → op_at old.sessions n ≡ Some (write l y v) → ⊥) → IsOnce new.sessions
  answers_once once fresh m n k l x y v em en = cases (operation_cases m (write k x v) em) (operation_cases n (write l y v) en)
    where
      cases : (op_at old.sessions m ≡ Some (write k x v)) ⊎ ((m ≡ new_name) × (write k x v ≡ op)) → (op_at old.sessions n ≡ Some (write l y v)) ⊎ ((n ≡ new_name) × (write l y v ≡ op)) → m ≡ n
      cases (inl a) (inl b) = once m n k l x y v a b
      cases (inl a) (inr b) = absurd (fresh m l k y x v (sym b.1) a)
      cases (inr a) (inl b) = absurd (fresh n k l x y v (sym a.1) b)
      cases (inr a) (inr b) = a.0 ∙ sym b.0

-- a consistent list of puts stays consistent with one more
consistent_more : (puts : List PutRecord) (new : PutRecord) → IsConsistent puts → ((p : PutRecord) → Contains puts p → p.version ≢ new.version) → ((d : Dep) → Contains new.deps d → d.version < new.version) → ((d : Dep) → Contains new.deps d → HasPut puts d) → IsConsistent (puts ++ new ∷ [])
consistent_more puts new c fresh above has_puts = record {
  unique = λ p q hp hq e. unique p q (Contains-push_cases puts new p hp) (Contains-push_cases puts new q hq) e;
  above = λ p d hp hd. above_all p d (Contains-push_cases puts new p hp) hd;
  has_puts = λ p d hp hd. has_put_more puts _ d (λ q. Contains-append_left puts (new ∷ []) q) (has_puts_all p d (Contains-push_cases puts new p hp) hd);
}
  where
    version_of : (p q : PutRecord) → p ≡ q → p.version ≡ q.version
    version_of p q e = ap (λ (x : PutRecord). x.version) e

    unique : (p q : PutRecord) → Contains puts p ⊎ (new ≡ p) → Contains puts q ⊎ (new ≡ q) → p.version ≡ q.version → p ≡ q
    unique p q (inl a) (inl b) e = c.unique p q a b e
    unique p q (inl a) (inr b) e = absurd (fresh p a (e ∙ version_of q new (sym b)))
    unique p q (inr a) (inl b) e = absurd (fresh q b (sym e ∙ version_of p new (sym a)))
    unique p q (inr a) (inr b) e = sym a ∙ b

    above_all : (p : PutRecord) (d : Dep) → Contains puts p ⊎ (new ≡ p) → Contains p.deps d → d.version < p.version
    above_all p d (inl a) h = c.above p d a h
    above_all p d (inr a) h = subst (λ (x : PutRecord). d.version < x.version) a (above d (subst (λ (x : PutRecord). Contains x.deps d) (sym a) h))

    has_puts_all : (p : PutRecord) (d : Dep) → Contains puts p ⊎ (new ≡ p) → Contains p.deps d → HasPut puts d
    has_puts_all p d (inl a) h = c.has_puts p d a h
    has_puts_all p d (inr a) h = has_puts d (subst (λ (x : PutRecord). Contains x.deps d) (sym a) h)

module _ (home : ℕ → ℕ) (old new : State) (k : Kept home old) where
  settled_issued : (d : ℕ) (p : Dep) → HasPut (old.settled d) p → HasPut old.issued p
  settled_issued d p b = has_put_more _ _ p (k.known d) b

  -- every pair that a client's context reaches is settled in its data centre
  context_settled : (client : ℕ) (p q : Dep) → Contains (context_of old client) p → Reaches old.issued p q → HasPut (old.settled (home client)) q
  context_settled client p q h r =
      reaches_settled old.issued (old.settled (home client)) k.consistent (k.closed (home client)) (k.known (home client)) p q (k.held client p h) r

  puts_kept : (client : ℕ) (put : PutRecord) → Puts old new (home client) client put → Kept home new
  puts_kept client put s = record {
    consistent = subst IsConsistent (sym s.issued) (consistent_more old.issued put k.consistent s.fresh s.above (λ d h. settled_issued (home client) d (deps_settled d h)));
    known = λ d p h. subst (λ x. Contains x p) (sym s.issued)
        (settled_known old new (home client) put (old.issued ++ put ∷ []) s.settled (λ e q i. Contains-append_left old.issued (put ∷ []) q (k.known e q i)) (Contains-push old.issued put) d p h);
    closed = settled_closed old new (home client) put s.settled k.closed deps_settled;
    held = answers_held old new client op (put_pair put ∷ []) s.answers (λ c. new.settled (home c))
        (λ c p h. has_put_more _ _ p (settled_stays old new (home client) put s.settled (home c)) (k.held c p h))
        (λ p h. record { put = put; among = (s.settled.here put).1 (inr refl); pair_is = contains_one (put_pair put) p h });
    fair = subst (λ (x : List PutRecord). (c : ℕ) → AllFair x [] (session new.sessions c)) (sym s.issued)
        (answers_fair old new client op (put_pair put ∷ []) s.answers (old.issued ++ put ∷ [])
        (λ c. all_fair_more old.issued put k.consistent s.fresh [] (session old.sessions c) (λ p h. absurd (contains_none p h)) (k.fair c))
        (k.contexts client)
        (record { put = put; is = record { among = Contains-push old.issued put; pair_is = refl; value = refl }; deps = s.deps }));
    contexts = answers_contexts old new client op (put_pair put ∷ []) s.answers k.contexts refl;
    named = λ p h. named_all p (Contains-push_cases old.issued put p (subst (λ x. Contains x p) s.issued h));
    once = answers_once old new client op (put_pair put ∷ []) s.answers k.once once_fresh;
  }
    where
      op : Operation
      op = write put.key put.value put.version

      deps_settled : (d : Dep) → Contains put.deps d → HasPut (old.settled (home client)) d
      deps_settled d h = k.held client d (subst (λ x. Contains x d) s.deps h)

      named_all : (p : PutRecord) → Contains old.issued p ⊎ (put ≡ p) → (n : OpName) × (op_at new.sessions n ≡ Some (write p.key p.value p.version))
      named_all p (inl o) = answers_named old new client op (put_pair put ∷ []) s.answers old.issued k.named p o
      named_all p (inr e) = (
        new_name old new client op (put_pair put ∷ []) s.answers,
        operation_new old new client op (put_pair put ∷ []) s.answers ∙ ap (λ (x : PutRecord). Some (write x.key x.value x.version)) e,
      )

      once_fresh : (n : OpName) (a l : List ℕ) (x y : Option (List ℕ)) (v : ℕ) → op ≡ write a x v → op_at old.sessions n ≡ Some (write l y v) → ⊥
      once_fresh n a l x y v e o =
          let f : WasPut old.issued (context_before [] (session old.sessions n.client) n.index) l y v = fair_at old.issued [] (session old.sessions n.client) n.index (write l y v) (k.fair n.client) o in
          let version : f.put.version ≡ v = ap (λ (p : Dep). p.version) f.is.pair_is in
          let same : put.version ≡ v = cc in
          s.fresh f.put f.is.among (version ∙ sym same)

  gets_kept : (client : ℕ) (put : PutRecord) → Gets old new (home client) client put → Kept home new
  gets_kept client put s = record {
    consistent = subst IsConsistent (sym s.issued) k.consistent;
    known = λ d p h. subst (λ x. Contains x p) (sym s.issued) (k.known d p (subst (λ (f : ℕ → List PutRecord). Contains (f d) p) s.settled h));
    closed = λ d. subst (λ (f : ℕ → List PutRecord). IsClosed (f d)) (sym s.settled) (k.closed d);
    held = λ c. subst (λ (f : ℕ → List PutRecord). (p : Dep) → Contains (context_of new c) p → HasPut (f (home c)) p) (sym s.settled)
        (answers_held old new client op context s.answers (λ c. old.settled (home c)) k.held held_here c);
    fair = subst (λ (x : List PutRecord). (c : ℕ) → AllFair x [] (session new.sessions c)) (sym s.issued)
        (answers_fair old new client op context s.answers old.issued k.fair (k.contexts client)
        (record { put = put; is = record { among = k.known (home client) put s.shown; pair_is = refl; value = refl }; newest = newest }));
    contexts = answers_contexts old new client op context s.answers k.contexts refl;
    named = subst (λ (x : List PutRecord). (p : PutRecord) → Contains x p → (n : OpName) × (op_at new.sessions n ≡ Some (write p.key p.value p.version))) (sym s.issued)
        (answers_named old new client op context s.answers old.issued k.named);
    once = answers_once old new client op context s.answers k.once (λ n a l x y v e o. cc);
  }
    where
      op : Operation
      op = read put.key put.value put.version

      context : List Dep
      context = with_pair (context_of old client) (put_pair put)

      held_here : (p : Dep) → Contains context p → HasPut (old.settled (home client)) p
      held_here p h = held_cases p (gain_cases (context_of old client) (put_pair put) p h)
        where
          held_cases : (p : Dep) → Contains (context_of old client) p ⊎ (put_pair put ≡ p) → HasPut (old.settled (home client)) p
          held_cases p (inl o) = k.held client p o
          held_cases p (inr e) = record { put = put; among = s.shown; pair_is = e }

      newest : (p q : Dep) → Contains context p → Reaches old.issued p q → q.key ≡ put.key → q.version ≤ put.version
      newest p q h r e =
          let b = reaches_settled old.issued (old.settled (home client)) k.consistent (k.closed (home client)) (k.known (home client)) p q (held_here p h) r in
          let key : b.put.key ≡ put.key = ap (λ (x : Dep). x.key) b.pair_is ∙ e in
          let version : b.put.version ≡ q.version = ap (λ (x : Dep). x.version) b.pair_is in
          let le = s.greatest b.put b.among key in
          omega arith

  misses_kept : (client : ℕ) (key : List ℕ) → Misses old new (home client) client key → Kept home new
  misses_kept client key s = record {
    consistent = subst IsConsistent (sym s.issued) k.consistent;
    known = λ d p h. subst (λ x. Contains x p) (sym s.issued) (k.known d p (subst (λ (f : ℕ → List PutRecord). Contains (f d) p) s.settled h));
    closed = λ d. subst (λ (f : ℕ → List PutRecord). IsClosed (f d)) (sym s.settled) (k.closed d);
    held = λ c. subst (λ (f : ℕ → List PutRecord). (p : Dep) → Contains (context_of new c) p → HasPut (f (home c)) p) (sym s.settled)
        (answers_held old new client (missed key) (context_of old client) s.answers (λ c. old.settled (home c)) k.held (k.held client) c);
    fair = subst (λ (x : List PutRecord). (c : ℕ) → AllFair x [] (session new.sessions c)) (sym s.issued)
        (answers_fair old new client (missed key) (context_of old client) s.answers old.issued k.fair (k.contexts client) (record { none = none }));
    contexts = answers_contexts old new client (missed key) (context_of old client) s.answers k.contexts refl;
    named = subst (λ (x : List PutRecord). (p : PutRecord) → Contains x p → (n : OpName) × (op_at new.sessions n ≡ Some (write p.key p.value p.version))) (sym s.issued)
        (answers_named old new client (missed key) (context_of old client) s.answers old.issued k.named);
    once = answers_once old new client (missed key) (context_of old client) s.answers k.once (λ n a l x y v e o. cc);
  }
    where
      none : (p q : Dep) → Contains (context_of old client) p → Reaches old.issued p q → q.key ≢ key
      none p q h r e =
          let b = context_settled client p q h r in
          let same : b.put.key ≡ key = ap (λ (x : Dep). x.key) b.pair_is ∙ e in
          s.none b.put b.among same

  settles_kept : (dc : ℕ) (put : PutRecord) → Settles old new dc put → Kept home new
  settles_kept dc put s = record {
    consistent = subst IsConsistent (sym s.issued) k.consistent;
    known = λ d p h. subst (λ x. Contains x p) (sym s.issued) (settled_known old new dc put old.issued s.settled k.known s.offered d p h);
    closed = settled_closed old new dc put s.settled k.closed (λ d h. let b = s.deps d h in record { put = b.0; among = b.1.0; pair_is = b.1.1 });
    held = λ c p h. has_put_more _ _ p (settled_stays old new dc put s.settled (home c)) (k.held c p (subst (λ (x : List (List Dep)). Contains (slice_index_or x c []) p) s.contexts h));
    fair = λ c. subst (λ (x : List PutRecord). AllFair x [] (session new.sessions c)) (sym s.issued) (subst (λ h. AllFair old.issued [] (session h c)) (sym s.sessions) (k.fair c));
    contexts = λ c. subst (λ (x : List (List Dep)). AtEnd (slice_index_or x c []) (session new.sessions c)) (sym s.contexts) (subst (λ h. AtEnd (context_of old c) (session h c)) (sym s.sessions) (k.contexts c));
    named = λ p h. let n = k.named p (subst (λ x. Contains x p) s.issued h) in (n.0, subst (λ h. op_at h n.0 ≡ Some (write p.key p.value p.version)) (sym s.sessions) n.1);
    once = subst IsOnce (sym s.sessions) k.once;
  }

  stays_kept : Stays old new → Kept home new
  stays_kept s = record {
    consistent = subst IsConsistent (sym s.issued) k.consistent;
    known = λ d p h. subst (λ x. Contains x p) (sym s.issued) (k.known d p ((s.settled d p).0 h));
    closed = λ d p dep hp hd. has_put_more _ _ dep (λ q h. (s.settled d q).1 h) (k.closed d p dep ((s.settled d p).0 hp) hd);
    held = λ c p h. has_put_more _ _ p (λ q i. (s.settled (home c) q).1 i) (k.held c p (subst (λ (x : List (List Dep)). Contains (slice_index_or x c []) p) s.contexts h));
    fair = λ c. subst (λ (x : List PutRecord). AllFair x [] (session new.sessions c)) (sym s.issued) (subst (λ h. AllFair old.issued [] (session h c)) (sym s.sessions) (k.fair c));
    contexts = λ c. subst (λ (x : List (List Dep)). AtEnd (slice_index_or x c []) (session new.sessions c)) (sym s.contexts) (subst (λ h. AtEnd (context_of old c) (session h c)) (sym s.sessions) (k.contexts c));
    named = λ p h. let n = k.named p (subst (λ x. Contains x p) s.issued h) in (n.0, subst (λ h. op_at h n.0 ≡ Some (write p.key p.value p.version)) (sym s.sessions) n.1);
    once = subst IsOnce (sym s.sessions) k.once;
  }

  pub step_kept : Step home old new → Kept home new
  step_kept (inl s) = puts_kept s.0 s.1 s.2
  step_kept (inr (inl s)) = gets_kept s.0 s.1 s.2
  step_kept (inr (inr (inl s))) = misses_kept s.0 s.1 s.2
  step_kept (inr (inr (inr (inl s)))) = settles_kept s.0 s.1 s.2
  step_kept (inr (inr (inr (inr s)))) = stays_kept s
