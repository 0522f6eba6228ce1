-- Whole runs: the invariant of the new world, what each event keeps, and that the recorded history is accepted.
use Rattle.std.proofs.Common.{◌≡◌, ◌≢◌, ℕ, zero, suc, ◌+◌, ◌*◌, ◌<◌, ◌≤◌, ◌⊎◌, inl, inr, List, [], ◌∷◌, ◌++◌, Bool, true, false, cond, Contains, Some, None, is_some, slice_get, slice_index_or, length, refl, sym, ap, ◌∙◌, arith, subst, nat_lt, replicate, Option}
use Rattle.cops_types.specs.declared.limits.TheConstants.{MAX_CLOCK}
use Rattle.cops_types.specs.declared.refusal.Refusal.{Refusal}
use Rattle.cops_types.specs.declared.refusal.Refusal.TheVariants.{ClockExhausted, ContextFull, UnknownClient, NeverSent, NoYes, UnknownDc, NotInFormat, SessionFull}
use Rattle.std.proofs.lemmas.Bool.{ltb-true}
use Rattle.cops_types.specs.declared.dep.Dep.{Dep}
use Rattle.cops_types.specs.declared.put_record.PutRecord.{PutRecord}
use Rattle.cops_types.specs.declared.op.OpName.{OpName}
use Rattle.cops_types.specs.Format.{AreInFormat, most_deps, Fits, IsInFormat, fits}
use Rattle.cops_types.specs.Past.{Past}
use Rattle.cops_node.specs.declared.outcome.Outcome.{Outcome}
use Rattle.cops_node.specs.declared.outcome.Outcome.TheVariants.{Refused}
use Rattle.cops_node.specs.Node.{dep_at, put_pair, Node, opened, raised, write_at}
use Rattle.std.proofs.Common.{length-append}
use Rattle.std.proofs.lemmas.List.{length-replicate}
use Rattle.std.proofs.lemmas.Option.{slice_get_within}
use Rattle.cops_types.specs.Histories.{IsNamed, IsPut, IsGot, Operation, op_at, write, read, missed}
use Rattle.cops_types.proofs.Sessions.{none_within}
use Rattle.cops_context.specs.Kept.{IsContext}
use Rattle.cops_held.specs.Held.{waiting}
use Rattle.cops_core.specs.Dependencies.{HasPut}
use Rattle.cops_core.specs.Machine.{context_of, session, Step, view}
use Rattle.cops_core.specs.World.{Setting, IsSetting, home, primary, World, node_at, context_in, sent, is_answered, knows, has_room, has_context_room, is_dc, checks, refusal, keeps, done, Act, Event, act_of, WriteBy, GetBy, DeliverTo, AskAt, MarkAt, SettleAt, happens, Happens, row, rows, opening, Run, IsReached}
use Rattle.cops_types.specs.Verdicts.{HasAcceptedVerdict}
use Rattle.cops_types.specs.NodeNumber.{place_of}
use Rattle.cops_core.specs.Invariants.{Covers, IsCarried, IsIssued, Invariants}
use Rattle.cops_core.proofs.Lists.{at_version, contains_none}
use Rattle.cops_core.proofs.Reaching.{reaches_settled}
use Rattle.cops_core.proofs.Contexts.{context_before, AllFair, fair_at, WasPut, WasGot, covers_later}
use Rattle.cops_core.proofs.Accepted.{Kept, covers_past, covers_wrote, none_doubled}
use Rattle.cops_core.proofs.Rising.{kept_accepted}
use Rattle.cops_core.proofs.Steps.{step_kept}
use Rattle.cops_core.proofs.Bounds.{IsBounded, no_pairs}
use Rattle.cops_core.proofs.Placed.{settled_at, Placed}
use Rattle.cops_core.proofs.Simulation.{view_from, settled_has_put, Goes, stays_goes, back_goes, unless_goes, first_passed}
use Rattle.cops_core.proofs.Putting.{put_goes}
use Rattle.cops_core.proofs.Getting.{get_goes}
use Rattle.cops_core.proofs.Settling.{deliver_goes, ask_goes, mark_goes, settle_goes}

-- the invariant of every reached world
pub record Sound (s : Setting) (w : World) : Type 0 where
  pub placed : Placed s w
  pub bounded : IsBounded s w
  pub kept : Kept (home s) (view w)

module _ (s : Setting) (ok : IsSetting s) (w : World) (sound : Sound s w) where
  known : (client : ℕ) → knows w client ≡ true → client < length w.sessions
  known client h = ltb-true client (length w.sessions) h

  inside : (dc : ℕ) → (tests : List (Bool × Refusal)) → refusal ((is_dc s dc, UnknownDc) ∷ tests) ≡ None → dc < s.place.dcs
  inside dc tests h = ltb-true dc s.place.dcs (first_passed (is_dc s dc) UnknownDc tests h).0

  puts : (client : ℕ) (key : List ℕ) (content : Option (List ℕ)) → client < length w.sessions → has_room w client ≡ true → fits s.format content ≡ true → (b : Bool)
      → Goes s w (let n = node_at w (home s client) (primary s key) in let r : Outcome × Node = cond b (write_at n key content (raised n.clock (context_in w client) + 1)) (Refused ClockExhausted, n) in keeps w (home s client) (primary s key) (WriteBy client key content) r.0 r.1)
  puts client key content h room fit true = put_goes s ok w sound.placed sound.kept client key content sound.bounded h room fit
  puts client key content h room fit false = back_goes s w sound.placed sound.bounded (home s client) (primary s key)

  done_goes : (e : Act) → refusal (checks s w e) ≡ None → Goes s w (done s w e).1
  done_goes (WriteBy client key content) h =
      let a = first_passed (knows w client) UnknownClient ((fits s.format content, NotInFormat) ∷ (has_room w client, SessionFull) ∷ []) h in
      let f = first_passed (fits s.format content) NotInFormat ((has_room w client, SessionFull) ∷ []) a.1 in
      let b = first_passed (has_room w client) SessionFull [] f.1 in
      puts client key content (known client a.0) b.0 f.0 (nat_lt (raised (node_at w (home s client) (primary s key)).clock (context_in w client)) MAX_CLOCK)
  done_goes (GetBy client key) h =
      let a = first_passed (knows w client) UnknownClient ((has_room w client, SessionFull) ∷ (has_context_room s w client, ContextFull) ∷ []) h in
      let b = first_passed (has_room w client) SessionFull ((has_context_room s w client, ContextFull) ∷ []) a.1 in
      let c = first_passed (has_context_room s w client) ContextFull [] b.1 in
      get_goes s w sound.placed client key sound.bounded (known client a.0) b.0 (ltb-true (length (context_in w client)) (most_deps s.format) c.0)
  done_goes (DeliverTo dc version) h = deliver_goes s ok.place.range.2 w sound.placed sound.bounded dc version (inside dc ((is_some (sent w.issued version), NeverSent) ∷ []) h)
  done_goes (AskAt dc key version) h = ask_goes s w sound.placed sound.bounded dc key version
  done_goes (MarkAt dc version dep) h =
      let answered = is_answered w.said dc (dep_at (waiting (node_at w dc (place_of version)).held version) dep) in
      let a = first_passed (is_dc s dc) UnknownDc ((answered, NoYes) ∷ []) h in
      mark_goes s ok.place.range.2 w sound.placed sound.bounded sound.kept dc version dep (inside dc ((answered, NoYes) ∷ []) h) (first_passed answered NoYes [] a.1).0
  done_goes (SettleAt dc version) h = settle_goes s ok.place.range.2 w sound.placed sound.bounded sound.kept dc version (inside dc [] h)

  pub happens_goes : (e : Act) → Goes s w (happens s w e).1
  happens_goes e = unless_goes s w sound.placed sound.bounded (checks s w e) (done s w e) (done_goes e)

  pub event_goes : (e : Act) (o : Outcome) (new : World) → Happens s w e o new → Goes s w new
  event_goes e o new (inl h) = subst (Goes s w) (ap (λ (r : Outcome × World). r.1) h) (happens_goes e)
  event_goes e o new (inr h) = subst (Goes s w) (sym h.1) (stays_goes s w sound.placed sound.bounded)

  pub event_sound : (e : Act) (o : Outcome) (new : World) → Happens s w e o new → Sound s new
  event_sound e o new h = let g = event_goes e o new h in record { placed = g.placed; bounded = g.bounded; kept = step_kept (home s) (view w) (view new) sound.kept g.step }

pub run_sound : (s : Setting) → IsSetting s → (events : List Event) (outcomes : List Outcome) (old new : World) → Sound s old → Run s old events outcomes new → Sound s new
run_sound s ok [] [] old new sound r = subst (Sound s) (sym r) sound
run_sound s ok [] (o ∷ outcomes) old new sound r = absurd r
run_sound s ok (e ∷ events) [] old new sound r = absurd r
run_sound s ok (e ∷ events) (o ∷ outcomes) old new sound r = run_sound s ok events outcomes r.0 new (event_sound s ok old sound (act_of e) o r.0 r.1.0) r.1.1

-- the new world
length_row : (dc n : ℕ) → length (row dc n) ≡ n
length_row dc zero = refl
length_row dc (suc n) = let h = length_row dc n in let l = length-append (row dc n) (opened (dc * 64 + n) ∷ []) in omega (arith, l)

length_rows : (places n : ℕ) → length (rows places n) ≡ n
length_rows places zero = refl
length_rows places (suc n) = let h = length_rows places n in let l = length-append (rows places n) (row n places ∷ []) in omega (arith, l)

-- the item at an index of a list with one more: one from before, or the new last one
past_or_in : {X : Type 0} (xs : List X) (y : X) (i : ℕ) (d : X) → ((i ≢ length xs) × (slice_index_or (xs ++ y ∷ []) i d ≡ slice_index_or xs i d)) ⊎ ((i ≡ length xs) × (slice_index_or (xs ++ y ∷ []) i d ≡ y))
past_or_in [] y zero d = inr (refl, refl)
past_or_in [] y (suc i) d = inl (λ e. omega (arith, e), refl)
past_or_in (x ∷ xs) y zero d = inl (λ e. omega (arith, e), refl)
past_or_in (x ∷ xs) y (suc i) d = elim (past_or_in xs y i d) [ inl e ↦ inl (λ f. e.0 (omega (arith, f)), e.1) | inr e ↦ inr (ap suc e.0, e.1) ]

abbrev AtRow : ℕ → ℕ → ℕ → Type 0
AtRow dc n q = slice_index_or (row dc n) q (opened (dc * 64 + q)) ≡ opened (dc * 64 + q)

row_at : (dc n q : ℕ) → AtRow dc n q
row_at dc zero q = refl
row_at dc (suc n) q =
    elim (past_or_in (row dc n) (opened (dc * 64 + n)) q (opened (dc * 64 + q))) [
      | inl e ↦ e.1 ∙ row_at dc n q
      | inr e ↦ e.1 ∙ ap (λ x. opened (dc * 64 + x)) (sym (e.0 ∙ length_row dc n))
    ]

abbrev AtRows : ℕ → ℕ → ℕ → Type 0
AtRows places n d = (slice_index_or (rows places n) d [] ≡ row d places) ⊎ ((n ≤ d) × (slice_index_or (rows places n) d [] ≡ []))

rows_at : (places n d : ℕ) → AtRows places n d
rows_at places zero d = inr (omega arith, refl)
rows_at places (suc n) d = cases (rows_at places n d)
  where
    last : AtRows places n d → d ≢ length (rows places n) → slice_index_or (rows places (suc n)) d [] ≡ slice_index_or (rows places n) d [] → AtRows places (suc n) d
    last (inl r) ne e = inl (e ∙ r)
    last (inr r) ne e = inr (let l = length_rows places n in let f : d ≢ n = λ h. ne (h ∙ sym l) in let g = r.0 in omega arith, e ∙ r.1)

    cases : AtRows places n d → AtRows places (suc n) d
    cases rest =
        elim (past_or_in (rows places n) (row n places) d []) [
          | inl e ↦ last rest e.0 e.1
          | inr e ↦ inl (e.1 ∙ ap (λ x. row x places) (sym (e.0 ∙ length_rows places n)))
        ]

opening_at : (s : Setting) (d q : ℕ) → node_at (opening s) d q ≡ opened (d * 64 + q)
opening_at s d q =
    elim (rows_at (length s.place.splits + 1) s.place.dcs d) [
      | inl e ↦ ap (λ r. slice_index_or r q (opened (d * 64 + q))) e ∙ row_at d (length s.place.splits + 1) q
      | inr e ↦ ap (λ r. slice_index_or r q (opened (d * 64 + q))) e.1
    ]

no_entry : {X : Type 0} (n c : ℕ) → (let none : List X = [] in slice_index_or (replicate n none) c none ≡ none)
no_entry zero c = refl
no_entry (suc n) zero = refl
no_entry (suc n) (suc c) = no_entry n c

opening_placed : (s : Setting) → Placed s (opening s)
opening_placed s = record {
  dcs = length_rows (length s.place.splits + 1) s.place.dcs;
  places = λ d h. elim (rows_at (length s.place.splits + 1) s.place.dcs d) [ inl e ↦ ap length e ∙ length_row d (length s.place.splits + 1) | inr e ↦ absurd (omega (arith, e.0)) ];
  numbers = λ d q. ap (λ (n : Node). n.number) (opening_at s d q);
  stored = λ d q t h. absurd (contains_none t (subst (λ (n : Node). Contains n.settled t) (opening_at s d q) h));
  held = λ d q x h. absurd (contains_none x (subst (λ (n : Node). Contains n.held x) (opening_at s d q) h));
  said = λ y h. absurd (contains_none y h);
  behind = λ d q t h. absurd (contains_none t (subst (λ (n : Node). Contains n.settled t) (opening_at s d q) h));
  clocks = λ d q hd hq p h e. absurd (contains_none p h);
  sessions = length-replicate (length s.homes) _;
  contexts = length-replicate (length s.homes) _;
}

opening_kept : (s : Setting) → Kept (home s) (view (opening s))
opening_kept s = record {
  consistent = record { unique = λ p q h. absurd (contains_none p h); above = λ p d h. absurd (contains_none p h); has_puts = λ p d h. absurd (contains_none p h) };
  known = λ d p h. h;
  closed = λ d p x h. absurd (contains_none p h);
  held = λ c p h. absurd (contains_none p (subst (λ x. Contains x p) (no_entry (length s.homes) c) h));
  fair = λ c. subst (λ x. AllFair [] [] x) (sym (no_entry (length s.homes) c)) tt;
  contexts = λ c. no_entry (length s.homes) c ∙ ap (λ x. context_before [] x (length x)) (sym (no_entry (length s.homes) c));
  named = λ p h. absurd (contains_none p h);
  once = λ a b k l x y v e. (let none : slice_get [] a.index ≡ Some (write k x v) = subst (λ z. slice_get z a.index ≡ Some (write k x v)) (no_entry (length s.homes) a.client) e in cc);
}

pub opening_bounded : (s : Setting) → length s.homes ≤ 65535 → IsBounded s (opening s)
opening_bounded s few = record {
  contexts = λ c. subst (IsContext (most_deps s.format)) (sym (no_entry (length s.homes) c)) (no_pairs (most_deps s.format));
  limits = none_within (length s.homes) few;
  fits = λ p h. absurd (contains_none p h);
}

pub opening_sound : (s : Setting) → length s.homes ≤ 65535 → Sound s (opening s)
opening_sound s few = record { placed = opening_placed s; bounded = opening_bounded s few; kept = opening_kept s }

pub reached_sound : (s : Setting) → IsSetting s → (w : World) → IsReached s w → Sound s w
reached_sound s ok w r = run_sound s ok r.0 r.1 (opening s) w (opening_sound s ok.clients) r.2

-- the main theorem
pub reached_accepted : (s : Setting) → IsSetting s → (w : World) → IsReached s w → HasAcceptedVerdict w.sessions
reached_accepted s ok w r = kept_accepted (home s) (view w) (reached_sound s ok w r).kept

pub reached_steps : (s : Setting) → IsSetting s → (w : World) → IsReached s w → (e : Act) (o : Outcome) (new : World) → Happens s w e o new → Step (home s) (view w) (view new)
reached_steps s ok w r e o new h = (event_goes s ok w (reached_sound s ok w r) e o new h).step

-- a pair settled at a primary is settled in the view
view_has_put : (s : Setting) (w : World) → Placed s w → (d : ℕ) (pair : Dep) → settled_at s w d pair ≡ true → HasPut ((view w).settled d) pair
view_has_put s w placed d pair h =
    let b = settled_has_put s w placed d pair h in
    record { put = b.put; among = view_from s w d b.put b.among (subst (λ x. settled_at s w d x ≡ true) (sym b.pair_is) h); pair_is = b.pair_is }

same_stored : (p : PutRecord) (k : List ℕ) (x : Option (List ℕ)) (v : ℕ) → put_pair p ≡ at_version k v → p.value ≡ x → (p.key ≡ k) × (p.value ≡ x) × (p.version ≡ v)
same_stored p k x v e f = (ap (λ (d : Dep). d.key) e, f, ap (λ (d : Dep). d.version) e)

pub sound_invariants : (s : Setting) (w : World) → Sound s w → Invariants s w
sound_invariants s w sound = record {
  closed = kept.closed;
  said = λ y h. view_has_put s w placed y.dc y.pair (placed.said y h);
  marked = λ d q x i dep h m e. view_has_put s w placed d dep ((placed.held d q x h).marked i dep m e);
  carried = carried;
  consistent = kept.consistent;
  clocks = placed.behind;
  held = λ d q x h. (placed.held d q x h).among;
  settled = λ d q t h. (let i = placed.stored d q t h in let n = same_stored i.put t.key t.value t.version i.is.pair_is i.is.value in (i.put, i.is.among, n.0, n.1, n.2));
  issued = kept.named;
  once = none_doubled w.sessions kept.once;
  wrote = wrote;
  got = got;
  contexts = sound.bounded.contexts;
  limits = sound.bounded.limits;
  fits = sound.bounded.fits;
}
  where
    placed : Placed s w
    placed = sound.placed

    kept : Kept (home s) (view w)
    kept = sound.kept

    wrote : (n : OpName) (k : List ℕ) (x : Option (List ℕ)) (v : ℕ) → IsPut w.sessions n k x v → IsIssued w k x v
    wrote n k x v e =
        let f : WasPut w.issued (context_before [] (session w.sessions n.client) n.index) k x v = fair_at w.issued [] (session w.sessions n.client) n.index (write k x v) (kept.fair n.client) e in
        let same = same_stored f.put k x v f.is.pair_is f.is.value in
        (f.put, f.is.among, same.0, same.1, same.2)

    got : (n : OpName) (k : List ℕ) (x : Option (List ℕ)) (v : ℕ) → IsGot w.sessions n k x v → IsIssued w k x v
    got n k x v e =
        let f : WasGot w.issued (context_before [] (session w.sessions n.client) n.index) k x v = fair_at w.issued [] (session w.sessions n.client) n.index (read k x v) (kept.fair n.client) e in
        let same = same_stored f.put k x v f.is.pair_is f.is.value in
        (f.put, f.is.among, same.0, same.1, same.2)

    carried : (a b : OpName) (k : List ℕ) (x : Option (List ℕ)) (v : ℕ) → IsPut w.sessions a k x v → IsNamed w.sessions b → Past w.sessions a b → IsCarried (view w) (home s b.client) b.client (record { key = k; version = v })
    carried a b k x v ea eb past =
        let ops = session w.sessions b.client in
        let wrote = covers_wrote w.issued w.sessions kept.consistent kept.fair a.client a.index k x v ea in
        let at = covers_past w.issued w.sessions kept.consistent kept.fair a b (at_version k v) past wrote in
        let within : b.index < length ops = slice_get_within ops b.index eb.0 eb.1 in
        let end = covers_later w.issued [] ops (suc b.index) (length ops) (at_version k v) (kept.fair b.client) within at in
        let covered : Covers w.issued (context_of (view w) b.client) (at_version k v) = subst (λ c. Covers w.issued c (at_version k v)) (sym (kept.contexts b.client)) end in
        record {
          settled = reaches_settled w.issued ((view w).settled (home s b.client)) kept.consistent (kept.closed (home s b.client)) (kept.known (home s b.client)) covered.from (at_version k v) (kept.held b.client covered.from covered.among) covered.reaches;
          covered = covered;
        }

pub reached_invariants : (s : Setting) → IsSetting s → (w : World) → IsReached s w → Invariants s w
reached_invariants s ok w r = sound_invariants s w (reached_sound s ok w r)

-- the clients' operations are in the format
pub reached_in_format : (s : Setting) → IsSetting s → (w : World) → IsReached s w → AreInFormat s.format w.sessions
reached_in_format s ok w r name op at = go op at
  where
    i : Invariants s w
    i = reached_invariants s ok w r

    issued : (key : List ℕ) (content : Option (List ℕ)) (version : ℕ) → IsIssued w key content version → Fits s.format content
    issued key content version is = subst (Fits s.format) is.3 (i.fits is.0 is.1)

    go : (op : Operation) → op_at w.sessions name ≡ Some op → IsInFormat s.format op
    go (write key content version) at = issued key content version (i.wrote name key content version at)
    go (read key content version) at = issued key content version (i.got name key content version at)
    go (missed key) at = tt
