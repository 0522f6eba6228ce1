-- The steps between data centres: deliver, ask, mark and settle.
use Rattle.std.proofs.Common.{◌≡◌, ℕ, ◌<◌, ◌≤◌, ◌⊎◌, inl, inr, List, [], ◌∷◌, ◌++◌, Bool, true, false, cond, ◌||◌, Contains, Option, Some, None, is_some, slice_get, length, refl, sym, ap, ◌∙◌, arith, subst, length-set, nat_lt, eqb-true, ◌==◌}
use Rattle.cops_types.specs.declared.refusal.Refusal.TheVariants.{NoSuchDep, DepsOpen}
use Rattle.std.proofs.lemmas.Bool.{and_parts}
use Rattle.std.proofs.lemmas.List.Elements.{Contains-push_cases}
use Rattle.cops_types.specs.declared.dep.Dep.{Dep}
use Rattle.cops_types.specs.declared.put_record.PutRecord.{PutRecord}
use Rattle.cops_types.specs.Dep.{is_same_dep}
use Rattle.cops_types.specs.Version.{clock_of}
use Rattle.cops_store.specs.Store.{Stored, has_pair}
use Rattle.cops_held.specs.Held.{Waiting, unmarked, is_at, waiting, with_waiting, all_marked, marked, with_mark}
use Rattle.cops_node.specs.declared.outcome.Outcome.{Outcome}
use Rattle.cops_node.specs.declared.outcome.Outcome.TheVariants.{Held, Repeat, Yes, Wait, Marked, Settled, Refused}
use Rattle.cops_node.specs.Node.{dep_at, put_pair, stored_of, Node, mark_at, settled_node, settle_at}
use Rattle.cops_core.specs.World.{Setting, home, primary, Said, World, node_at, with_node, sent, same_said, was_said, gained, with_said, is_answered, keeps, delivers, DeliverTo, AskAt, MarkAt, SettleAt}
use Rattle.cops_core.specs.Machine.{view}
use Rattle.cops_types.specs.NodeNumber.{place_of}
use Rattle.cops_node.proofs.Same.{same_pair_true}
use Rattle.cops_core.proofs.Lists.{not_marked, get_set_cases, all_true_at, place_in}
use Rattle.cops_core.proofs.Accepted.{Kept}
use Rattle.cops_core.proofs.Bounds.{IsBounded, bounded_stays}
use Rattle.cops_core.proofs.Nodes.{any_to, find_to, IsMarked, with_mark_cases, with_waiting_cases, same_node, without_to, with_settled_old, with_settled_cases}
use Rattle.cops_core.proofs.Placed.{settled_at, IsStored, IsHeld, Placed, Change, is_held_more, settled_more, placed_after, each_node}
use Rattle.std.proofs.lemmas.List.{length-replicate}
use Rattle.cops_core.proofs.Simulation.{view_from, settled_has_put, SettlesOne, view_settles, view_stays, Goes, stays_goes, back_goes, primary_within, settles_there, settles_only, stored_from}

-- a node of which only the held puts change
pub record Holds (s : Setting) (w : World) (dc place : ℕ) (n : Node) : Type 0 where
  pub number : n.number ≡ (node_at w dc place).number
  pub clock : n.clock ≡ (node_at w dc place).clock
  pub settled : n.settled ≡ (node_at w dc place).settled
  pub held : (h : Waiting) → Contains n.held h → IsHeld s w dc place h

holds_goes : (s : Setting) → length s.place.splits ≤ 63 → (w : World) → Placed s w → IsBounded s w → (dc place : ℕ) (n : Node) → dc < s.place.dcs → place ≤ length s.place.splits → Holds s w dc place n → Goes s w (with_node w dc place n)
holds_goes s fits w placed bounded dc place n hd hp h = record {
  placed = placed';
  bounded = bounded_stays s w new bounded refl refl refl;
  step = inr (inr (inr (inr (view_stays s w new placed placed' refl refl refl (settled_more s fits w new dc place n change placed) less))));
}
  where
    new : World
    new = with_node w dc place n

    change : Change s w new dc place n
    change = record {
      inside_dc = hd;
      inside = hp;
      nodes = refl;
      number = h.number ∙ placed.numbers dc place;
      issued = λ p i. i;
      settled = λ pair i. subst (λ x. has_pair x pair ≡ true) (sym h.settled) i;
      stored = λ t i. placed.stored dc place t (subst (λ x. Contains x t) h.settled i);
      behind = λ t i. (let a = placed.behind dc place t (subst (λ x. Contains x t) h.settled i) in let b = h.clock in omega arith);
      held = λ more x i. is_held_more s w new dc place x (λ p j. j) more (h.held x i);
      clock = λ p i e. (let a = placed.clocks dc place hd hp p i e in let b = h.clock in omega arith);
      others = λ p i. inl i;
      said = refl;
      sessions = refl;
      contexts = refl;
    }

    placed' : Placed s new
    placed' = placed_after s fits w new dc place n change placed

    less : (d : ℕ) (pair : Dep) → settled_at s new d pair ≡ true → settled_at s w d pair ≡ true
    less d pair = each_node s fits w new dc place n change placed
        (λ e q m. has_pair m.settled pair ≡ true → has_pair (node_at w e q).settled pair ≡ true)
        (λ i. subst (λ x. has_pair x pair ≡ true) h.settled i) (λ e q ne i. i) d (primary s pair.key)

-- a put arrives
pub deliver_goes : (s : Setting) → length s.place.splits ≤ 63 → (w : World) → Placed s w → IsBounded s w → (dc version : ℕ) → dc < s.place.dcs → Goes s w (delivers s w dc version (sent w.issued version)).1
deliver_goes s fits w placed bounded dc version hd = go (sent w.issued version) refl
  where
    taken : (put : PutRecord) → Contains w.issued put → (b : Bool) → Goes s w (let n = node_at w dc (primary s put.key) in let r : Outcome × Node = cond b (Repeat, n) (Held, record { number = n.number; clock = n.clock; settled = n.settled; held = with_waiting n.held (unmarked put) }) in keeps w dc (primary s put.key) (DeliverTo dc version) r.0 r.1)
    taken put i true = back_goes s w placed bounded dc (primary s put.key)
    taken put i false = holds_goes s fits w placed bounded dc (primary s put.key) _ hd (primary_within s put.key)
        (record { number = refl; clock = refl; settled = refl; held = λ h j. held h (with_waiting_cases (node_at w dc (primary s put.key)).held (unmarked put) h j) })
      where
        held : (h : Waiting) → Contains (node_at w dc (primary s put.key)).held h ⊎ (unmarked put ≡ h) → IsHeld s w dc (primary s put.key) h
        held h (inl old) = placed.held dc (primary s put.key) h old
        held h (inr e) = subst (λ x. IsHeld s w dc (primary s put.key) x) e (record {
          among = i;
          placed = refl;
          marks = length-replicate (length put.deps) false;
          marked = λ j d m e. absurd (not_marked (length put.deps) j m);
        })

    go : (o : Option PutRecord) → sent w.issued version ≡ o → Goes s w (delivers s w dc version o).1
    go None e = stays_goes s w placed bounded
    go (Some put) e = taken put (find_to (λ p. version == p.version) w.issued put e).0 (is_some (waiting (node_at w dc (primary s put.key)).held put.version) || has_pair (node_at w dc (primary s put.key)).settled (put_pair put))

-- a Yes answer was there, or is the new one
pub gained_cases : (said : List Said) (y x : Said) → Contains (gained said y) x → Contains said x ⊎ (y ≡ x)
gained_cases said y x = go (was_said said y)
  where
    go : (b : Bool) → Contains (cond b said (said ++ y ∷ [])) x → Contains said x ⊎ (y ≡ x)
    go true h = inl h
    go false h = Contains-push_cases said y x h

-- a Yes answer is for a settled pair
pub ask_goes : (s : Setting) (w : World) → Placed s w → IsBounded s w → (dc : ℕ) (key : List ℕ) (version : ℕ) → (let pair : Dep = record { key = key; version = version } in Goes s w (keeps w dc (primary s key) (AskAt dc key version) (cond (settled_at s w dc pair) Yes Wait) (node_at w dc (primary s key))))
ask_goes s w placed bounded dc key version = go (settled_at s w dc pair) refl
  where
    pair : Dep
    pair = record { key = key; version = version }

    go : (b : Bool) → settled_at s w dc pair ≡ b → Goes s w (keeps w dc (primary s key) (AskAt dc key version) (cond b Yes Wait) (node_at w dc (primary s key)))
    go false e = back_goes s w placed bounded dc (primary s key)
    go true e = subst (λ x. Goes s w (with_said x (record { dc = dc; pair = pair }))) (sym (same_node w dc (primary s key))) (record {
      placed = placed';
      bounded = bounded_stays s w new bounded refl refl refl;
      step = inr (inr (inr (inr (view_stays s w new placed placed' refl refl refl (λ d p h. h) (λ d p h. h)))));
    })
      where
        new : World
        new = with_said w (record { dc = dc; pair = pair })

        said : (y : Said) → Contains w.said y ⊎ (record { dc = dc; pair = pair } ≡ y) → settled_at s w y.dc y.pair ≡ true
        said y (inl old) = placed.said y old
        said y (inr same) = subst (λ (x : Said). settled_at s w x.dc x.pair ≡ true) same e

        placed' : Placed s new
        placed' = record {
          dcs = placed.dcs;
          places = placed.places;
          numbers = placed.numbers;
          stored = placed.stored;
          held = λ d q h i. is_held_more s w new d q h (λ x j. j) (λ e pair j. j) (placed.held d q h i);
          said = λ y h. said y (gained_cases w.said _ y h);
          behind = placed.behind;
          clocks = placed.clocks;
          sessions = placed.sessions;
          contexts = placed.contexts;
        }

-- a put is identified by its version
same_version : (s : Setting) (w : World) → Kept (home s) (view w) → (p q : PutRecord) → Contains w.issued p → Contains w.issued q → p.version ≡ q.version → p ≡ q
same_version s w kept p q hp hq e = kept.consistent.unique p q hp hq e

-- a mark is only for a pair with a Yes answer
pub mark_goes : (s : Setting) → length s.place.splits ≤ 63 → (w : World) → Placed s w → IsBounded s w → Kept (home s) (view w) → (dc version dep : ℕ) → dc < s.place.dcs
    → is_answered w.said dc (dep_at (waiting (node_at w dc (place_of version)).held version) dep) ≡ true
    → (let r = mark_at (node_at w dc (place_of version)) version dep (waiting (node_at w dc (place_of version)).held version) in Goes s w (keeps w dc (place_of version) (MarkAt dc version dep) r.0 r.1))
mark_goes s fits w placed bounded kept dc version dep hd = go (waiting (node_at w dc place).held version) refl
  where
    place : ℕ
    place = place_of version

    said_settled : (pair : Dep) → was_said w.said (record { dc = dc; pair = pair }) ≡ true → settled_at s w dc pair ≡ true
    said_settled pair h =
        let y : Said = record { dc = dc; pair = pair } in
        let p = any_to (same_said y) w.said h in
        let parts = and_parts (dc == p.item.dc) (is_same_dep pair p.item.pair) p.passes in
        let at : dc ≡ p.item.dc = eqb-true dc p.item.dc parts.0 in
        let is : pair ≡ p.item.pair = same_pair_true pair p.item.pair parts.1 in
        let there = placed.said p.item p.among in
        subst (λ x. settled_at s w dc x ≡ true) (sym is) (subst (λ n. settled_at s w n p.item.pair ≡ true) (sym at) there)

    answered : (o : Option Dep) → is_answered w.said dc o ≡ true → (d : Dep) → o ≡ Some d → settled_at s w dc d ≡ true
    answered None h d e = cc
    answered (Some pair) h d e = let same : pair ≡ d = cc in subst (λ x. settled_at s w dc x ≡ true) same (said_settled pair h)

    mark : (h : Waiting) → IsHeld s w dc place h → is_at version h ≡ true → is_answered w.said dc (slice_get h.put.deps dep) ≡ true → (x y : Waiting) → IsHeld s w dc place x → is_at version x ≡ true → marked dep x ≡ y → IsHeld s w dc place y
    mark h ih ah said x y ix ax e = subst (λ z. IsHeld s w dc place z) e (record {
      among = ix.among;
      placed = ix.placed;
      marks = length-set x.marks dep true ∙ ix.marks;
      marked = λ i d m f. at i d (get_set_cases x.marks dep true i true m) f;
    })
      where
        deps : x.put ≡ h.put
        deps = kept.consistent.unique x.put h.put ix.among ih.among (eqb-true x.put.version version ax ∙ sym (eqb-true h.put.version version ah))

        at : (i : ℕ) (d : Dep) → (slice_get x.marks i ≡ Some true) ⊎ (i ≡ dep) → slice_get x.put.deps i ≡ Some d → settled_at s w dc d ≡ true
        at i d (inl old) f = ix.marked i d old f
        at i d (inr same) f =
            answered (slice_get h.put.deps dep) said d
            (ap (λ (p : PutRecord). slice_get p.deps dep) (sym deps) ∙ ap (λ n. slice_get x.put.deps n) (sym same) ∙ f)

    held : (h : Waiting) → IsHeld s w dc place h → is_at version h ≡ true → is_answered w.said dc (slice_get h.put.deps dep) ≡ true → (y : Waiting) → Contains (node_at w dc place).held y ⊎ IsMarked (node_at w dc place).held version dep y → IsHeld s w dc place y
    held h ih a e y (inl old) = placed.held dc place y old
    held h ih a e y (inr m) = mark h ih a e m.from y (placed.held dc place m.from m.among) m.at m.is

    found : (h : Waiting) → Contains (node_at w dc place).held h → is_at version h ≡ true → is_answered w.said dc (slice_get h.put.deps dep) ≡ true → (c : Bool) → Goes s w (let n = node_at w dc place in let r : Outcome × Node = cond c (Marked, record { number = n.number; clock = n.clock; settled = n.settled; held = with_mark n.held version dep }) (Refused NoSuchDep, n) in keeps w dc place (MarkAt dc version dep) r.0 r.1)
    found h i a e false = back_goes s w placed bounded dc place
    found h i a e true =
        let ih = placed.held dc place h i in
        let inside : place ≤ length s.place.splits = (let p = primary_within s h.put.key in let q = ih.placed in omega arith) in
        holds_goes s fits w placed bounded dc place _ hd inside (record {
          number = refl;
          clock = refl;
          settled = refl;
          held = λ y j. held h ih a e y (with_mark_cases (node_at w dc place).held version dep y j);
        })

    go : (o : Option Waiting) → waiting (node_at w dc place).held version ≡ o → is_answered w.said dc (dep_at o dep) ≡ true → (let r = mark_at (node_at w dc place) version dep o in Goes s w (keeps w dc place (MarkAt dc version dep) r.0 r.1))
    go None e a = back_goes s w placed bounded dc place
    go (Some h) e a =
        let f = find_to (is_at version) (node_at w dc place).held h e in
        found h f.0 f.1 a (nat_lt dep (length h.put.deps))

-- a held put whose dependencies are all marked is settled
module _ (s : Setting) (fits : length s.place.splits ≤ 63) (w : World) (placed : Placed s w) (bounded : IsBounded s w) (kept : Kept (home s) (view w)) (dc place : ℕ) (hd : dc < s.place.dcs) (h : Waiting) (h_held : Contains (node_at w dc place).held h) (all : all_marked h ≡ true) where
  abbrev node : Node
  node = node_at w dc place

  abbrev node' : Node
  node' = settled_node node h.put

  abbrev new : World
  new = with_node w dc place node'

  is : IsHeld s w dc place h
  is = placed.held dc place h h_held

  inside : place ≤ length s.place.splits
  inside = let p = primary_within s h.put.key in let q = is.placed in omega arith

  deps_settled : (d : Dep) → Contains h.put.deps d → settled_at s w dc d ≡ true
  deps_settled d i =
      let at = place_in h.put.deps d i in
      let marks = is.marks in
      let lt = at.1 in
      is.marked at.0 d (all_true_at h.marks at.0 all (omega arith)) at.2

  change : Change s w new dc place node'
  change = record {
    inside_dc = hd;
    inside = inside;
    nodes = refl;
    number = placed.numbers dc place;
    issued = λ p i. i;
    settled = λ pair i. with_settled_old node.settled (stored_of h.put) pair i;
    stored = λ t i. stored t (with_settled_cases node.settled (stored_of h.put) t i);
    behind = λ t i. behind t (with_settled_cases node.settled (stored_of h.put) t i);
    held = λ more x i. is_held_more s w new dc place x (λ p j. j) more (placed.held dc place x (without_to node.held h.put.version x i));
    clock = λ p i e. (let a = placed.clocks dc place hd inside p i e in omega arith);
    others = λ p i. inl i;
    said = refl;
    sessions = refl;
    contexts = refl;
  }
    where
      stored : (t : Stored) → Contains node.settled t ⊎ (stored_of h.put ≡ t) → IsStored s w.issued place t
      stored t (inl i) = placed.stored dc place t i
      stored t (inr e) = stored_from s w.issued place h.put t is.among is.placed e

      behind : (t : Stored) → Contains node.settled t ⊎ (stored_of h.put ≡ t) → clock_of t.version ≤ node'.clock
      behind t (inl i) = let a = placed.behind dc place t i in omega arith
      behind t (inr e) = let a : clock_of h.put.version ≡ clock_of t.version = ap (λ (x : Stored). clock_of x.version) e in omega arith

  placed' : Placed s new
  placed' = placed_after s fits w new dc place node' change placed

  settles : SettlesOne s w new dc h.put
  settles = record {
    offered = is.among;
    there = settles_there s fits w new dc place node' change placed h.put refl is.placed;
    more = settled_more s fits w new dc place node' change placed;
    only = settles_only s fits w new dc place node' change placed h.put refl;
    issued = λ p i. i;
    others = λ p i. inl i;
    one = λ p i e. same_version s w kept h.put p is.among i (sym e);
  }

  pub settled_goes : Goes s w new
  settled_goes = record {
    placed = placed';
    bounded = bounded_stays s w new bounded refl refl refl;
    step = inr (inr (inr (inl (
      dc,
      h.put,
      record {
        offered = is.among;
        deps = λ d i. (
            let t = deps_settled d i in
            let b = settled_has_put s w placed dc d t in
            (b.put, (view_from s w dc b.put b.among (subst (λ x. settled_at s w dc x ≡ true) (sym b.pair_is) t), b.pair_is)));
        issued = refl;
        settled = view_settles s w new dc h.put placed placed' settles;
        contexts = refl;
        sessions = refl;
      },
    ))));
  }

pub settle_goes : (s : Setting) → length s.place.splits ≤ 63 → (w : World) → Placed s w → IsBounded s w → Kept (home s) (view w) → (dc version : ℕ) → dc < s.place.dcs
    → (let r = settle_at (node_at w dc (place_of version)) (waiting (node_at w dc (place_of version)).held version) in Goes s w (keeps w dc (place_of version) (SettleAt dc version) r.0 r.1))
settle_goes s fits w placed bounded kept dc version hd = go (waiting (node_at w dc place).held version) refl
  where
    place : ℕ
    place = place_of version

    found : (h : Waiting) → Contains (node_at w dc place).held h → (b : Bool) → all_marked h ≡ b → Goes s w (let n = node_at w dc place in let r : Outcome × Node = cond b (Settled, settled_node n h.put) (Refused DepsOpen, n) in keeps w dc place (SettleAt dc version) r.0 r.1)
    found h i false e = back_goes s w placed bounded dc place
    found h i true e = settled_goes s fits w placed bounded kept dc place hd h i e

    go : (o : Option Waiting) → waiting (node_at w dc place).held version ≡ o → (let r = settle_at (node_at w dc place) o in Goes s w (keeps w dc place (SettleAt dc version) r.0 r.1))
    go None e = back_goes s w placed bounded dc place
    go (Some h) e = found h (find_to (is_at version) (node_at w dc place).held h e).0 (all_marked h) refl
