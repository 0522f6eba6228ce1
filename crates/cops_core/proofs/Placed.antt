-- The invariant of the nodes: each pair is at its key's primary, held puts are issued, marks and Yes answers are for settled pairs, and clocks are
-- not behind.
use Rattle.std.proofs.Common.{◌≡◌, ◌≢◌, ℕ, ◌+◌, ◌*◌, ◌<◌, ◌≤◌, ◌⊎◌, inl, inr, List, [], Bool, true, Contains, Some, slice_get, slice_set, slice_index_or, length, sym, ap, ◌∙◌, arith, subst, get_or-set_same, get_or-set_other, length-set}
use Rattle.std.proofs.lemmas.Bool.{cases_eq}
use Rattle.cops_types.specs.declared.dep.Dep.{Dep}
use Rattle.cops_types.specs.declared.put_record.PutRecord.{PutRecord}
use Rattle.cops_types.specs.Version.{clock_of, node_of}
use Rattle.cops_store.specs.Store.{Stored, has_pair}
use Rattle.cops_held.specs.Held.{Waiting}
use Rattle.cops_node.specs.Node.{Node, opened}
use Rattle.cops_core.specs.World.{Setting, primary, Said, World, node_at, with_node}
use Rattle.cops_core.proofs.Contexts.{IsOf}
use Rattle.cops_core.proofs.Nodes.{node_here, node_elsewhere}

-- the data centre has settled the pair, at its key's primary
abbrev pub settled_at : Setting → World → ℕ → Dep → Bool
settled_at s w dc pair = has_pair (node_at w dc (primary s pair.key)).settled pair

pub record IsStored (s : Setting) (issued : List PutRecord) (place : ℕ) (t : Stored) : Type 0 where
  pub put : PutRecord
  pub is : IsOf issued t.key t.value t.version put
  pub placed : place ≡ primary s t.key

pub record IsHeld (s : Setting) (w : World) (dc place : ℕ) (h : Waiting) : Type 0 where
  pub among : Contains w.issued h.put
  pub placed : place ≡ primary s h.put.key
  pub marks : length h.marks ≡ length h.put.deps
  pub marked : (i : ℕ) (d : Dep) → slice_get h.marks i ≡ Some true → slice_get h.put.deps i ≡ Some d → settled_at s w dc d ≡ true

pub record Placed (s : Setting) (w : World) : Type 0 where
  pub dcs : length w.nodes ≡ s.place.dcs
  pub places : (d : ℕ) → d < s.place.dcs → length (slice_index_or w.nodes d []) ≡ length s.place.splits + 1
  pub numbers : (d q : ℕ) → (node_at w d q).number ≡ d * 64 + q
  pub stored : (d q : ℕ) (t : Stored) → Contains (node_at w d q).settled t → IsStored s w.issued q t
  pub held : (d q : ℕ) (h : Waiting) → Contains (node_at w d q).held h → IsHeld s w d q h
  pub said : (y : Said) → Contains w.said y → settled_at s w y.dc y.pair ≡ true
  pub behind : (d q : ℕ) (t : Stored) → Contains (node_at w d q).settled t → clock_of t.version ≤ (node_at w d q).clock
  pub clocks : (d q : ℕ) → d < s.place.dcs → q ≤ length s.place.splits → (p : PutRecord) → Contains w.issued p → node_of p.version ≡ d * 64 + q → clock_of p.version ≤ (node_at w d q).clock
  pub sessions : length w.sessions ≡ length s.homes
  pub contexts : length w.contexts ≡ length s.homes

-- one node becomes n
pub record Change (s : Setting) (old new : World) (dc place : ℕ) (n : Node) : Type 0 where
  pub inside_dc : dc < s.place.dcs
  pub inside : place ≤ length s.place.splits
  pub nodes : new.nodes ≡ (with_node old dc place n).nodes
  pub number : n.number ≡ dc * 64 + place
  pub issued : (p : PutRecord) → Contains old.issued p → Contains new.issued p
  pub settled : (pair : Dep) → has_pair (node_at old dc place).settled pair ≡ true → has_pair n.settled pair ≡ true
  pub stored : (t : Stored) → Contains n.settled t → IsStored s new.issued place t
  pub behind : (t : Stored) → Contains n.settled t → clock_of t.version ≤ n.clock
  pub held : ((d : ℕ) (pair : Dep) → settled_at s old d pair ≡ true → settled_at s new d pair ≡ true) → (h : Waiting) → Contains n.held h → IsHeld s new dc place h
  pub clock : (p : PutRecord) → Contains new.issued p → node_of p.version ≡ dc * 64 + place → clock_of p.version ≤ n.clock
  pub others : (p : PutRecord) → Contains new.issued p → Contains old.issued p ⊎ (node_of p.version ≡ dc * 64 + place)
  pub said : new.said ≡ old.said
  pub sessions : length new.sessions ≡ length old.sessions
  pub contexts : length new.contexts ≡ length old.contexts

pub is_stored_more : (s : Setting) (old new : List PutRecord) (q : ℕ) (t : Stored) → ((p : PutRecord) → Contains old p → Contains new p) → IsStored s old q t → IsStored s new q t
is_stored_more s old new q t m i = record { put = i.put; is = record { among = m i.put i.is.among; pair_is = i.is.pair_is; value = i.is.value }; placed = i.placed }

pub is_held_more : (s : Setting) (old new : World) (d q : ℕ) (h : Waiting) → ((p : PutRecord) → Contains old.issued p → Contains new.issued p) → ((d : ℕ) (pair : Dep) → settled_at s old d pair ≡ true → settled_at s new d pair ≡ true) → IsHeld s old d q h → IsHeld s new d q h
is_held_more s old new d q h m more i = record { among = m h.put i.among; placed = i.placed; marks = i.marks; marked = λ j dep a b. more d dep (i.marked j dep a b) }

module _ (s : Setting) (fits : length s.place.splits ≤ 63) (old new : World) (dc place : ℕ) (n : Node) (c : Change s old new dc place n) (p : Placed s old) where
  pub node_new : node_at new dc place ≡ n
  node_new =
      let hd : dc < length old.nodes = (let i = c.inside_dc in let l = p.dcs in omega arith) in
      let hp : place < length (slice_index_or old.nodes dc []) = (let i = c.inside in let l = p.places dc c.inside_dc in omega arith) in
      ap (λ ns. slice_index_or (slice_index_or ns dc []) place (opened (dc * 64 + place))) c.nodes ∙ node_here old dc place n hd hp

  node_other : (d q : ℕ) → (d ≢ dc) ⊎ (q ≢ place) → node_at new d q ≡ node_at old d q
  node_other d q ne =
      let hd : dc < length old.nodes = (let i = c.inside_dc in let l = p.dcs in omega arith) in
      ap (λ ns. slice_index_or (slice_index_or ns d []) q (opened (d * 64 + q))) c.nodes ∙ node_elsewhere old dc place n d q hd ne

  -- a property of the changed node and of the others holds for each node
  pub each_node : (P : ℕ → ℕ → Node → Type 0) → P dc place n → ((d q : ℕ) → (d ≢ dc) ⊎ (q ≢ place) → P d q (node_at old d q)) → (d q : ℕ) → P d q (node_at new d q)
  each_node P here other d q = cases (cases_eq d dc) (cases_eq q place)
    where
      cases : (d ≡ dc) ⊎ (d ≡ dc → ⊥) → (q ≡ place) ⊎ (q ≡ place → ⊥) → P d q (node_at new d q)
      cases (inr ne) e = subst (P d q) (sym (node_other d q (inl ne))) (other d q (inl ne))
      cases (inl a) (inr ne) = subst (P d q) (sym (node_other d q (inr ne))) (other d q (inr ne))
      cases (inl a) (inl b) =
          subst (λ x. P x q (node_at new x q)) (sym a)
          (subst (λ y. P dc y (node_at new dc y)) (sym b)
          (subst (P dc place) (sym node_new) here))

  pub settled_more : (d : ℕ) (pair : Dep) → settled_at s old d pair ≡ true → settled_at s new d pair ≡ true
  settled_more d pair =
      each_node (λ e q m. has_pair (node_at old e q).settled pair ≡ true → has_pair m.settled pair ≡ true) (c.settled pair) (λ e q ne h. h) d (primary s pair.key)

  pub placed_after : Placed s new
  placed_after = record {
    dcs = ap length c.nodes ∙ length-set old.nodes dc _ ∙ p.dcs;
    places = λ d h. places d h (cases_eq d dc);
    numbers = each_node (λ d q m. m.number ≡ d * 64 + q) c.number (λ d q ne. p.numbers d q);
    stored = each_node (λ d q m. (t : Stored) → Contains m.settled t → IsStored s new.issued q t) c.stored (λ d q ne t h. is_stored_more s old.issued new.issued q t c.issued (p.stored d q t h));
    held = each_node (λ d q m. (h : Waiting) → Contains m.held h → IsHeld s new d q h) (c.held settled_more) (λ d q ne h i. is_held_more s old new d q h c.issued settled_more (p.held d q h i));
    said = λ y h. settled_more y.dc y.pair (p.said y (subst (λ x. Contains x y) c.said h));
    behind = each_node (λ d q m. (t : Stored) → Contains m.settled t → clock_of t.version ≤ m.clock) c.behind (λ d q ne t h. p.behind d q t h);
    clocks = each_node (λ d q m. d < s.place.dcs → q ≤ length s.place.splits → (x : PutRecord) → Contains new.issued x → node_of x.version ≡ d * 64 + q → clock_of x.version ≤ m.clock)
        (λ hd hq. c.clock)
        (λ d q ne hd hq x h e. clocks d q ne hd hq x e (c.others x h));
    sessions = c.sessions ∙ p.sessions;
    contexts = c.contexts ∙ p.contexts;
  }
    where
      places : (d : ℕ) → d < s.place.dcs → (d ≡ dc) ⊎ (d ≡ dc → ⊥) → length (slice_index_or new.nodes d []) ≡ length s.place.splits + 1
      places d h (inr ne) = ap (λ ns. length (slice_index_or ns d [])) c.nodes ∙ ap length (get_or-set_other old.nodes dc d _ [] ne) ∙ p.places d h
      places d h (inl e) =
          let hd : dc < length old.nodes = (let i = c.inside_dc in let l = p.dcs in omega arith) in
          ap (λ ns. length (slice_index_or ns d [])) c.nodes
          ∙ ap (λ x. length (slice_index_or (with_node old dc place n).nodes x [])) e
          ∙ ap length (get_or-set_same old.nodes dc (slice_set (slice_index_or old.nodes dc []) place n) [] hd)
          ∙ length-set (slice_index_or old.nodes dc []) place n ∙ p.places dc c.inside_dc

      clocks : (d q : ℕ) → (d ≢ dc) ⊎ (q ≢ place) → d < s.place.dcs → q ≤ length s.place.splits → (x : PutRecord) → node_of x.version ≡ d * 64 + q → Contains old.issued x ⊎ (node_of x.version ≡ dc * 64 + place) → clock_of x.version ≤ (node_at old d q).clock
      clocks d q ne hd hq x e (inl o) = p.clocks d q hd hq x o e
      clocks d q (inl ne) hd hq x e (inr f) = let inside = c.inside in absurd (ne (omega arith))
      clocks d q (inr ne) hd hq x e (inr f) = let inside = c.inside in absurd (ne (omega arith))
