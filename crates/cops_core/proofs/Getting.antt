-- A client's get is a step of the machine, and an event that only changes a node's held puts changes nothing there.
use Rattle.std.proofs.Common.{◌≡◌, ◌≢◌, ℕ, ◌<◌, inl, inr, List, true, Contains, Option, Some, None, length, refl, sym, ap, ◌∙◌, arith, subst, length-set}
use Rattle.cops_types.specs.Histories.{Operation, read, missed}
use Rattle.cops_types.specs.declared.dep.Dep.{Dep}
use Rattle.cops_types.specs.Format.{most_deps}
use Rattle.cops_types.specs.declared.put_record.PutRecord.{PutRecord}
use Rattle.cops_store.specs.Store.{Stored, has_pair, shown}
use Rattle.cops_node.specs.Acts.{found}
use Rattle.cops_node.specs.Node.{put_pair, Node, answer}
use Rattle.cops_core.specs.Machine.{Gets, Misses, view}
use Rattle.cops_core.specs.World.{Setting, home, primary, World, node_at, context_in, has_room, keeps, met, GetBy, with_answer, with_node}
use Rattle.cops_core.proofs.Lists.{at_version}
use Rattle.cops_core.proofs.Nodes.{same_node, IsAmong, has_to, has_from, IsShown, ShowsWell, shows}
use Rattle.cops_core.proofs.Bounds.{IsBounded, bounded_answered, context_gains}
use Rattle.cops_core.proofs.Placed.{settled_at, IsStored, Placed, is_held_more}
use Rattle.cops_core.proofs.Simulation.{view_to, view_from, Goes}

-- recording a client's operation changes no node
pub placed_answered : (s : Setting) (w : World) (client : ℕ) (op : Operation) (context : List Dep) → Placed s w → Placed s (with_answer w client op context)
placed_answered s w client op context p = record {
  dcs = p.dcs;
  places = p.places;
  numbers = p.numbers;
  stored = p.stored;
  held = λ d q h i. is_held_more s w (with_answer w client op context) d q h (λ x j. j) (λ e pair j. j) (p.held d q h i);
  said = p.said;
  behind = p.behind;
  clocks = p.clocks;
  sessions = length-set w.sessions client _ ∙ p.sessions;
  contexts = length-set w.contexts client _ ∙ p.contexts;
}

-- the result of a get is recorded
keeps_found : (w : World) (dc place client : ℕ) (key : List ℕ) (content : Option (List ℕ)) (version : ℕ) (n : Node)
    → keeps w dc place (GetBy client key) (found content version) n ≡ met (with_node w dc place n) client key content version
keeps_found w dc place client key (Some value) version n = refl
keeps_found w dc place client key None version n = refl

same_put : (p : PutRecord) (k : List ℕ) (x : Option (List ℕ)) (v : ℕ) → p.key ≡ k → p.value ≡ x → p.version ≡ v → p ≡ record { key = k; value = x; version = v; deps = p.deps }
same_put p k x v a b c = λ i. record { key = a i; value = b i; version = c i; deps = p.deps }

module _ (s : Setting) (w : World) (placed : Placed s w) (client : ℕ) (key : List ℕ) (bounded : IsBounded s w) (has_session : client < length w.sessions) (room : has_room w client ≡ true) (few : length (context_in w client) < most_deps s.format) where
  abbrev dc : ℕ
  dc = home s client

  abbrev node : Node
  node = node_at w dc (primary s key)

  has_context : client < length w.contexts
  has_context = let a = placed.sessions in let b = placed.contexts in omega arith

  -- the node has what the view has settled on the key
  on_node : (p : PutRecord) → Contains ((view w).settled dc) p → p.key ≡ key → IsAmong node.settled (put_pair p)
  on_node p h e =
      let v = view_to s w placed dc p h in
      has_to node.settled (put_pair p) (subst (λ k. has_pair (node_at w dc (primary s k)).settled (put_pair p) ≡ true) e v.1)

  misses : ((t : Stored) → Contains node.settled t → t.key ≢ key) → Misses (view w) (view (with_answer w client (missed key) (context_in w client))) dc client key
  misses none = record {
    none = λ p h e. (let i = on_node p h e in none i.item i.among (ap (λ (x : Dep). x.key) i.is ∙ e));
    issued = refl;
    settled = refl;
    answers = record { has_session = has_session; has_context = has_context; sessions = refl; contexts = refl };
  }

  abbrev got : Stored → World
  got t = met w client key t.value t.version

  gets : (t : Stored) → IsShown node.settled key t → (put : PutRecord) × Gets (view w) (view (got t)) dc client put
  gets t shown = (
    put,
    record {
      shown = view_from s w dc put (subst (λ x. Contains w.issued x) same stored.is.among) there;
      greatest = λ p h e. (
          let i = on_node p h e in
          let le = shown.greatest i.item i.among (ap (λ (x : Dep). x.key) i.is ∙ e) in
          let v : i.item.version ≡ p.version = ap (λ (x : Dep). x.version) i.is in
          omega arith);
      issued = refl;
      settled = refl;
      answers = record { has_session = has_session; has_context = has_context; sessions = refl; contexts = refl };
    },
  )
    where
      stored : IsStored s w.issued (primary s key) t
      stored = placed.stored dc (primary s key) t shown.among

      put : PutRecord
      put = record { key = key; value = t.value; version = t.version; deps = stored.put.deps }

      same : stored.put ≡ put
      same = same_put stored.put key t.value t.version (ap (λ (x : Dep). x.key) stored.is.pair_is ∙ shown.on_key) stored.is.value (ap (λ (x : Dep). x.version) stored.is.pair_is)

      there : settled_at s w dc (put_pair put) ≡ true
      there = subst (λ (k : List ℕ). has_pair node.settled (at_version k t.version) ≡ true) shown.on_key (has_from node.settled t shown.among)

  pub get_goes : Goes s w (keeps w dc (primary s key) (GetBy client key) (answer (shown node.settled key)) node)
  get_goes = go (shown node.settled key) (shows node.settled key)
    where
      go : (o : Option Stored) → ShowsWell node.settled key o → Goes s w (keeps w dc (primary s key) (GetBy client key) (answer o) node)
      go None none =
          subst (λ x. Goes s w (with_answer x client (missed key) (context_in w client))) (sym (same_node w dc (primary s key)))
          (record {
            placed = placed_answered s w client _ _ placed;
            bounded = bounded_answered s w _ client (missed key) (context_in w client) bounded has_session has_context room refl refl (bounded.contexts client) bounded.fits;
            step = inr (inr (inl (client, key, misses none)));
          })
      go (Some t) shown =
          subst (λ x. Goes s w x) (sym (keeps_found w dc (primary s key) client key t.value t.version node))
          (subst (λ x. Goes s w (met x client key t.value t.version)) (sym (same_node w dc (primary s key)))
          (record {
            placed = placed_answered s w client _ _ placed;
            bounded = bounded_answered s w _ client (read key t.value t.version) _ bounded has_session has_context room refl refl
                (context_gains (most_deps s.format) (context_in w client) (record { key = key; version = t.version }) (bounded.contexts client) few)
                bounded.fits;
            step = inr (inl (let g = gets t shown in (client, g.0, g.1)));
          }))
