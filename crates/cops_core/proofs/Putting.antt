-- A client's put is a step of the machine.
use Rattle.std.proofs.Common.{◌≡◌, ◌≢◌, ℕ, ◌+◌, ◌*◌, ◌<◌, ◌≤◌, ◌⊎◌, inl, inr, List, [], ◌∷◌, ◌++◌, true, Contains, length, refl, sym, ap, ◌∙◌, arith, subst, length-set, Option, Some}
use Rattle.std.proofs.lemmas.List.Elements.{Contains-append_left, Contains-push, Contains-push_cases}
use Rattle.cops_types.specs.Histories.{write}
use Rattle.cops_types.specs.declared.dep.Dep.{Dep}
use Rattle.cops_types.specs.declared.put_record.PutRecord.{PutRecord}
use Rattle.cops_types.specs.Format.{Fits, fits}
use Rattle.cops_types.specs.Version.{clock_of, node_of}
use Rattle.cops_types.specs.NodeNumber.{version_of}
use Rattle.cops_store.specs.Store.{Stored}
use Rattle.cops_node.specs.Acts.{written}
use Rattle.cops_node.specs.Node.{put_pair, stored_of, Node, raised, write_at}
use Rattle.cops_core.specs.World.{Setting, IsSetting, home, primary, World, node_at, with_node, context_in, has_room, keeps, wrote, WriteBy}
use Rattle.cops_core.specs.Machine.{view}
use Rattle.cops_core.proofs.Accepted.{Kept}
use Rattle.cops_core.proofs.Writes.{fits_in, given_written}
use Rattle.cops_core.proofs.Nodes.{with_settled_old, with_settled_cases, raised_own, raised_dep}
use Rattle.cops_core.proofs.Bounds.{IsBounded, bounded_answered, one_pair}
use Rattle.cops_core.proofs.Placed.{IsStored, Placed, Change, is_stored_more, is_held_more, settled_more, placed_after}
use Rattle.cops_core.proofs.Simulation.{SettlesOne, view_settles, Goes, version_clock, version_node, primary_within, home_within, settles_there, settles_only, stored_from}

module _ (s : Setting) (ok : IsSetting s) (w : World) (placed : Placed s w) (kept : Kept (home s) (view w)) (client : ℕ) (key : List ℕ) (content : Option (List ℕ)) (bounded : IsBounded s w) (has_session : client < length w.sessions) (room : has_room w client ≡ true) (fit : fits s.format content ≡ true) where
  abbrev dc : ℕ
  dc = home s client

  abbrev place : ℕ
  place = primary s key

  abbrev node : Node
  node = node_at w dc place

  abbrev clock : ℕ
  clock = raised node.clock (context_in w client)

  abbrev version : ℕ
  version = version_of (clock + 1) node.number

  abbrev put : PutRecord
  put = record { key = key; value = content; version = version; deps = context_in w client }

  abbrev node' : Node
  node' = (write_at node key content (clock + 1)).1

  abbrev new : World
  new = wrote (with_node w dc place node') client key content (Some version)

  has_context : client < length w.contexts
  has_context = let a = placed.sessions in let b = placed.contexts in omega arith

  dc_within : dc < s.place.dcs
  dc_within = home_within s ok w placed client has_session

  small : node.number < 65536
  small =
      let a = placed.numbers dc place in
      let b = dc_within in
      let c = ok.place.range.1 in
      let d = primary_within s key in
      let e = ok.place.range.2 in
      omega arith

  clock_is : clock_of version ≡ clock + 1
  clock_is = version_clock (clock + 1) node.number small

  node_is : node_of version ≡ dc * 64 + place
  node_is = version_node (clock + 1) node.number small ∙ placed.numbers dc place

  old_clock : (p : PutRecord) → Contains w.issued p → node_of p.version ≡ dc * 64 + place → clock_of p.version ≤ clock
  old_clock p h e =
      let a = placed.clocks dc place dc_within (primary_within s key) p h e in
      let b = raised_own node.clock (context_in w client) in
      omega arith

  pub fresh : (p : PutRecord) → Contains w.issued p → p.version ≢ version
  fresh p h e =
      let at : node_of p.version ≡ dc * 64 + place = ap node_of e ∙ node_is in
      let a = old_clock p h at in
      let b : clock_of p.version ≡ clock + 1 = ap clock_of e ∙ clock_is in
      omega arith

  above : (d : Dep) → Contains (context_in w client) d → d.version < version
  above d h = let a = raised_dep node.clock (context_in w client) d h in omega arith

  more_issued : (p : PutRecord) → Contains w.issued p → Contains (w.issued ++ put ∷ []) p
  more_issued p h = Contains-append_left w.issued (put ∷ []) p h

  change : Change s w new dc place node'
  change = record {
    inside_dc = dc_within;
    inside = primary_within s key;
    nodes = refl;
    number = placed.numbers dc place;
    issued = more_issued;
    settled = λ pair h. with_settled_old node.settled (stored_of put) pair h;
    stored = λ t h. stored t (with_settled_cases node.settled (stored_of put) t h);
    behind = λ t h. behind t (with_settled_cases node.settled (stored_of put) t h);
    held = λ more h i. is_held_more s w new dc place h more_issued more (placed.held dc place h i);
    clock = λ p h e. clocks p e (Contains-push_cases w.issued put p h);
    others = λ p h. others p (Contains-push_cases w.issued put p h);
    said = refl;
    sessions = length-set w.sessions client _;
    contexts = length-set w.contexts client _;
  }
    where
      stored : (t : Stored) → Contains node.settled t ⊎ (stored_of put ≡ t) → IsStored s (w.issued ++ put ∷ []) place t
      stored t (inl h) = is_stored_more s w.issued (w.issued ++ put ∷ []) place t more_issued (placed.stored dc place t h)
      stored t (inr e) = stored_from s (w.issued ++ put ∷ []) place put t (Contains-push w.issued put) refl e

      behind : (t : Stored) → Contains node.settled t ⊎ (stored_of put ≡ t) → clock_of t.version ≤ clock + 1
      behind t (inl h) = let a = placed.behind dc place t h in let b = raised_own node.clock (context_in w client) in omega arith
      behind t (inr e) = let a : clock_of version ≡ clock_of t.version = ap (λ (x : Stored). clock_of x.version) e in let b = clock_is in omega arith

      clocks : (p : PutRecord) → node_of p.version ≡ dc * 64 + place → Contains w.issued p ⊎ (put ≡ p) → clock_of p.version ≤ clock + 1
      clocks p e (inl h) = let a = old_clock p h e in omega arith
      clocks p e (inr same) = let a : clock_of version ≡ clock_of p.version = ap (λ (x : PutRecord). clock_of x.version) same in let b = clock_is in omega arith

      others : (p : PutRecord) → Contains w.issued p ⊎ (put ≡ p) → Contains w.issued p ⊎ (node_of p.version ≡ dc * 64 + place)
      others p (inl h) = inl h
      others p (inr same) = inr (ap (λ (x : PutRecord). node_of x.version) (sym same) ∙ node_is)

  placed' : Placed s new
  placed' = placed_after s ok.place.range.2 w new dc place node' change placed

  settles : SettlesOne s w new dc put
  settles = record {
    offered = Contains-push w.issued put;
    there = settles_there s ok.place.range.2 w new dc place node' change placed put refl refl;
    more = settled_more s ok.place.range.2 w new dc place node' change placed;
    only = settles_only s ok.place.range.2 w new dc place node' change placed put refl;
    issued = more_issued;
    others = λ p h. Contains-push_cases w.issued put p h;
    one = λ p h e. one p e (Contains-push_cases w.issued put p h);
  }
    where
      one : (p : PutRecord) → p.version ≡ version → Contains w.issued p ⊎ (put ≡ p) → put ≡ p
      one p e (inl h) = absurd (fresh p h e)
      one p e (inr same) = same

  all_fit : (p : PutRecord) → Contains w.issued p ⊎ (put ≡ p) → Fits s.format p.value
  all_fit p (inl h) = bounded.fits p h
  all_fit p (inr e) = subst (λ (x : PutRecord). Fits s.format x.value) e (fits_in s.format content fit)

  goes : Goes s w new
  goes = record {
    placed = placed';
    bounded = bounded_answered s w new client (write key content version) (put_pair put ∷ []) bounded has_session has_context room refl refl (one_pair s.format (put_pair put))
        (λ p h. all_fit p (Contains-push_cases w.issued put p h));
    step = inl (
      client,
      put,
      record {
        deps = refl;
        above = above;
        fresh = fresh;
        issued = refl;
        settled = view_settles s w new dc put placed placed' settles;
        answers = record { has_session = has_session; has_context = has_context; sessions = refl; contexts = refl };
      },
    );
  }

  pub put_goes : Goes s w (keeps w dc place (WriteBy client key content) (written content version) node')
  put_goes = subst (λ (o : Option ℕ). Goes s w (wrote (with_node w dc place node') client key content o)) (sym (given_written content version)) goes
