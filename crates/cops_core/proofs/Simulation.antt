-- Each event of the world is a step of the machine on its view, and keeps the nodes placed.
use Rattle.std.proofs.Common.{◌≡◌, ◌≢◌, ℕ, ◌<◌, ◌≤◌, ◌⊎◌, inl, inr, List, ◌∷◌, Bool, true, false, Contains, Option, Some, None, length, refl, sym, ap, ◌∙◌, arith, subst}
use Rattle.cops_types.specs.declared.refusal.Refusal.{Refusal}
use Rattle.std.specs.Ordering.{is_le, nat_cmp}
use Rattle.std.specs.Cmp.Lexicographic.{slice_cmp}
use Rattle.std.proofs.lemmas.List.Sums.{count_by-le-length}
use Rattle.cops_types.specs.declared.dep.Dep.{Dep}
use Rattle.cops_types.specs.declared.put_record.PutRecord.{PutRecord}
use Rattle.cops_types.specs.Version.{clock_of, node_of}
use Rattle.cops_types.specs.NodeNumber.{version_of}
use Rattle.cops_store.specs.Store.{Stored, stored_pair, has_pair, with_settled}
use Rattle.cops_node.specs.declared.outcome.Outcome.{Outcome}
use Rattle.cops_node.specs.Node.{put_pair, stored_of, Node}
use Rattle.cops_core.specs.Dependencies.{HasPut}
use Rattle.cops_core.specs.Machine.{SettlesAt, Stays, Step, view}
use Rattle.cops_core.specs.World.{Setting, IsSetting, home, primary, World, node_at, with_node, refusal, unless, settled_in}
use Rattle.cops_core.proofs.Bounds.{IsBounded}
use Rattle.cops_core.proofs.Nodes.{same_node, filter_to, filter_from, IsAmong, has_to, has_from, with_settled_new, with_settled_cases, settled_in_to, settled_in_from}
use Rattle.cops_core.proofs.Placed.{settled_at, IsStored, Placed, Change, each_node, node_new}

-- a put settled in the view is settled at a primary
pub view_to : (s : Setting) (w : World) → Placed s w → (d : ℕ) (p : PutRecord) → Contains ((view w).settled d) p → Contains w.issued p × (settled_at s w d (put_pair p) ≡ true)
view_to s w placed d p h =
    let f = filter_to (λ x. has_pair (settled_in w d) (put_pair x)) w.issued p h in
    let at = settled_in_to w d (put_pair p) f.1 in
    let item = has_to (node_at w d at.0).settled (put_pair p) at.1 in
    let stored = placed.stored d at.0 item.item item.among in
    let place : at.0 ≡ primary s p.key = stored.placed ∙ ap (λ (x : Dep). primary s x.key) item.is in
    (f.0, subst (λ q. has_pair (node_at w d q).settled (put_pair p) ≡ true) place at.1)

pub view_from : (s : Setting) (w : World) (d : ℕ) (p : PutRecord) → Contains w.issued p → settled_at s w d (put_pair p) ≡ true → Contains ((view w).settled d) p
view_from s w d p i h = filter_from (λ x. has_pair (settled_in w d) (put_pair x)) w.issued p i (settled_in_from w d (primary s p.key) (put_pair p) h)

-- a data centre has settled a pair exactly if its key's primary there has
pub settled_here : (s : Setting) (w : World) → Placed s w → (d : ℕ) (pair : Dep) → settled_at s w d pair ≡ has_pair (settled_in w d) pair
settled_here s w placed d pair = cases_true _ _ (settled_in_from w d (primary s pair.key) pair) back
  where
    back : has_pair (settled_in w d) pair ≡ true → settled_at s w d pair ≡ true
    back h =
        let at = settled_in_to w d pair h in
        let item = has_to (node_at w d at.0).settled pair at.1 in
        let place : at.0 ≡ primary s pair.key = (placed.stored d at.0 item.item item.among).placed ∙ ap (λ (x : Dep). primary s x.key) item.is in
        subst (λ q. has_pair (node_at w d q).settled pair ≡ true) place at.1

    cases_true : (a b : Bool) → (a ≡ true → b ≡ true) → (b ≡ true → a ≡ true) → a ≡ b
    cases_true true b f g = sym (f refl)
    cases_true false true f g = g refl
    cases_true false false f g = refl

-- the issued put of a settled pair
pub settled_has_put : (s : Setting) (w : World) → Placed s w → (d : ℕ) (pair : Dep) → settled_at s w d pair ≡ true → HasPut w.issued pair
settled_has_put s w placed d pair h =
    let item = has_to (node_at w d (primary s pair.key)).settled pair h in
    let stored = placed.stored d (primary s pair.key) item.item item.among in
    record { put = stored.put; among = stored.is.among; pair_is = stored.is.pair_is ∙ item.is }

-- the conditions under which a data centre settles one put
pub record SettlesOne (s : Setting) (old new : World) (dc : ℕ) (put : PutRecord) : Type 0 where
  pub offered : Contains new.issued put
  pub there : settled_at s new dc (put_pair put) ≡ true
  pub more : (d : ℕ) (pair : Dep) → settled_at s old d pair ≡ true → settled_at s new d pair ≡ true
  pub only : (d : ℕ) (pair : Dep) → settled_at s new d pair ≡ true → (settled_at s old d pair ≡ true) ⊎ ((d ≡ dc) × (put_pair put ≡ pair))
  pub issued : (p : PutRecord) → Contains old.issued p → Contains new.issued p
  pub others : (p : PutRecord) → Contains new.issued p → Contains old.issued p ⊎ (put ≡ p)
  pub one : (p : PutRecord) → Contains new.issued p → p.version ≡ put.version → put ≡ p

pub view_settles : (s : Setting) (old new : World) (dc : ℕ) (put : PutRecord) → Placed s old → Placed s new → SettlesOne s old new dc put → SettlesAt (view old) (view new) dc put
view_settles s old new dc put po pn o = record {
  here = λ p. (λ h. (let v = view_to s new pn dc p h in here p (o.others p v.0) (o.only dc (put_pair p) v.1) v.0), λ h. back p h);
  others = λ d ne p. (
    λ h. (let v = view_to s new pn d p h in other d ne p (o.others p v.0) (o.only d (put_pair p) v.1)),
    λ h. (let v = view_to s old po d p h in view_from s new d p (o.issued p v.0) (o.more d (put_pair p) v.1)),
  );
}
  where
    here : (p : PutRecord) → Contains old.issued p ⊎ (put ≡ p) → (settled_at s old dc (put_pair p) ≡ true) ⊎ ((dc ≡ dc) × (put_pair put ≡ put_pair p)) → Contains new.issued p → Contains ((view old).settled dc) p ⊎ (put ≡ p)
    here p (inr e) h i = inr e
    here p (inl a) (inl b) i = inl (view_from s old dc p a b)
    here p (inl a) (inr b) i = inr (o.one p i (ap (λ (x : Dep). x.version) (sym b.1)))

    back : (p : PutRecord) → Contains ((view old).settled dc) p ⊎ (put ≡ p) → Contains ((view new).settled dc) p
    back p (inl h) = let v = view_to s old po dc p h in view_from s new dc p (o.issued p v.0) (o.more dc (put_pair p) v.1)
    back p (inr e) = subst (λ x. Contains ((view new).settled dc) x) e (view_from s new dc put o.offered o.there)

    other : (d : ℕ) → d ≢ dc → (p : PutRecord) → Contains old.issued p ⊎ (put ≡ p) → (settled_at s old d (put_pair p) ≡ true) ⊎ ((d ≡ dc) × (put_pair put ≡ put_pair p)) → Contains ((view old).settled d) p
    other d ne p i (inr b) = absurd (ne b.0)
    other d ne p (inl a) (inl b) = view_from s old d p a b
    other d ne p (inr e) (inl b) =
        let was = settled_has_put s old po d (put_pair p) b in
        let version : was.put.version ≡ put.version = ap (λ (x : Dep). x.version) was.pair_is ∙ ap (λ (x : PutRecord). x.version) (sym e) in
        let same = o.one was.put (o.issued was.put was.among) version in
        view_from s old d p (subst (λ x. Contains old.issued x) (sym same ∙ e) was.among) b

-- an event that changes no settled pairs, issued puts, contexts and sessions does not change the view
pub view_stays : (s : Setting) (old new : World) → Placed s old → Placed s new → new.issued ≡ old.issued → new.contexts ≡ old.contexts → new.sessions ≡ old.sessions → ((d : ℕ) (pair : Dep) → settled_at s old d pair ≡ true → settled_at s new d pair ≡ true) → ((d : ℕ) (pair : Dep) → settled_at s new d pair ≡ true → settled_at s old d pair ≡ true) → Stays (view old) (view new)
view_stays s old new po pn i c h more less = record {
  issued = i;
  settled = λ d p. (
    λ a. (let v = view_to s new pn d p a in view_from s old d p (subst (λ x. Contains x p) i v.0) (less d (put_pair p) v.1)),
    λ a. (let v = view_to s old po d p a in view_from s new d p (subst (λ x. Contains x p) (sym i) v.0) (more d (put_pair p) v.1)),
  );
  contexts = c;
  sessions = h;
}

-- the result of an event
pub record Goes (s : Setting) (old new : World) : Type 0 where
  pub placed : Placed s new
  pub bounded : IsBounded s new
  pub step : Step (home s) (view old) (view new)

pub stays_goes : (s : Setting) (w : World) → Placed s w → IsBounded s w → Goes s w w
stays_goes s w p b = record {
  placed = p;
  bounded = b;
  step = inr (inr (inr (inr (record { issued = refl; settled = λ d p. (λ h. h, λ h. h); contexts = refl; sessions = refl }))));
}

-- putting a node back changes nothing
pub back_goes : (s : Setting) (w : World) → Placed s w → IsBounded s w → (dc place : ℕ) → Goes s w (with_node w dc place (node_at w dc place))
back_goes s w p b dc place = subst (Goes s w) (sym (same_node w dc place)) (stays_goes s w p b)

-- if no check refuses, each passed
pub unless_goes : (s : Setting) (w : World) → Placed s w → IsBounded s w → (tests : List (Bool × Refusal)) (next : Outcome × World) → (refusal tests ≡ None → Goes s w next.1) → Goes s w (unless w (refusal tests) next).1
unless_goes s w p b tests next goes = go (refusal tests) refl
  where
    go : (r : Option Refusal) → refusal tests ≡ r → Goes s w (unless w r next).1
    go None e = goes e
    go (Some code) e = stays_goes s w p b

pub first_passed : (t : Bool) (code : Refusal) (tests : List (Bool × Refusal)) → refusal ((t, code) ∷ tests) ≡ None → (t ≡ true) × (refusal tests ≡ None)
first_passed true code tests e = (refl, e)
first_passed false code tests e = cc

pub version_clock : (clock number : ℕ) → number < 65536 → clock_of (version_of clock number) ≡ clock
version_clock clock number h = omega arith

pub version_node : (clock number : ℕ) → number < 65536 → node_of (version_of clock number) ≡ number
version_node clock number h = omega arith

pub primary_within : (s : Setting) (key : List ℕ) → primary s key ≤ length s.place.splits
primary_within s key = count_by-le-length (λ split. is_le (slice_cmp nat_cmp split key)) s.place.splits

pub home_within : (s : Setting) → IsSetting s → (w : World) → Placed s w → (client : ℕ) → client < length w.sessions → home s client < s.place.dcs
home_within s ok w p client h = ok.homes client 0 (let e = p.sessions in omega arith)

-- one node settles one put
module _ (s : Setting) (fits : length s.place.splits ≤ 63) (old new : World) (dc place : ℕ) (n : Node) (c : Change s old new dc place n) (p : Placed s old) (put : PutRecord) (settled : n.settled ≡ with_settled (node_at old dc place).settled (stored_of put)) where
  pub settles_there : place ≡ primary s put.key → settled_at s new dc (put_pair put) ≡ true
  settles_there e =
      let here : has_pair n.settled (put_pair put) ≡ true = subst (λ x. has_pair x (put_pair put) ≡ true) (sym settled) (with_settled_new (node_at old dc place).settled (stored_of put)) in
      subst (λ q. has_pair (node_at new dc q).settled (put_pair put) ≡ true) e
      (subst (λ (m : Node). has_pair m.settled (put_pair put) ≡ true) (sym (node_new s fits old new dc place n c p)) here)

  pub settles_only : (d : ℕ) (pair : Dep) → settled_at s new d pair ≡ true → (settled_at s old d pair ≡ true) ⊎ ((d ≡ dc) × (put_pair put ≡ pair))
  settles_only d pair h = each_node s fits old new dc place n c p
      (λ e q m. q ≡ primary s pair.key → has_pair m.settled pair ≡ true → (settled_at s old e pair ≡ true) ⊎ ((e ≡ dc) × (put_pair put ≡ pair)))
      (λ e i. here e (has_to n.settled pair i))
      (λ e q ne same i. inl (subst (λ x. has_pair (node_at old e x).settled pair ≡ true) same i))
      d (primary s pair.key) refl h
    where
      cases : place ≡ primary s pair.key → (a : IsAmong n.settled pair) → Contains (node_at old dc place).settled a.item ⊎ (stored_of put ≡ a.item) → (settled_at s old dc pair ≡ true) ⊎ ((dc ≡ dc) × (put_pair put ≡ pair))
      cases e a (inl was) =
          inl (subst (λ q. has_pair (node_at old dc q).settled pair ≡ true) e
          (subst (λ x. has_pair (node_at old dc place).settled x ≡ true) a.is (has_from (node_at old dc place).settled a.item was)))
      cases e a (inr same) = inr (refl, ap stored_pair same ∙ a.is)

      here : place ≡ primary s pair.key → IsAmong n.settled pair → (settled_at s old dc pair ≡ true) ⊎ ((dc ≡ dc) × (put_pair put ≡ pair))
      here e a = cases e a (with_settled_cases (node_at old dc place).settled (stored_of put) a.item (subst (λ x. Contains x a.item) settled a.among))

-- the issued put of a stored one
pub stored_from : (s : Setting) (issued : List PutRecord) (place : ℕ) (put : PutRecord) (t : Stored) → Contains issued put → place ≡ primary s put.key → stored_of put ≡ t → IsStored s issued place t
stored_from s issued place put t h e same = subst (IsStored s issued place) same (record { put = put; is = record { among = h; pair_is = refl; value = refl }; placed = e })
