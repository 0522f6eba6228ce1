-- The world's answer is the node's, and a refused act changes nothing.
use Rattle.std.proofs.Common.{◌≡◌, ℕ, ◌+◌, ◌⊎◌, inl, inr, List, Bool, true, false, if◌then◌else◌, ◌||◌, Option, Some, None, is_some, length, refl, sym, ap, ◌∙◌, nat_lt}
use Rattle.cops_types.specs.declared.limits.TheConstants.{MAX_CLOCK}
use Rattle.cops_types.specs.declared.refusal.Refusal.{Refusal}
use Rattle.cops_types.specs.declared.refusal.Refusal.TheVariants.{ClockExhausted, NoSuchDep, DepsOpen, NeverSent, Memory}
use Rattle.cops_types.specs.declared.put_record.PutRecord.{PutRecord}
use Rattle.cops_store.specs.Store.{has_pair}
use Rattle.cops_held.specs.Held.{Waiting, unmarked, waiting, with_waiting, all_marked, with_mark}
use Rattle.cops_node.specs.Acts.{Act as NodeAct, Write as NodeWrite, Get as NodeGet, Deliver as NodeDeliver, Ask as NodeAsk, Mark as NodeMark, Settle as NodeSettle}
use Rattle.cops_node.specs.declared.outcome.Outcome.{Outcome}
use Rattle.cops_node.specs.declared.outcome.Outcome.TheVariants.{Held, Repeat, Marked, Settled, Refused}
use Rattle.cops_node.specs.Node.{Node, put_pair, raised, write_at, mark_at, settle_at, settled_node, act_step, ActHappens}
use Rattle.cops_core.specs.World.{Setting, home, primary, World, node_at, with_node, context_in, sent, checks, refusal, unless, keeps, asks, delivers, done, Happens, Act, WriteBy, GetBy, DeliverTo, AskAt, MarkAt, SettleAt}
use Rattle.cops_types.specs.NodeNumber.{place_of}
use Rattle.cops_core.proofs.Nodes.{same_node}

-- if the answer is a refusal, only the node is put back
keeps_refused : (w : World) (dc place : ℕ) (act : Act) (code : Refusal) (n : Node) → keeps w dc place act (Refused code) n ≡ with_node w dc place n
keeps_refused w dc place (WriteBy client key content) code n = refl
keeps_refused w dc place act code n = refl

abbrev is_refused : Outcome → Bool
is_refused (Refused code) = true
is_refused _ = false

-- the answer is no refusal, or the node stays
abbrev StaysRefused : Node → Outcome × Node → Type 0
StaysRefused n r = (is_refused r.0 ≡ false) ⊎ (r.1 ≡ n)

either : (n : Node) (b : Bool) (x y : Outcome × Node) → StaysRefused n x → StaysRefused n y → StaysRefused n (if b then x else y)
either n true x y p q = p
either n false x y p q = q

mark_refused : (n : Node) (version dep : ℕ) (o : Option Waiting) → StaysRefused n (mark_at n version dep o)
mark_refused n version dep None = inr refl
mark_refused n version dep (Some w) = either n (nat_lt dep (length w.put.deps)) (Marked, record n { held = with_mark n.held version dep }) (Refused NoSuchDep, n) (inl refl) (inr refl)

settle_refused : (n : Node) (o : Option Waiting) → StaysRefused n (settle_at n o)
settle_refused n None = inr refl
settle_refused n (Some w) = either n (all_marked w) (Settled, settled_node n w.put) (Refused DepsOpen, n) (inl refl) (inr refl)

write_refused : (n : Node) (key : List ℕ) (content : Option (List ℕ)) (clock : ℕ) → StaysRefused n (write_at n key content clock)
write_refused n key (Some value) clock = inl refl
write_refused n key None clock = inl refl

node_refused : (n : Node) (e : NodeAct) → StaysRefused n (act_step n e)
node_refused n (NodeWrite client key content deps) =
    either n (nat_lt (raised n.clock deps) MAX_CLOCK) (write_at n key content (raised n.clock deps + 1)) (Refused ClockExhausted, n) (write_refused n key content (raised n.clock deps + 1)) (inr refl)
node_refused n (NodeDeliver put) =
    either n (is_some (waiting n.held put.version) || has_pair n.settled (put_pair put)) (Repeat, n) (Held, record n { held = with_waiting n.held (unmarked put) }) (inr refl) (inl refl)
node_refused n (NodeMark version dep) = mark_refused n version dep (waiting n.held version)
node_refused n (NodeSettle version) = settle_refused n (waiting n.held version)
node_refused n e = inr refl

asks_refused : (w : World) (act : Act) (dc place : ℕ) (asked : NodeAct) (code : Refusal) (new : World) → asks w act dc place asked ≡ (Refused code, new) → new ≡ w
asks_refused w act dc place asked code new e =
    let r : Outcome × Node = act_step (node_at w dc place) asked in
    let is : r.0 ≡ Refused code = ap (λ (x : Outcome × World). x.0) e in
    let back : r.1 ≡ node_at w dc place = elim (node_refused (node_at w dc place) asked) [ inl done ↦ (let refused : is_refused r.0 ≡ true = ap is_refused is in cc) | inr stays ↦ stays ] in
    sym (ap (λ (x : Outcome × World). x.1) e)
    ∙ ap (λ o. keeps w dc place act o r.1) is
    ∙ keeps_refused w dc place act code r.1
    ∙ ap (with_node w dc place) back
    ∙ same_node w dc place

-- an act goes to one node, or it is the delivery of a put that was never sent
pub done_asks : (P : Outcome × World → Type 0) (s : Setting) (w : World) (act : Act)
    → ((dc place : ℕ) (asked : NodeAct) → P (asks w act dc place asked)) → P (Refused NeverSent, w) → P (done s w act)
done_asks P s w (DeliverTo dc version) one none = go (sent w.issued version)
  where
    go : (o : Option PutRecord) → P (delivers s w dc version o)
    go None = none
    go (Some put) = one dc (primary s put.key) (NodeDeliver put)
done_asks P s w (WriteBy client key content) one none = one (home s client) (primary s key) (NodeWrite client key content (context_in w client))
done_asks P s w (GetBy client key) one none = one (home s client) (primary s key) (NodeGet client key)
done_asks P s w (AskAt dc key version) one none = one dc (primary s key) (NodeAsk key version)
done_asks P s w (MarkAt dc version dep) one none = one dc (place_of version) (NodeMark version dep)
done_asks P s w (SettleAt dc version) one none = one dc (place_of version) (NodeSettle version)

pub refused_stays : (s : Setting) (w new : World) (act : Act) (code : Refusal) → Happens s w act (Refused code) new → new ≡ w
refused_stays s w new act code (inr h) = h.1
refused_stays s w new act code (inl h) = go (refusal (checks s w act)) h
  where
    go : (r : Option Refusal) → unless w r (done s w act) ≡ (Refused code, new) → new ≡ w
    go None e = done_asks (λ r. r ≡ (Refused code, new) → new ≡ w) s w act (λ dc place asked. asks_refused w act dc place asked code new) (λ f. sym (ap (λ (x : Outcome × World). x.1) f)) e
    go (Some c) e = sym (ap (λ (x : Outcome × World). x.1) e)

-- the node's outcome, or `Memory`, is the world's outcome
pub asks_happens : (w : World) (act : Act) (dc place : ℕ) (asked : NodeAct) (o : Outcome) (n : Node) (new : World)
    → ActHappens (node_at w dc place) asked o n → new ≡ keeps w dc place act o n → (asks w act dc place asked ≡ (o, new)) ⊎ ((o ≡ Refused Memory) × (new ≡ w))
asks_happens w act dc place asked o n new (inl h) is =
    inl (ap (λ (r : Outcome × Node). (r.0, keeps w dc place act r.0 r.1)) h ∙ ap (λ x. (o, x)) (sym is))
asks_happens w act dc place asked o n new (inr h) is =
    inr (h.0, is ∙ ap (λ x. keeps w dc place act x n) h.0 ∙ keeps_refused w dc place act Memory n ∙ ap (with_node w dc place) h.1 ∙ same_node w dc place)

-- the case where no check of the world refuses
pub passed_happens : (s : Setting) (w : World) (act : Act) (o : Outcome) (new : World) → refusal (checks s w act) ≡ None
    → (done s w act ≡ (o, new)) ⊎ ((o ≡ Refused Memory) × (new ≡ w)) → Happens s w act o new
passed_happens s w act o new p (inl h) = inl (ap (λ r. unless w r (done s w act)) p ∙ h)
passed_happens s w act o new p (inr h) = inr h

-- the case where a check of the world refuses
pub refused_happens : (s : Setting) (w : World) (act : Act) (code : Refusal) → refusal (checks s w act) ≡ Some code → Happens s w act (Refused code) w
refused_happens s w act code p = inl (ap (λ r. unless w r (done s w act)) p)
