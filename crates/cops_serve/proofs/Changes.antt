-- A client that was changed in its place of the list, and what a call that did not happen leaves unchanged.
use Rattle.std.proofs.Common.{◌≡◌, ◌⊎◌, inl, inr, ℕ, ◌<◌, ◌≤◌, List, length, Some, slice_index_or, slice_set, refl, sym, ap, subst, ◌∙◌, arith}
use Rattle.std.specs.Prelude.{Option, None, slice_get, MatchOption}
use Rattle.std.specs.Global.{Vec}
use Rattle.std.proofs.lemmas.Option.{slice_get_read}
use Rattle.cops_node.specs.declared.event.NodeEvent.TheVariants.{Ask}
use Rattle.std.specs.Prelude.{Result, Ok, Err}
use Rattle.cops_types.specs.declared.gate.GateHeld.{GateHeld}
use Rattle.cops_types.specs.declared.refusal.Refusal.{Refusal}
use Rattle.cops_node.specs.declared.outcome.Outcome.{Outcome}
use Rattle.cops_node.specs.declared.outcome.Outcome.TheVariants.{PutDone, Deleted, Refused}
use Rattle.cops_types.specs.declared.format.Format.{Format}
use Rattle.cops_types.specs.declared.format.Format.TheVariants.{One, Two}
use Rattle.cops_types.specs.declared.refusal.Refusal.TheVariants.{Memory, NotInFormat, UnknownClient}
use Rattle.cops_types.specs.Format.{Fits}
use Rattle.cops_net.specs.declared.reply.Reply.{Reply}
use Rattle.cops_cluster.specs.Outcomes.{IsUnknown, IsPutOutcome, IsDelOutcome, IsWriteOutcome}
use Rattle.cops_cluster.specs.declared.client.Client.{Client}
use Rattle.cops_cluster.specs.declared.cluster.Cluster.{Cluster}
use Rattle.cops_cluster.specs.declared.share.Share.{Share}
use Rattle.cops_cluster.specs.Cluster.{node_of}
use Rattle.cops_cluster.specs.Lending.{with_share}
use Rattle.cops_cluster.specs.Shares.{Adds}
use Rattle.cops_serve.specs.declared.front_end.FrontEnd.{FrontEnd}
use Rattle.cops_serve.specs.declared.front_end.Greeted.{Greeted}
use Rattle.cops_serve.specs.FrontEnd.{DoneByGreeted, HasWritten, HasGot, HasAsked, IsSame}
use Rattle.cops_serve.specs.Replying.{IsOutcomeIn, IsReplyTo, IsWriteReply}

-- an element that was borrowed from its place is in the list there
there : {X : Type 0} (xs : List X) (number place : ℕ) (x : X) → place ≡ number → (place < length xs) × ((d : X) → x ≡ slice_index_or xs place d)
    → slice_get xs number ≡ Some x
there xs number place x e (inside, at) = rw (sym e) (slice_get_read xs (length xs) place x refl inside (at x))

-- like `there`, for an equal list
pub there_in : {X : Type 0} (xs ys : List X) (number place : ℕ) (x : X) → ys ≡ xs → place ≡ number → (place < length ys) × ((d : X) → x ≡ slice_index_or ys place d)
    → slice_get xs number ≡ Some x
there_in {X} xs ys number place x same e at = there xs number place x e (subst (λ (l : List X). (place < length l) × ((d : X) → x ≡ slice_index_or l place d)) same at)

-- a client whose data centre does not exist is at no data centre that exists
pub not_home : (xs : List Client) (number dcs dc : ℕ) (x : Client) → slice_get xs number ≡ Some x → dcs ≤ x.dc
    → (client : Client) × (slice_get xs number ≡ Some client) × (client.dc ≡ dc) × (dc < dcs) → ⊥
not_home xs number dcs dc x e far (client, found, home, near) = let s : x ≡ client = cc in absurd (omega (arith, ap (λ (c : Client). c.dc) s, home, far, near))

set_there : {X : Type 0} (xs : List X) (number place : ℕ) (x : X) → place ≡ number → slice_set xs place x ≡ slice_set xs number x
set_there xs number place x e = ap (λ (n : ℕ). slice_set xs n x) e

-- putting an element that was borrowed from its place back after it changed by `IfGreeted`
pub changed : {X : Type 0} (IfGreeted : X → X → Type 0) (xs : List X) (number place : ℕ) (before after : X) → place ≡ number → (place < length xs) × ((d : X) → before ≡ slice_index_or xs place d) → IfGreeted before after
    → (x : X) × (y : X) × (slice_get xs number ≡ Some x) × (slice_set xs place after ≡ slice_set xs number y) × IfGreeted x y
changed IfGreeted xs number place before after e lent did = (before, after, there xs number place before e lent, set_there xs number place after e, did)

-- writing copies of the key and the value
pub put_of : (c : Cluster) (key value k v : List ℕ) (out : Outcome) (before after : Client) → k ≡ key → v ≡ value → HasWritten c k (Some v) out before after
    → HasWritten c key (Some value) out before after
put_of c key value k v out before after ek ev h = rw (sym ek, sym ev) h

-- deleting a copy of the key
pub del_of : (c : Cluster) (key k : List ℕ) (out : Outcome) (before after : Client) → k ≡ key → HasWritten c k None out before after → HasWritten c key None out before after
del_of c key k out before after ek h = rw (sym ek) h

pub got_of : (c : Cluster) (key k : List ℕ) (out : Outcome) (before after : Client) → k ≡ key → HasGot c k out before after → HasGot c key out before after
got_of c key k out before after ek h = rw (sym ek) h

abbrev outcome_in : Outcome → Result Outcome GateHeld → Outcome
outcome_in other (Ok outcome) = outcome
outcome_in other (Err held) = other

-- what holds of a refusal holds of the outcome that is this refusal
pub where_refused : (Says : Type 0) (result : Result Outcome GateHeld) (out : Outcome) (refused : Refusal) → result ≡ Ok out → (result ≡ Ok (Refused refused) → Says) → out ≡ Refused refused → Says
where_refused Says result out refused is reported e = reported (is ∙ ap Ok e)

pub some_refusal : (result : Result Outcome GateHeld) (out : Outcome) → result ≡ Ok out → (refused : Refusal) × (result ≡ Ok (Refused refused)) → (refused : Refusal) × (out ≡ Refused refused)
some_refusal result out is (refused, e) = (refused, ap (outcome_in out) (sym is ∙ e))

-- a write that did not happen because memory ran out
pub no_write : (c : Cluster) (key : List ℕ) (content : Option (List ℕ)) (client : Client) → HasWritten c key content (Refused Memory) client client
no_write c key content client = ((refl, refl, refl, refl), (λ h. absurd cc, λ h. refl), refl, λ e. absurd cc, λ e. absurd cc)

-- the outcome of a put is not a deletion
pub put_in : (format : Format) (out : Outcome) → IsPutOutcome out → IsOutcomeIn format out
put_in format out is version e = elim (subst IsPutOutcome e is) [ ]

has_deletions : (format : Format) → ((Fits format None → ⊥) → ⊥) → Fits format None
has_deletions One not = absurd (not (λ x. x))
has_deletions Two not = tt

-- a completed deletion is in the format, since it was refused neither with 3 (`UnknownClient`) nor with 12 (`NotInFormat`)
pub del_in : (c : Cluster) (client : Client) (result : Result Outcome GateHeld) (out : Outcome) → result ≡ Ok out → (IsUnknown c client → result ≡ Ok (Refused UnknownClient))
    → ((¬ Fits c.format None) × (¬ IsUnknown c client) → result ≡ Ok (Refused NotInFormat)) → IsOutcomeIn c.format out
del_in c client result out is unknown unfit version e =
    let done : result ≡ Ok (Deleted version) = is ∙ ap Ok e in
    has_deletions c.format (λ not. let d : Ok (Deleted version) ≡ Ok (Refused NotInFormat) = sym done ∙ unfit (not, λ u. let d : Ok (Deleted version) ≡ Ok (Refused UnknownClient) = sym done ∙ unknown u in absurd cc) in absurd cc)

-- the reply to a write reports its outcome, in the format
pub write_reply : (format : Format) (content : Option (List ℕ)) (out : Outcome) (reply : Reply) → IsWriteOutcome content out → IsOutcomeIn format out → IsReplyTo out reply
    → IsWriteReply format content reply
write_reply format (Some value) (PutDone version) reply is fits reported = rw reported tt
write_reply format (Some value) (Refused refused) reply is fits reported = rw reported is
write_reply format (Some value) _ reply is fits reported = elim is [ ]
write_reply format None (Deleted version) reply is fits reported = rw reported (fits version refl)
write_reply format None (Refused refused) reply is fits reported = rw reported is
write_reply format None _ reply is fits reported = elim is [ ]

-- a write is a put or a deletion
pub either : (content : Option (List ℕ)) (out : Outcome) → IsWriteOutcome content out → IsPutOutcome out ⊎ IsDelOutcome out
either (Some value) out is = inl is
either None out is = inr is

-- a get that did not happen because memory ran out
pub no_get : (c : Cluster) (key : List ℕ) (client : Client) → HasGot c key (Refused Memory) client client
no_get c key client = ((refl, refl, refl, refl), (λ h. absurd cc, λ h. refl), refl, λ e. absurd cc, λ e. absurd cc, λ e. (Memory, refl))

-- a question with the share that was borrowed from the client
pub asked_of : (c : Cluster) (dc : ℕ) (key : List ℕ) (version : ℕ) (out : Outcome) (client : Client) (lent after : Share) → lent ≡ client.share → after.holder ≡ lent.holder
    → Adds lent.entries.items after.entries.items (node_of c dc key) (Ask key version) out → HasAsked c dc key version out client (with_share client after)
asked_of c dc key version out client lent after e owner reported = (
  refl,
  subst (λ (s : Share). after.holder ≡ s.holder) e owner,
  subst (λ (s : Share). Adds s.entries.items after.entries.items (node_of c dc key) (Ask key version) out) e reported,
)

-- recording a call afterwards changes no client
pub recorded_call : (old mid new : FrontEnd) (IfNotGreeted : Type 0) (IfGreeted : Greeted → Client → Client → Type 0) → DoneByGreeted old IfNotGreeted IfGreeted mid → IsSame mid new
    → DoneByGreeted old IfNotGreeted IfGreeted new
recorded_call old mid new IfNotGreeted IfGreeted (session, did) ((turns, cluster, senders, receivers, greeted, ended), clients) = (
  (turns ∙ session.0, cluster ∙ session.1, senders ∙ session.2, receivers ∙ session.3, greeted ∙ session.4, ended ∙ session.5),
  subst (λ (v : Vec Client).
      MatchOption old.greeted (IfNotGreeted × (v ≡ old.clients)) (λ g.
      (before : Client) × (after : Client)
      × (slice_get old.clients.items g.client ≡ Some before)
      × (v.items ≡ slice_set old.clients.items g.client after)
      × IfGreeted g before after)) (sym clients) did,
)
