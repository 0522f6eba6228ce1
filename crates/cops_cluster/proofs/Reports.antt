-- What a caller is answered for a step, and what its share gained.
use Rattle.std.proofs.Common.{◌≡◌, ◌⊎◌, inl, inr, ℕ, ◌+◌, nat_lt, Bool, true, false, if◌then◌else◌, List, Option, None, Some, refl, sym, ap, subst, ◌∙◌}
use Rattle.std.specs.Prelude.{Result, Ok, Err, IfOk, IfErr, OnErr}
use Rattle.cops_types.specs.declared.dep.Dep.{Dep}
use Rattle.cops_types.specs.declared.gate.GateHeld.{GateHeld}
use Rattle.cops_types.specs.declared.gate.Point.{Point}
use Rattle.cops_held.specs.Held.{Waiting, waiting}
use Rattle.cops_store.specs.Store.{Stored, has_pair, shown}
use Rattle.cops_node.specs.declared.event.NodeEvent.{NodeEvent}
use Rattle.cops_node.specs.declared.event.NodeEvent.TheVariants.{Get, Ask, Mark, Settle}
use Rattle.cops_node.specs.Acts.{found, written}
use Rattle.cops_node.specs.Node.{Node, answer, mark_at, node_step, raised, settle_at, write_at, writes}
use Rattle.cops_types.specs.declared.refusal.Refusal.{Refusal}
use Rattle.cops_types.specs.declared.refusal.Refusal.TheVariants.{ClockExhausted, Memory}
use Rattle.cops_types.specs.declared.limits.TheConstants.{MAX_CLOCK}
use Rattle.cops_types.specs.NodeNumber.{version_of}
use Rattle.cops_node.specs.declared.outcome.Outcome.{Outcome}
use Rattle.cops_node.specs.declared.outcome.Outcome.TheVariants.{Yes, Wait, Refused as RefusedWith}
use Rattle.cops_cluster.specs.declared.share.Made.{Made}
use Rattle.cops_cluster.specs.declared.fault.Stop.{Stop}
use Rattle.cops_cluster.specs.declared.fault.Stop.TheVariants.{Refused, GateHeld as StoppedThere}
use Rattle.cops_cluster.specs.declared.stepping.NodeReply.{NodeReply}
use Rattle.cops_cluster.specs.Shares.{Adds, AddsEntry, AddsAtMostOne, is_of_node, is_refusal_of_node}
use Rattle.cops_cluster.specs.Cluster.{IsStop, write_event}
use Rattle.cops_cluster.specs.Replies.{IsReplyOf, reply_of}
use Rattle.cops_cluster.specs.Outcomes.{IsGetOutcome, IsNodeAnswer, IsOutOfMemory, IsWriteOutcome, StopsWith}

-- a step of this node, whose number does not change and whose outcome is one of a node's own
abbrev IsStepOf : Node → Outcome × Node → Type 0
IsStepOf n x = (x.1.number ≡ n.number) × (is_of_node x.0 ≡ true)

if_step : (n : Node) (b : Bool) (x y : Outcome × Node) → IsStepOf n x → IsStepOf n y → IsStepOf n (if b then x else y)
if_step n true x y p q = p
if_step n false x y p q = q

mark_step : (n : Node) (version dep : ℕ) (w : Option Waiting) → IsStepOf n (mark_at n version dep w)
mark_step n version dep None = (refl, refl)
mark_step n version dep (Some w) = if_step n _ _ _ (refl, refl) (refl, refl)

settle_step : (n : Node) (w : Option Waiting) → IsStepOf n (settle_at n w)
settle_step n None = (refl, refl)
settle_step n (Some w) = if_step n _ _ _ (refl, refl) (refl, refl)

found_of_node : (content : Option (List ℕ)) (version : ℕ) → is_of_node (found content version) ≡ true
found_of_node None version = refl
found_of_node (Some value) version = refl

get_step : (n : Node) (o : Option Stored) → IsStepOf n (answer o, n)
get_step n None = (refl, refl)
get_step n (Some s) = (refl, found_of_node s.value s.version)

ask_step : (n : Node) (b : Bool) → IsStepOf n (if b then Yes else Wait, n)
ask_step n true = (refl, refl)
ask_step n false = (refl, refl)

a_step : (n : Node) (e : NodeEvent) → IsStepOf n (node_step n e)
a_step n (Get client key) = get_step n (shown n.settled key)
a_step n (Ask key version) = ask_step n (has_pair n.settled (record { key = key; version = version }))
a_step n (Mark version dep) = mark_step n version dep (waiting n.held version)
a_step n (Settle version) = settle_step n (waiting n.held version)
a_step n e = if_step n _ _ _ (refl, refl) (refl, refl)

-- the outcome of a node's step is one of a node's own
pub step_of_node : (n : Node) (e : NodeEvent) → is_of_node (node_step n e).0 ≡ true
step_of_node n e = (a_step n e).1

pub true_is_false : {A : Type 0} (b : Bool) → b ≡ true → b ≡ false → A
true_is_false b e f = absurd (let h : true ≡ false = sym e ∙ f in cc)

module _ (before after : List Made) (node : ℕ) (event : NodeEvent) where
  -- the entry of a node's answer was added, or nothing where there is none
  abbrev pub IsKept : Result NodeReply Stop → Type 0
  IsKept (Ok r) = AddsEntry before after node event r.outcome × (is_of_node r.outcome ≡ true)
  IsKept (Err (Refused code)) = (after ≡ before) × (is_refusal_of_node code ≡ false)
  IsKept (Err StoppedThere) = after ≡ before

  kept_stop : (may_hold : Point → Type 0) (at client : ℕ) (stop : Stop) → after ≡ before → IsStop may_hold at client stop → IsKept (Err stop)
  kept_stop may_hold at client (Refused code) none other = (none, other)
  kept_stop may_hold at client StoppedThere none other = none

  pub reply_kept : {X : Type 0} (may_hold : Point → Type 0) (at client : ℕ) (answered : Result (NodeReply × X) Stop) (reply : Result NodeReply Stop)
      → IfOk answered (λ t. AddsEntry before after node event t.0.outcome) → IfOk answered (λ t. is_of_node t.0.outcome ≡ true)
      → OnErr answered (after ≡ before) → IfErr answered (IsStop may_hold at client) → reply ≡ reply_of answered → IsKept reply
  reply_kept may_hold at client (Ok t) reply adds own none stop same = subst IsKept (sym same) (adds, own)
  reply_kept may_hold at client (Err s) reply adds own none stop same = subst IsKept (sym same) (kept_stop may_hold at client s none stop)

  -- the outcome that the caller gets is that of the entry which its share gained
  pub reported_adds : (reply : Result NodeReply Stop) (result : Result Outcome GateHeld) → IsKept reply → IfOk result (IsReplyOf reply) → IfOk result (λ out. Adds before after node event out)
  reported_adds reply (Err e) kept is = tt
  reported_adds (Ok r) (Ok out) kept is =
      (λ _. subst (λ (o : Outcome). AddsEntry before after node event o) (sym is) kept.0, λ other. true_is_false (is_of_node out) (ap is_of_node is ∙ kept.1) other)
  reported_adds (Err (Refused code)) (Ok out) kept is = (λ h. true_is_false (is_of_node out) h (ap is_of_node is ∙ kept.1), λ _. kept.0)
  reported_adds (Err StoppedThere) (Ok out) kept is = absurd is

  -- the share gains at most one entry in any case
  pub most_adds : (reply : Result NodeReply Stop) → IsKept reply → AddsAtMostOne before after node event
  most_adds (Ok r) kept = inr (r.outcome, kept.0)
  most_adds (Err (Refused code)) kept = inl kept.0
  most_adds (Err StoppedThere) kept = inl kept

-- what the caller gets for a reply, it gets for an equal reply
pub reported_of : (is reply : Result NodeReply Stop) (out : Outcome) → reply ≡ is → IsReplyOf reply out → IsReplyOf is out
reported_of is reply out same reported = subst (λ (r : Result NodeReply Stop). IsReplyOf r out) same reported

-- the client's context is the one that follows from the outcome which the caller gets
pub reported_context : {X : Type 0} (after : Outcome → List Dep) (pairs new : List Dep) (answered : Result (NodeReply × X) Stop) (reply : Result NodeReply Stop) (result : Result Outcome GateHeld)
    → ((code : Refusal) → after (RefusedWith code) ≡ pairs) → IfOk answered (λ a. new ≡ after a.0.outcome) → OnErr answered (new ≡ pairs) → reply ≡ reply_of answered
    → IfOk result (IsReplyOf reply) → IfOk result (λ out. new ≡ after out)
reported_context after pairs new answered reply (Err e) refused is none same reported = tt
reported_context after pairs new (Ok a) reply (Ok out) refused is none same reported = is ∙ ap after (sym (reported_of (Ok a.0) reply out same reported))
reported_context after pairs new (Err (Refused code)) reply (Ok out) refused is none same reported =
    none ∙ sym (refused code) ∙ ap after (sym (reported_of (Err (Refused code)) reply out same reported))
reported_context after pairs new (Err StoppedThere) reply (Ok out) refused is none same reported = absurd (reported_of (Err StoppedThere) reply out same reported)

-- `AddsEntry` with equal arguments replaced
pub adds_same : (a b c d : List Made) (m n : ℕ) (e f : NodeEvent) (out : Outcome) → a ≡ b → c ≡ d → m ≡ n → e ≡ f → AddsEntry a c m e out → AddsEntry b d n f out
adds_same a b c d m n e f out p q r s adds =
    subst (λ (l : List Made). AddsEntry l d n f out) p (subst (λ (l : List Made). AddsEntry a l n f out) q
    (subst (λ (k : ℕ). AddsEntry a c k f out) r (subst (λ (x : NodeEvent). AddsEntry a c m x out) s adds)))

-- `Adds` with the node and the event replaced by equal ones
pub adds_at : (before after : List Made) (n m : ℕ) (e f : NodeEvent) (out : Outcome) → n ≡ m → e ≡ f → Adds before after n e out → Adds before after m f out
adds_at before after n m e f out p q h = subst (λ (k : ℕ). Adds before after k f out) p (subst (λ (x : NodeEvent). Adds before after n x out) q h)

pub most_at : (before after : List Made) (n m : ℕ) (e f : NodeEvent) → n ≡ m → e ≡ f → AddsAtMostOne before after n e → AddsAtMostOne before after m f
most_at before after n m e f p q h = subst (λ (k : ℕ). AddsAtMostOne before after k f) p (subst (λ (x : NodeEvent). AddsAtMostOne before after n x) q h)

out_of_memory_of : (stop : Stop) (out : Outcome) → StopsWith IsOutOfMemory stop → IsReplyOf (Err stop) out → IsOutOfMemory out
out_of_memory_of (Refused code) out want reported = reported ∙ want
out_of_memory_of StoppedThere out want reported = absurd reported

-- a node's answer to a client's write, in both branches
if_written : (content : Option (List ℕ)) (b : Bool) (x y : Outcome × Node) → IsWriteOutcome content x.0 → IsWriteOutcome content y.0 → IsWriteOutcome content (if b then x else y).0
if_written content true x y p q = p
if_written content false x y p q = q

write_done : (content : Option (List ℕ)) (version : ℕ) → IsWriteOutcome content (written content version)
write_done None version = tt
write_done (Some value) version = tt

write_exhausted : (content : Option (List ℕ)) → IsWriteOutcome content (RefusedWith ClockExhausted)
write_exhausted None = inl refl
write_exhausted (Some value) = inl refl

writes_step : (n : Node) (key : List ℕ) (content : Option (List ℕ)) (deps : List Dep) → IsWriteOutcome content (writes n key content deps).0
writes_step n key content deps =
    if_written content (nat_lt (raised n.clock deps) MAX_CLOCK) (write_at n key content (raised n.clock deps + 1)) (RefusedWith ClockExhausted, n)
    (write_done content (version_of (raised n.clock deps + 1) n.number)) (write_exhausted content)

write_step : (n : Node) (client : ℕ) (key : List ℕ) (content : Option (List ℕ)) (deps : List Dep) → IsWriteOutcome content (node_step n (write_event client key content deps)).0
write_step n client key None deps = writes_step n key None deps
write_step n client key (Some value) deps = writes_step n key (Some value) deps

pub answer_written : (client : ℕ) (key : List ℕ) (content : Option (List ℕ)) (deps : List Dep) (event : NodeEvent) (out : Outcome) → event ≡ write_event client key content deps
    → IsNodeAnswer event out → IsWriteOutcome content out
answer_written client key content deps event out is (n, new, step) =
    subst (IsWriteOutcome content) (ap (λ (x : Outcome × Node). x.0) (ap (node_step n) (sym is) ∙ step)) (write_step n client key content deps)

-- a node's answer to a get
found_got : (content : Option (List ℕ)) (version : ℕ) → IsGetOutcome (found content version)
found_got None version = tt
found_got (Some value) version = tt

got : (o : Option Stored) → IsGetOutcome (answer o)
got None = tt
got (Some s) = found_got s.value s.version

pub answer_got : (client : ℕ) (key : List ℕ) (event : NodeEvent) (out : Outcome) → event ≡ Get client key → IsNodeAnswer event out → IsGetOutcome out
answer_got client key event out is (n, new, step) =
    subst IsGetOutcome (ap (λ (x : Outcome × Node). x.0) (ap (node_step n) (sym is) ∙ step)) (got (shown n.settled key))

out_of_memory_written : (content : Option (List ℕ)) → IsWriteOutcome content (RefusedWith Memory)
out_of_memory_written None = inr (inr (inr (inl refl)))
out_of_memory_written (Some value) = inr (inr (inr (inl refl)))

stop_written : (content : Option (List ℕ)) (stop : Stop) (out : Outcome) → StopsWith IsOutOfMemory stop → IsReplyOf (Err stop) out → IsWriteOutcome content out
stop_written content stop out want reported = subst (IsWriteOutcome content) (sym (out_of_memory_of stop out want reported)) (out_of_memory_written content)

-- the outcome that the caller of a write gets is one of a write's outcomes
pub reported_written : {X : Type 0} (content : Option (List ℕ)) (answered : Result (NodeReply × X) Stop) (reply : Result NodeReply Stop) (result : Result Outcome GateHeld)
    → IfOk answered (λ a. IsWriteOutcome content a.0.outcome) → IfErr answered (StopsWith IsOutOfMemory) → reply ≡ reply_of answered → IfOk result (IsReplyOf reply)
    → IfOk result (IsWriteOutcome content)
reported_written content answered reply (Err e) is want same reported = tt
reported_written content (Ok a) reply (Ok out) is want same reported = subst (IsWriteOutcome content) (sym (reported_of (Ok a.0) reply out same reported)) is
reported_written content (Err s) reply (Ok out) is want same reported = stop_written content s out want (reported_of (Err s) reply out same reported)

-- the outcome that the caller gets is some node's answer, or out of memory
pub reported_answers : {X : Type 0} (event : NodeEvent) (answered : Result (NodeReply × X) Stop) (reply : Result NodeReply Stop) (result : Result Outcome GateHeld)
    → IfOk answered (λ t. IsNodeAnswer event t.0.outcome) → IfErr answered (StopsWith IsOutOfMemory) → reply ≡ reply_of answered → IfOk result (IsReplyOf reply)
    → IfOk result (λ out. IsNodeAnswer event out ⊎ IsOutOfMemory out)
reported_answers event answered reply (Err e) is want same reported = tt
reported_answers event (Ok t) reply (Ok out) is want same reported = inl (subst (λ (o : Outcome). IsNodeAnswer event o) (sym (reported_of (Ok t.0) reply out same reported)) is)
reported_answers event (Err s) reply (Ok out) is want same reported = inr (out_of_memory_of s out want (reported_of (Err s) reply out same reported))
