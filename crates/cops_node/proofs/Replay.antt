-- Appending the entry of a step to a book that replays.
use Rattle.std.proofs.Common.{◌≡◌, ◌⊎◌, inl, inr, ℕ, ◌+◌, Bool, true, false, if◌then◌else◌, List, [], ◌∷◌, ◌++◌, Option, None, Some, refl, sym, ap, subst, ◌∙◌}
use Rattle.cops_types.specs.declared.refusal.Refusal.TheVariants.{Memory}
use Rattle.cops_held.specs.Held.{Waiting, waiting}
use Rattle.cops_node.specs.declared.event.NodeEvent.{NodeEvent}
use Rattle.cops_node.specs.Acts.{Act, Write, Get, Deliver, Ask, Mark, Settle, act_of, found}
use Rattle.cops_node.specs.declared.outcome.Outcome.{Outcome}
use Rattle.cops_node.specs.declared.outcome.Outcome.TheVariants.{Yes, Wait, Refused}
use Rattle.cops_store.specs.Store.{Stored, has_pair, shown}
use Rattle.cops_node.specs.Node.{Node, opened, act_step, node_step, mark_at, raised, settle_at, answer, write_at}
use Rattle.cops_node.specs.declared.entry.Entry.{Entry}
use Rattle.cops_node.specs.Book.{Replays, entry}

-- a refusal because memory ran out
abbrev is_memory : Outcome → Bool
is_memory (Refused Memory) = true
is_memory _ = false

-- a step of this node: its number does not change, and it is not refused because memory ran out
abbrev IsTame : Node → Outcome × Node → Type 0
IsTame n x = (x.1.number ≡ n.number) × (is_memory x.0 ≡ false)

if_tame : (n : Node) (b : Bool) (x y : Outcome × Node) → IsTame n x → IsTame n y → IsTame n (if b then x else y)
if_tame n true x y p q = p
if_tame n false x y p q = q

mark_tame : (n : Node) (version dep : ℕ) (w : Option Waiting) → IsTame n (mark_at n version dep w)
mark_tame n version dep None = (refl, refl)
mark_tame n version dep (Some w) = if_tame n _ _ _ (refl, refl) (refl, refl)

settle_tame : (n : Node) (w : Option Waiting) → IsTame n (settle_at n w)
settle_tame n None = (refl, refl)
settle_tame n (Some w) = if_tame n _ _ _ (refl, refl) (refl, refl)

found_tame : (n : Node) (content : Option (List ℕ)) (version : ℕ) → IsTame n (found content version, n)
found_tame n (Some value) version = (refl, refl)
found_tame n None version = (refl, refl)

get_tame : (n : Node) (o : Option Stored) → IsTame n (answer o, n)
get_tame n None = (refl, refl)
get_tame n (Some s) = found_tame n s.value s.version

write_tame : (n : Node) (key : List ℕ) (content : Option (List ℕ)) (clock : ℕ) → IsTame n (write_at n key content clock)
write_tame n key (Some value) clock = (refl, refl)
write_tame n key None clock = (refl, refl)

ask_tame : (n : Node) (b : Bool) → IsTame n (if b then Yes else Wait, n)
ask_tame n true = (refl, refl)
ask_tame n false = (refl, refl)

act_tame : (n : Node) (a : Act) → IsTame n (act_step n a)
act_tame n (Write client key content deps) = if_tame n _ _ _ (write_tame n key content (raised n.clock deps + 1)) (refl, refl)
act_tame n (Get client key) = get_tame n (shown n.settled key)
act_tame n (Deliver put) = if_tame n _ _ _ (refl, refl) (refl, refl)
act_tame n (Ask key version) = ask_tame n (has_pair n.settled (record { key = key; version = version }))
act_tame n (Mark version dep) = mark_tame n version dep (waiting n.held version)
act_tame n (Settle version) = settle_tame n (waiting n.held version)

step_tame : (n : Node) (e : NodeEvent) → IsTame n (node_step n e)
step_tame n e = act_tame n (act_of e)

replays_more : (s : Node) (es : List Entry) (t u : Node) (ticket : ℕ) (e : NodeEvent) (out : Outcome) → Replays s es t → node_step t e ≡ (out, u)
    → Replays s (es ++ entry ticket e out ∷ []) u
replays_more s [] t u ticket e out r is =
    let moved : node_step s e ≡ (out, u) = ap (λ n. node_step n e) r ∙ is in
    (sym (ap (λ (x : Outcome × Node). x.0) moved), ap (λ (x : Outcome × Node). x.1) moved)
replays_more s (x ∷ xs) t u ticket e out r is = (r.0, replays_more (node_step s x.event).1 xs t u ticket e out r.1 is)

-- a book still replays after the entry of a step was appended
pub book_more : (es : List Entry) (t u : Node) (ticket : ℕ) (e : NodeEvent) (out : Outcome) → Replays (opened t.number) es t → node_step t e ≡ (out, u)
    → Replays (opened u.number) (es ++ entry ticket e out ∷ []) u
book_more es t u ticket e out r is =
    let number : u.number ≡ t.number = sym (ap (λ (x : Outcome × Node). x.1.number) is) ∙ (step_tame t e).0 in
    subst (λ n. Replays (opened n) (es ++ entry ticket e out ∷ []) u) (sym number) (replays_more (opened t.number) es t u ticket e out r is)

-- where memory ran out, the node is unchanged
pub memory_keeps : (t u : Node) (e : NodeEvent) (out : Outcome) → (node_step t e ≡ (out, u)) ⊎ ((out ≡ Refused Memory) × (u ≡ t)) → out ≡ Refused Memory → u ≡ t
memory_keeps t u e out (inl is) m =
    let yes : is_memory (node_step t e).0 ≡ true = ap (λ (x : Outcome × Node). is_memory x.0) is ∙ ap is_memory m in
    let no : is_memory (node_step t e).0 ≡ false = (step_tame t e).1 in
    absurd (let f : true ≡ false = sym yes ∙ no in cc)
memory_keeps t u e out (inr r) m = r.1
