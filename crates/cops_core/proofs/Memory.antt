-- The answers whose acts allocate.
use Rattle.std.proofs.Common.{◌≡◌, ℕ, ◌+◌, ◌<◌, Bool, true, false, cond, ◌&&◌, List, [], ◌∷◌, Option, Some, None, length, slice_index_or, refl, sym, ap, ◌∙◌, subst, nat_lt}
use Rattle.cops_types.specs.declared.limits.TheConstants.{MAX_CLOCK, MAX_CLIENT_OPS, MAX_OPS}
use Rattle.cops_types.specs.declared.refusal.Refusal.TheVariants.{ClockExhausted, ContextFull, UnknownClient, SessionFull}
use Rattle.std.proofs.lemmas.Bool.{ltb-true}
use Rattle.cops_types.specs.Counts.{count_of}
use Rattle.cops_types.specs.Histories.{Sessions}
use Rattle.cops_store.specs.Store.{Stored, shown}
use Rattle.cops_node.specs.declared.outcome.Outcome.TheVariants.{Refused}
use Rattle.cops_types.specs.NodeNumber.{version_of}
use Rattle.cops_node.specs.Acts.{found}
use Rattle.cops_node.specs.Node.{Node, answer, raised, write_at}
use Rattle.cops_types.specs.Format.{fits}
use Rattle.cops_core.specs.World.{Setting, World, home, primary, node_at, context_in, has_context_room, checks, refusal, unless, done, happens, Act, WriteBy, GetBy}
use Rattle.cops_core.specs.Memory.{TakesMemory}
use Rattle.cops_core.proofs.Events.{Admitted, client_passes, write_passes}
use Rattle.cops_core.proofs.Writes.{takes_written}

-- an act allocates in a world
abbrev Takes : Setting → World → Act → Type 0
Takes s w act = TakesMemory act (happens s w act).0

-- an act that no check refuses
passes : (s : Setting) (w : World) (act : Act) → refusal (checks s w act) ≡ None → TakesMemory act (done s w act).0 → Takes s w act
passes s w act none takes = subst (λ r. TakesMemory act (unless w r (done s w act)).0) (sym none) takes

tests_met : (a b : Bool) → refusal ((a, UnknownClient) ∷ (b, SessionFull) ∷ []) ≡ None → (a ≡ true) × (b ≡ true)
tests_met true true h = (refl, refl)
tests_met true false h = absurd cc
tests_met false b h = absurd cc

-- a client that neither check refuses exists
pub known_client : (h : Sessions) (client : ℕ)
    → refusal ((nat_lt client (length h), UnknownClient) ∷ (nat_lt (length (slice_index_or h client [])) MAX_CLIENT_OPS && nat_lt (count_of h) MAX_OPS, SessionFull) ∷ []) ≡ None → client < length h
known_client h client none =
    ltb-true client (length h) (tests_met (nat_lt client (length h)) (nat_lt (length (slice_index_or h client [])) MAX_CLIENT_OPS && nat_lt (count_of h) MAX_OPS) none).0

write_takes : (s : Setting) (w : World) (client : ℕ) (key : List ℕ) (content : Option (List ℕ)) → refusal (checks s w (WriteBy client key content)) ≡ None → Takes s w (WriteBy client key content)
write_takes s w client key content none = passes s w (WriteBy client key content) none (go (nat_lt (raised n.clock (context_in w client)) MAX_CLOCK))
  where
    n : Node
    n = node_at w (home s client) (primary s key)

    go : (b : Bool) → TakesMemory (WriteBy client key content) (cond b (write_at n key content (raised n.clock (context_in w client) + 1)) (Refused ClockExhausted, n)).0
    go true = takes_written client key content (version_of (raised n.clock (context_in w client) + 1) n.number)
    go false = refl

get_takes : (s : Setting) (w : World) (client : ℕ) (key : List ℕ) → Admitted w client → has_context_room s w client ≡ true → Takes s w (GetBy client key)
get_takes s w client key a few =
    passes s w (GetBy client key)
    (client_passes ((has_context_room s w client, ContextFull) ∷ []) a ∙ ap (λ b. refusal ((b, ContextFull) ∷ [])) few)
    (go (shown (node_at w (home s client) (primary s key)).settled key))
  where
    some : (content : Option (List ℕ)) (version : ℕ) → TakesMemory (GetBy client key) (found content version)
    some (Some value) version = tt
    some None version = tt

    go : (o : Option Stored) → TakesMemory (GetBy client key) (answer o)
    go None = tt
    go (Some t) = some t.value t.version

-- a client's act that may run out of memory, in a world given by its parts
pub write_may_fail : (s : Setting) (w old : World) (client : ℕ) (key : List ℕ) (content : Option (List ℕ)) → w ≡ old → Admitted w client → fits s.format content ≡ true → Takes s old (WriteBy client key content)
write_may_fail s w old client key content is may fit =
    subst (λ x. Takes s x (WriteBy client key content)) is (write_takes s w client key content (write_passes s w client key content may fit))

pub get_may_fail : (s : Setting) (w old : World) (client : ℕ) (key : List ℕ) → w ≡ old → Admitted w client → has_context_room s w client ≡ true → Takes s old (GetBy client key)
get_may_fail s w old client key is may few = subst (λ x. Takes s x (GetBy client key)) is (get_takes s w client key may few)
