-- The code of an act, which works at one node, does what the world's definition says.
use Rattle.std.proofs.Common.{◌≡◌, ℕ, ◌+◌, ◌*◌, ◌<◌, ◌≤◌, ◌⊎◌, inl, inr, List, ◌∷◌, [], Bool, true, false, cond, Option, Some, None, is_some, slice_get, slice_index_or, flat_map, length, refl, sym, ap, ◌∙◌, arith, subst, nat_lt, lt-ltb}
use Rattle.cops_types.specs.declared.limits.TheConstants.{MAX_CLOCK, MAX_CLIENT_OPS, MAX_OPS}
use Rattle.cops_types.specs.declared.refusal.Refusal.{Refusal}
use Rattle.cops_types.specs.declared.refusal.Refusal.TheVariants.{ClockExhausted, ContextFull, UnknownClient, NeverSent, NotHeld, NoYes, Memory, UnknownDc, NotInFormat, SessionFull}
use Rattle.std.proofs.lemmas.Option.{get_or_from_slice_get}
use Rattle.std.proofs.lemmas.List.{get_or_past}
use Rattle.std.proofs.lemmas.Bool.{and_from}
use Rattle.cops_types.specs.declared.dep.Dep.{Dep}
use Rattle.cops_types.specs.declared.put_record.PutRecord.{PutRecord}
use Rattle.cops_types.specs.Histories.{Sessions}
use Rattle.cops_types.specs.Recorded.{Recorded}
use Rattle.cops_types.specs.Counts.{count_of}
use Rattle.cops_types.specs.NodeNumber.{version_of, place_of}
use Rattle.cops_store.specs.Store.{has_pair}
use Rattle.cops_held.specs.Held.{waiting}
use Rattle.cops_node.specs.Acts.{Act as NodeAct, Write as NodeWrite, Get as NodeGet, Deliver as NodeDeliver, Ask as NodeAsk, Mark as NodeMark, Settle as NodeSettle, version_given}
use Rattle.cops_node.specs.declared.outcome.Outcome.{Outcome}
use Rattle.cops_node.specs.declared.outcome.Outcome.TheVariants.{Got as Answered, Gone, Missed as Nothing, Yes, Refused}
use Rattle.cops_node.specs.Node.{Node, opened, raised, write_at, dep_at, ActHappens}
use Rattle.cops_core.specs.declared.recording.Draft.{Draft}
use Rattle.cops_types.specs.Format.{fits}
use Rattle.cops_core.specs.World.{IsReached, Said, Setting, IsSetting, World, home, primary, node_at, with_node, context_in, sent, is_answered, knows, has_room, has_context_room, is_dc, checks, refusal, keeps, asks, delivers, done, settled_in, Happens, Act, WriteBy, GetBy, DeliverTo, AskAt, MarkAt, SettleAt}
use Rattle.cops_core.specs.Parts.{MayRecord}
use Rattle.cops_core.proofs.Writes.{given_written}
use Rattle.cops_core.proofs.Nodes.{same_node}
use Rattle.cops_core.proofs.Placed.{Placed}
use Rattle.cops_core.proofs.Simulation.{home_within, settled_here}
use Rattle.cops_core.proofs.Putting.{fresh}
use Rattle.cops_core.proofs.Worlds.{Sound, reached_sound}
use Rattle.cops_core.proofs.Asking.{asks_happens, passed_happens, refused_happens}
use Rattle.cops_core.proofs.Versions.{not_sent}

-- the client may record its next operation
pub record Admitted (w : World) (client : ℕ) : Type 0 where
  pub known : client < length w.sessions
  pub few : length (slice_index_or w.sessions client []) < MAX_CLIENT_OPS
  pub all : count_of w.sessions < MAX_OPS

pub admitted : {h : Recorded} {w : World} {client : ℕ} → h.sessions ≡ w.sessions → MayRecord h client → Admitted w client
admitted {h} {w} {client} same may = record {
  known = subst (λ (x : Sessions). client < length x) same may.known;
  few = subst (λ (x : Sessions). length (slice_index_or x client []) < MAX_CLIENT_OPS) same may.few;
  all = subst (λ (x : Sessions). count_of x < MAX_OPS) same may.all;
}

-- the history has room for the client's next operation
pub admitted_room : {w : World} {client : ℕ} → Admitted w client → has_room w client ≡ true
admitted_room {w} {client} a =
    and_from (nat_lt (length (slice_index_or w.sessions client [])) MAX_CLIENT_OPS) (nat_lt (count_of w.sessions) MAX_OPS)
    (lt-ltb (length (slice_index_or w.sessions client [])) MAX_CLIENT_OPS a.few) (lt-ltb (count_of w.sessions) MAX_OPS a.all)

-- neither check of the client refuses the operation
pub client_passes : {w : World} {client : ℕ} (tests : List (Bool × Refusal)) → Admitted w client → refusal ((knows w client, UnknownClient) ∷ (has_room w client, SessionFull) ∷ tests) ≡ refusal tests
client_passes {w} {client} tests a =
    ap (λ b. refusal ((b, UnknownClient) ∷ (has_room w client, SessionFull) ∷ tests)) (lt-ltb client (length w.sessions) a.known)
    ∙ ap (λ b. refusal ((b, SessionFull) ∷ tests)) (admitted_room a)

-- no check of a write that fits the format refuses it
pub write_passes : (s : Setting) (w : World) (client : ℕ) (key : List ℕ) (content : Option (List ℕ)) → Admitted w client → fits s.format content ≡ true → refusal (checks s w (WriteBy client key content)) ≡ None
write_passes s w client key content a fit =
    ap (λ b. refusal ((b, UnknownClient) ∷ (fits s.format content, NotInFormat) ∷ (has_room w client, SessionFull) ∷ [])) (lt-ltb client (length w.sessions) a.known)
    ∙ ap (λ b. refusal ((b, NotInFormat) ∷ (has_room w client, SessionFull) ∷ [])) fit
    ∙ ap (λ b. refusal ((b, SessionFull) ∷ [])) (admitted_room a)

-- an answer other than Yes is not stored
pub keeps_wait : (w : World) (dc place d : ℕ) (key : List ℕ) (version : ℕ) (o : Outcome) (n : Node) → (o ≡ Yes → ⊥) → keeps w dc place (AskAt d key version) o n ≡ with_node w dc place n
keeps_wait w dc place d key version Yes n h = absurd (h refl)
keeps_wait w dc place d key version o n h = refl

-- an outcome that a get does not have is not stored
pub keeps_no_get : (w : World) (dc place client : ℕ) (key : List ℕ) (o : Outcome) (n : Node) → ((value : List ℕ) (version : ℕ) → o ≡ Answered value version → ⊥) → ((version : ℕ) → o ≡ Gone version → ⊥) → (o ≡ Nothing → ⊥)
    → keeps w dc place (GetBy client key) o n ≡ with_node w dc place n
keeps_no_get w dc place client key (Answered value version) n h g k = absurd (h value version refl)
keeps_no_get w dc place client key (Gone version) n h g k = absurd (g version refl)
keeps_no_get w dc place client key Nothing n h g k = absurd (k refl)
keeps_no_get w dc place client key o n h g k = refl

-- a get does not change the node
pub got_stays : (was : Node) (client : ℕ) (key : List ℕ) (o : Outcome) (n : Node) → ActHappens was (NodeGet client key) o n → n ≡ was
got_stays was client key o n (inl h) = sym (ap (λ (x : Outcome × Node). x.1) h)
got_stays was client key o n (inr h) = h.1

-- the node at a place of a data centre
abbrev IsAt : World → ℕ → ℕ → Node → Type 0
IsAt w dc place was = slice_get (slice_index_or w.nodes dc []) place ≡ Some was

is_node : (w : World) (dc place : ℕ) (was : Node) → IsAt w dc place was → node_at w dc place ≡ was
is_node w dc place was at = get_or_from_slice_get (slice_index_or w.nodes dc []) place was (opened (dc * 64 + place)) at

-- a world with a node put back, and with these puts, contexts and sessions
abbrev pub with_parts : World → ℕ → ℕ → Node → List PutRecord → List (List Dep) → Sessions → World
with_parts w dc place n issued contexts sessions = record {
  nodes = (with_node w dc place n).nodes;
  issued = issued;
  said = w.said;
  contexts = contexts;
  sessions = sessions;
}

-- a world with a node put back, and with these Yes answers
abbrev pub with_answers : World → ℕ → ℕ → Node → List Said → World
with_answers w dc place n said = record {
  nodes = (with_node w dc place n).nodes;
  issued = w.issued;
  said = said;
  contexts = w.contexts;
  sessions = w.sessions;
}

-- if the node, the puts, the contexts and the sessions stay, so does the world
pub put_back : {issued : List PutRecord} {contexts : List (List Dep)} {sessions : Sessions} (w : World) (dc place : ℕ) (was n : Node) → IsAt w dc place was → n ≡ was
    → issued ≡ w.issued → contexts ≡ w.contexts → sessions ≡ w.sessions → with_parts w dc place n issued contexts sessions ≡ w
put_back w dc place was n at stays issued contexts sessions =
    (λ i. with_parts w dc place n (issued i) (contexts i) (sessions i))
    ∙ ap (with_node w dc place) (stays ∙ sym (is_node w dc place was at))
    ∙ same_node w dc place

sound : {s : Setting} {w old : World} → IsSetting s → w ≡ old → IsReached s old → Sound s w
sound {s} {w} ok view reached = reached_sound s ok w (subst (IsReached s) (sym view) reached)

-- the world's outcome is that of the node at a place
node_happens : {w : World} {dc d place q : ℕ} {was : Node} (act : Act) (asked : NodeAct) (o : Outcome) (n : Node) (new : World) → dc ≡ d → place ≡ q → node_at w dc place ≡ was
    → ActHappens was asked o n → new ≡ keeps w dc place act o n → (asks w act d q asked ≡ (o, new)) ⊎ ((o ≡ Refused Memory) × (new ≡ w))
node_happens {w} {dc} {d} {place} {q} act asked o n new same_dc same_place is h kept =
    subst (λ x. (asks w act x q asked ≡ (o, new)) ⊎ ((o ≡ Refused Memory) × (new ≡ w))) same_dc
    (subst (λ x. (asks w act dc x asked ≡ (o, new)) ⊎ ((o ≡ Refused Memory) × (new ≡ w))) same_place
    (asks_happens w act dc place asked o n new (subst (λ m. ActHappens m asked o n) (sym is) h) kept))

-- if the checks of a world pass, its node's outcome is the outcome in each equal world
passed : {w old : World} (s : Setting) (act : Act) (o : Outcome) (new : World) → w ≡ old → refusal (checks s w act) ≡ None
    → (done s w act ≡ (o, new)) ⊎ ((o ≡ Refused Memory) × (new ≡ w)) → Happens s old act o new
passed {w} s act o new view none h = subst (λ x. Happens s x act o new) view (passed_happens s w act o new none h)

-- there is a context for each session
pub same_clients : {s : Setting} {w old : World} → IsSetting s → w ≡ old → IsReached s old → length w.contexts ≡ length w.sessions
same_clients {s} {w} {old} ok view reached = let p = (sound {s = s} {w = w} {old = old} ok view reached).placed in p.contexts ∙ sym p.sessions

-- a data centre that does not exist has nothing settled
pub settled_nowhere : {s : Setting} (w : World) (dc : ℕ) (pair : Dep) → IsSetting s → IsReached s w → s.place.dcs ≤ dc → has_pair (settled_in w dc) pair ≡ false
settled_nowhere {s} w dc pair ok reached le =
    let e = (reached_sound s ok w reached).placed.dcs in
    ap (λ (ns : List Node). has_pair (flat_map (λ (n : Node). n.settled) ns) pair) (get_or_past w.nodes dc [] (omega arith))

-- the state's model is the world `w`, which equals the reached world `old`, and one of its data centres is asked
pub record Asked (s : Setting) (w old : World) (dc : ℕ) : Type 0 where
  pub setting : IsSetting s
  pub view : w ≡ old
  pub reached : IsReached s old
  pub there : dc < s.place.dcs

pub asked : {s : Setting} {w old : World} {dc : ℕ} → IsSetting s → w ≡ old → IsReached s old → dc < s.place.dcs → Asked s w old dc
asked setting view reached there = record { setting = setting; view = view; reached = reached; there = there }

module _ {s : Setting} {w old : World} {dc : ℕ} (a : Asked s w old dc) where
  placed : Placed s w
  placed = (sound a.setting a.view a.reached).placed

  pub dc_there : dc < length w.nodes
  dc_there = let e = placed.dcs in let lt = a.there in omega arith

  pub place_there : {place : ℕ} → place ≤ length s.place.splits → place < length (slice_index_or w.nodes dc [])
  place_there le = let e = placed.places dc a.there in omega arith

  -- a key's node and its data centre have settled the same pairs of the key
  pub settled_there : (place : ℕ) (was : Node) (pair : Dep) → place ≡ primary s pair.key → IsAt w dc place was → has_pair was.settled pair ≡ has_pair (settled_in old dc) pair
  settled_there place was pair e at =
      ap (λ (n : Node). has_pair n.settled pair) (sym (is_node w dc place was at))
      ∙ ap (λ q. has_pair (node_at w dc q).settled pair) e
      ∙ settled_here s w placed dc pair
      ∙ ap (λ (x : World). has_pair (settled_in x dc) pair) a.view

  no_node : (place : ℕ) → length s.place.splits + 1 ≤ place → node_at w dc place ≡ opened (dc * 64 + place)
  no_node place le = let e = placed.places dc a.there in get_or_past (slice_index_or w.nodes dc []) place (opened (dc * 64 + place)) (omega arith)

  known_dc : (tests : List (Bool × Refusal)) → refusal ((is_dc s dc, UnknownDc) ∷ tests) ≡ refusal tests
  known_dc tests = ap (λ b. refusal ((b, UnknownDc) ∷ tests)) (lt-ltb dc s.place.dcs a.there)

  stays_nowhere : (place : ℕ) → length s.place.splits + 1 ≤ place → w ≡ with_node w dc place (opened (dc * 64 + place))
  stays_nowhere place le = sym (same_node w dc place) ∙ ap (with_node w dc place) (no_node place le)

  -- settle
  pub settles : (version place : ℕ) (o : Outcome) (was n : Node) → place ≡ place_of version → IsAt w dc place was → ActHappens was (NodeSettle version) o n
      → Happens s old (SettleAt dc version) o (with_node w dc place n)
  settles version place o was n e at h =
      passed s (SettleAt dc version) o (with_node w dc place n) a.view (known_dc [])
      (node_happens (SettleAt dc version) (NodeSettle version) o n (with_node w dc place n) refl e (is_node w dc place was at) h refl)

  pub settles_nowhere : (version place : ℕ) → place ≡ place_of version → length s.place.splits + 1 ≤ place → Happens s old (SettleAt dc version) (Refused NotHeld) w
  settles_nowhere version place e le =
      passed s (SettleAt dc version) (Refused NotHeld) w a.view (known_dc [])
      (node_happens (SettleAt dc version) (NodeSettle version) (Refused NotHeld) (opened (dc * 64 + place)) w refl e (no_node place le) (inl refl) (stays_nowhere place le))

  -- mark
  tests_of_mark : (version dep place : ℕ) (was : Node) (b : Bool) → place ≡ place_of version → node_at w dc place ≡ was → is_answered w.said dc (dep_at (waiting was.held version) dep) ≡ b
      → refusal (checks s w (MarkAt dc version dep)) ≡ refusal ((b, NoYes) ∷ [])
  tests_of_mark version dep place was b e is answered =
      known_dc ((is_answered w.said dc (dep_at (waiting (node_at w dc (place_of version)).held version) dep), NoYes) ∷ [])
      ∙ ap (λ q. refusal ((is_answered w.said dc (dep_at (waiting (node_at w dc q).held version) dep), NoYes) ∷ [])) (sym e)
      ∙ ap (λ (n : Node). refusal ((is_answered w.said dc (dep_at (waiting n.held version) dep), NoYes) ∷ [])) is
      ∙ ap (λ x. refusal ((x, NoYes) ∷ [])) answered

  pub marks : (version dep place : ℕ) (o : Outcome) (was n : Node) → place ≡ place_of version → IsAt w dc place was → is_answered w.said dc (dep_at (waiting was.held version) dep) ≡ true
      → ActHappens was (NodeMark version dep) o n → Happens s old (MarkAt dc version dep) o (with_node w dc place n)
  marks version dep place o was n e at answered h =
      let is = is_node w dc place was at in
      passed s (MarkAt dc version dep) o (with_node w dc place n) a.view (tests_of_mark version dep place was true e is answered)
      (node_happens (MarkAt dc version dep) (NodeMark version dep) o n (with_node w dc place n) refl e is h refl)

  pub marks_unanswered : (version dep place : ℕ) (was : Node) → place ≡ place_of version → IsAt w dc place was → is_answered w.said dc (dep_at (waiting was.held version) dep) ≡ false
      → Happens s old (MarkAt dc version dep) (Refused NoYes) old
  marks_unanswered version dep place was e at answered =
      subst (λ x. Happens s x (MarkAt dc version dep) (Refused NoYes) x) a.view
      (refused_happens s w (MarkAt dc version dep) NoYes (tests_of_mark version dep place was false e (is_node w dc place was at) answered))

  pub marks_nowhere : (version dep place : ℕ) → place ≡ place_of version → length s.place.splits + 1 ≤ place → Happens s old (MarkAt dc version dep) (Refused NotHeld) w
  marks_nowhere version dep place e le =
      passed s (MarkAt dc version dep) (Refused NotHeld) w a.view (tests_of_mark version dep place (opened (dc * 64 + place)) true e (no_node place le) refl)
      (node_happens (MarkAt dc version dep) (NodeMark version dep) (Refused NotHeld) (opened (dc * 64 + place)) w refl e (no_node place le) (inl refl) (stays_nowhere place le))

  -- deliver
  pub comes : (version place : ℕ) (o : Outcome) (put : PutRecord) (was n : Node) → Some put ≡ sent w.issued version → place ≡ primary s put.key → IsAt w dc place was
      → ActHappens was (NodeDeliver put) o n → Happens s old (DeliverTo dc version) o (with_node w dc place n)
  comes version place o put was n found e at h =
      passed s (DeliverTo dc version) o (with_node w dc place n) a.view
      (known_dc ((is_some (sent w.issued version), NeverSent) ∷ []) ∙ ap (λ x. refusal ((is_some x, NeverSent) ∷ [])) (sym found))
      (subst (λ x. (delivers s w dc version x ≡ (o, with_node w dc place n)) ⊎ ((o ≡ Refused Memory) × (with_node w dc place n ≡ w))) found
      (node_happens (DeliverTo dc version) (NodeDeliver put) o n (with_node w dc place n) refl e (is_node w dc place was at) h refl))

  -- ask
  pub answers : (key : List ℕ) (version place : ℕ) (o : Outcome) (was n : Node) (new : World) → place ≡ primary s key → IsAt w dc place was
      → ActHappens was (NodeAsk key version) o n → new ≡ keeps w dc place (AskAt dc key version) o n → Happens s old (AskAt dc key version) o new
  answers key version place o was n new e at h kept =
      passed s (AskAt dc key version) o new a.view (known_dc []) (node_happens (AskAt dc key version) (NodeAsk key version) o n new refl e (is_node w dc place was at) h kept)

-- the state's model is the world `w`, which equals the reached world `old`, and one of its clients may record its next operation
pub record Entered (s : Setting) (w old : World) (client : ℕ) : Type 0 where
  pub setting : IsSetting s
  pub view : w ≡ old
  pub reached : IsReached s old
  pub may : Admitted w client

pub entered : {s : Setting} {w old : World} {client : ℕ} → IsSetting s → w ≡ old → IsReached s old → Admitted w client → Entered s w old client
entered setting view reached may = record { setting = setting; view = view; reached = reached; may = may }

module _ {s : Setting} {w old : World} {client : ℕ} (a : Entered s w old client) where
  grounds : Sound s w
  grounds = sound a.setting a.view a.reached

  pub client_there : client < length w.contexts
  client_there = let e = grounds.placed.sessions in let f = grounds.placed.contexts in let lt = a.may.known in omega arith

  pub client_home : client < length s.homes
  client_home = let e = grounds.placed.sessions in let lt = a.may.known in omega arith

  pub home_asked : {dc : ℕ} → dc ≡ home s client → Asked s w old dc
  home_asked e = asked a.setting a.view a.reached (subst (λ d. d < s.place.dcs) (sym e) (home_within s a.setting w grounds.placed client a.may.known))

  pub writes_at : (key : List ℕ) (content : Option (List ℕ)) (dc place : ℕ) (o : Outcome) (was n : Node) (own : Draft) (new : World) → fits s.format content ≡ true → dc ≡ home s client → place ≡ primary s key → IsAt w dc place was
      → own ≡ record { key = key; value = content; deps = context_in w client } → ActHappens was (NodeWrite client own.key own.value own.deps) o n
      → new ≡ keeps w dc place (WriteBy client key content) o n → Happens s old (WriteBy client key content) o new
  writes_at key content dc place o was n own new fit d e at drafted h kept =
      passed s (WriteBy client key content) o new a.view (write_passes s w client key content a.may fit)
      (node_happens (WriteBy client key content) (NodeWrite client key content (context_in w client)) o n new d e (is_node w dc place was at)
      (subst (λ (x : Draft). ActHappens was (NodeWrite client x.key x.value x.deps) o n) drafted h) kept)

  pub gets_at : (key : List ℕ) (dc place : ℕ) (o : Outcome) (was n : Node) (new : World) → has_context_room s w client ≡ true → dc ≡ home s client → place ≡ primary s key → IsAt w dc place was
      → ActHappens was (NodeGet client key) o n → new ≡ keeps w dc place (GetBy client key) o n → Happens s old (GetBy client key) o new
  gets_at key dc place o was n new few d e at h kept =
      passed s (GetBy client key) o new a.view
      (client_passes ((has_context_room s w client, ContextFull) ∷ []) a.may ∙ ap (λ b. refusal ((b, ContextFull) ∷ [])) few)
      (node_happens (GetBy client key) (NodeGet client key) o n new d e (is_node w dc place was at) h kept)

  -- the version that a node gives is new
  pub new_version : (key : List ℕ) (content : Option (List ℕ)) (dc place version : ℕ) (o : Outcome) (was n : Node) (own : Draft) → fits s.format content ≡ true → dc ≡ home s client → place ≡ primary s key → IsAt w dc place was
      → own ≡ record { key = key; value = content; deps = context_in w client } → ActHappens was (NodeWrite client own.key own.value own.deps) o n → version_given o ≡ Some version → sent w.issued version ≡ None
  new_version key content dc place version o was n own fit d e at drafted happens is_given =
      given (subst (λ (x : Draft). ActHappens was (NodeWrite client x.key x.value x.deps) o n) drafted happens)
    where
      node : Node
      node = node_at w (home s client) (primary s key)

      is : node ≡ was
      is = ap (node_at w (home s client)) (sym e) ∙ ap (λ x. node_at w x place) (sym d) ∙ is_node w dc place was at

      go : (b : Bool) → cond b (write_at node key content (raised node.clock (context_in w client) + 1)) (Refused ClockExhausted, node) ≡ (o, n) → sent w.issued version ≡ None
      go true g =
          let new : ℕ = version_of (raised node.clock (context_in w client) + 1) node.number in
          let both : Some new ≡ Some version = sym (given_written content new) ∙ ap (λ (x : Outcome × Node). version_given x.0) g ∙ is_given in
          let same : new ≡ version = cc in
          not_sent w.issued version (λ p c f. fresh s a.setting w grounds.placed grounds.kept client key content grounds.bounded a.may.known (admitted_room a.may) fit p c (f ∙ sym same))
      go false g = let both : None ≡ Some version = ap (λ (x : Outcome × Node). version_given x.0) g ∙ is_given in cc

      given : ActHappens was (NodeWrite client key content (context_in w client)) o n → sent w.issued version ≡ None
      given (inr h) = let both : None ≡ Some version = sym (ap version_given h.0) ∙ is_given in cc
      given (inl h) =
          go (nat_lt (raised node.clock (context_in w client)) MAX_CLOCK)
          (subst (λ m. cond (nat_lt (raised m.clock (context_in w client)) MAX_CLOCK) (write_at m key content (raised m.clock (context_in w client) + 1)) (Refused ClockExhausted, m) ≡ (o, n)) (sym is) h)
