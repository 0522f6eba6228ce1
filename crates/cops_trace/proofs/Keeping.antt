-- A trace stored as sessions and arrivals.
use Rattle.std.proofs.Common.{◌≡◌, ◌≢◌, ℕ, zero, suc, ◌+◌, ◌^◌, ◌<◌, ◌≤◌, ◌↔◌, cond, eqb, List, [], ◌∷◌, ◌++◌, length, map, get_or, refl, sym, ap, subst, ◌∙◌, append_assoc, arith, inl, inr, replicate, get_or-set_same, get_or-set_other, Option, Some, None}
use Rattle.std.specs.List.{AllByRecursion}
use Rattle.std.proofs.Math.ListN.{set, length-set}
use Rattle.std.proofs.lemmas.Bool.{eqb-false, eq-eqb}
use Rattle.std.proofs.lemmas.List.{length-append, append-nil, length-replicate}
use Rattle.cops_types.specs.declared.format.Format.{Format}
use Rattle.cops_types.specs.declared.format.Format.TheVariants.{One, Two}
use Rattle.cops_types.specs.declared.limits.TheConstants.{MAX_CLIENT_OPS, MAX_OPS}
use Rattle.cops_types.specs.Format.{Fits}
use Rattle.cops_types.specs.Histories.{Sessions, with_op, Operation, write, read, missed}
use Rattle.cops_types.specs.Counts.{count_of}
use Rattle.cops_types.specs.Recorded as types
use Rattle.cops_types.proofs.Sessions.{count-with_op, count-none}
use Rattle.cops_trace.specs.Text.{ARecord, ATrace, IsTrace, IsOp, turn, sessions_after, sessions_of}
use Rattle.cops_trace.specs.Converting.{in_format_2}
use Rattle.cops_trace.specs.Kept.{op_in, records_from, trace_of, IsKept, IsFull, IsOrder, grown}
use Rattle.cops_trace.proofs.Lists.{same_or_other, turn-cons, times, times-append, times-cons, times-same}
use Rattle.cops_trace.proofs.Allocation.{IsTrace-grown, IsTrace-none, with_records}

-- ---- the sessions that records make

-- each record's client is below the number of clients, and its operation has an encoding
abbrev pub AreNamed : Format → ℕ → List ARecord → Type 0
AreNamed format n rs = AllByRecursion (λ r. (r.client < n) × IsOp format r.op) rs

-- each record's client is below the number of clients
abbrev pub AreInside : ℕ → List ARecord → Type 0
AreInside n rs = AllByRecursion (λ r. r.client < n) rs

named_inside : (format : Format) (n : ℕ) (rs : List ARecord) → AreNamed format n rs → AreInside n rs
named_inside format n [] named = tt
named_inside format n (r ∷ rs) named = (named.0.0, named_inside format n rs named.1)

pub after_width : (h : Sessions) (rs : List ARecord) → length (sessions_after h rs) ≡ length h
after_width h [] = refl
after_width h (r ∷ rs) = after_width (with_op h r.client r.op) rs ∙ length-set h r.client _

session_len : (h : Sessions) (i c : ℕ) (op : Operation) → i < length h → length (get_or (with_op h i op) c []) ≡ length (get_or h c []) + cond (eqb i c) 1 0
session_len h i c op inside =
    let s = get_or h i [] in
    elim (same_or_other i c) [
      | inl p ↦
          let t = eq-eqb i c p in
          let here : length (get_or (set h i (s ++ op ∷ [])) i []) ≡ length s + 1 = ap length (get_or-set_same h i (s ++ op ∷ []) [] inside) ∙ length-append s (op ∷ []) in
          rw t (subst (λ (d : ℕ). length (get_or (set h i (s ++ op ∷ [])) d []) ≡ length (get_or h d []) + 1) p here)
      | inr p ↦
          let other : c ≢ i = λ q. eqb-false _ _ p (sym q) in
          let there : length (get_or (set h i (s ++ op ∷ [])) c []) ≡ length (get_or h c []) = ap length (get_or-set_other h i c (s ++ op ∷ []) [] other) in
          rw p (omega (arith, there))
    ]

pub after_len : (h : Sessions) (rs : List ARecord) (c : ℕ) → AreInside (length h) rs → length (get_or (sessions_after h rs) c []) ≡ length (get_or h c []) + turn c rs
after_len h [] c inside = omega arith
after_len h (r ∷ rs) c inside =
    let g = with_op h r.client r.op in
    let later : AreInside (length g) rs = subst (λ (n : ℕ). AreInside n rs) (sym (length-set h r.client _)) inside.1 in
    omega (arith, after_len g rs c later, session_len h r.client c r.op inside.0, turn-cons c r rs)

pub after_count : (h : Sessions) (rs : List ARecord) → AreInside (length h) rs → count_of (sessions_after h rs) ≡ count_of h + length rs
after_count h [] inside = omega arith
after_count h (r ∷ rs) inside =
    let g = with_op h r.client r.op in
    let later : AreInside (length g) rs = subst (λ (n : ℕ). AreInside n rs) (sym (length-set h r.client _)) inside.1 in
    omega (arith, after_count g rs later, count-with_op h r.client r.op inside.0)

pub after_push : (h : Sessions) (rs : List ARecord) (r : ARecord) → sessions_after h (rs ++ r ∷ []) ≡ with_op (sessions_after h rs) r.client r.op
after_push h [] r = refl
after_push h (q ∷ rs) r = after_push (with_op h q.client q.op) rs r

none : (n c : ℕ) → get_or (replicate {A = List Operation} n []) c [] ≡ []
none zero c = refl
none (suc n) zero = refl
none (suc n) (suc c) = none n c

-- the clients of a trace's records are among its sessions
trace_inside : (t : ATrace) → IsTrace t → AreInside (length (replicate {A = List Operation} t.clients [])) t.records
trace_inside t h = subst (λ (n : ℕ). AreInside n t.records) (sym (length-replicate t.clients [])) (named_inside t.format t.clients t.records h.named)

-- a session has as many operations as the client has records
pub session_turn : (t : ATrace) (c : ℕ) → IsTrace t → length (get_or (sessions_of t) c []) ≡ turn c t.records
session_turn t c h = omega (arith, after_len (replicate t.clients []) t.records c (trace_inside t h), ap length (none t.clients c))

pub sessions_count : (t : ATrace) → IsTrace t → count_of (sessions_of t) ≡ length t.records
sessions_count t h = omega (arith, after_count (replicate t.clients []) t.records (trace_inside t h), count-none t.clients)

-- ---- the stored records

pub length-records_from : (h : Sessions) (earlier cs : List ℕ) → length (records_from h earlier cs) ≡ length cs
length-records_from h earlier [] = refl
length-records_from h earlier (c ∷ cs) = ap suc (length-records_from h (earlier ++ c ∷ []) cs)

pub clients-records_from : (h : Sessions) (earlier cs : List ℕ) → map (λ r. r.client) (records_from h earlier cs) ≡ cs
clients-records_from h earlier [] = refl
clients-records_from h earlier (c ∷ cs) = ap (λ ds. c ∷ ds) (clients-records_from h (earlier ++ c ∷ []) cs)

pub turn-records_from : (h : Sessions) (d : ℕ) (earlier cs : List ℕ) → turn d (records_from h earlier cs) ≡ times d cs
turn-records_from h d earlier [] = refl
turn-records_from h d earlier (c ∷ cs) =
    turn-cons d (record { client = c; op = op_in h c (times c earlier) }) (records_from h (earlier ++ c ∷ []) cs)
    ∙ ap (λ (n : ℕ). cond (eqb c d) 1 0 + n) (turn-records_from h d (earlier ++ c ∷ []) cs) ∙ sym (times-cons d c cs)

pub records_push : (h : Sessions) (earlier cs : List ℕ) (c : ℕ) → records_from h earlier (cs ++ c ∷ []) ≡ records_from h earlier cs ++ record { client = c; op = op_in h c (times c (earlier ++ cs)) } ∷ []
records_push h earlier [] c = ap (λ (e : List ℕ). let r : ARecord = record { client = c; op = op_in h c (times c e) } in r ∷ []) (sym (append-nil earlier))
records_push h earlier (d ∷ cs) c =
    let first : ARecord = record { client = d; op = op_in h d (times d earlier) } in
    ap (λ (rs : List ARecord). first ∷ rs)
    (records_push h (earlier ++ d ∷ []) cs c
    ∙ ap (λ (e : List ℕ). let r : ARecord = record { client = c; op = op_in h c (times c e) } in records_from h (earlier ++ d ∷ []) cs ++ r ∷ []) (append_assoc earlier (d ∷ []) cs))

read_prefix : (s : List Operation) (op : Operation) (i : ℕ) → i < length s → get_or (s ++ op ∷ []) i (missed []) ≡ get_or s i (missed [])
read_prefix [] op i lt = absurd (omega arith)
read_prefix (x ∷ s) op zero lt = refl
read_prefix (x ∷ s) op (suc i) lt = read_prefix s op i (omega arith)

read_last : (s : List Operation) (op : Operation) → get_or (s ++ op ∷ []) (length s) (missed []) ≡ op
read_last [] op = refl
read_last (x ∷ s) op = read_last s op

-- adding an operation keeps the others
op_stays : (h : Sessions) (c d i : ℕ) (op : Operation) → c < length h → i < length (get_or h d []) → op_in (with_op h c op) d i ≡ op_in h d i
op_stays h c d i op inside there =
    let s = get_or h c [] in
    elim (same_or_other c d) [
      | inl p ↦
          let short : i < length s = subst (λ (x : ℕ). i < length (get_or h x [])) (sym p) there in
          let here : get_or (get_or (set h c (s ++ op ∷ [])) c []) i (missed []) ≡ get_or s i (missed [])
          = ap (λ (l : List Operation). get_or l i (missed [])) (get_or-set_same h c (s ++ op ∷ []) [] inside) ∙ read_prefix s op i short in
          subst (λ (x : ℕ). get_or (get_or (set h c (s ++ op ∷ [])) x []) i (missed []) ≡ get_or (get_or h x []) i (missed [])) p here
      | inr p ↦
          let other : d ≢ c = λ q. eqb-false _ _ p (sym q) in
          ap (λ (l : List Operation). get_or l i (missed [])) (get_or-set_other h c d (s ++ op ∷ []) [] other)
    ]

records_stay : (h : Sessions) (c : ℕ) (op : Operation) (earlier cs : List ℕ) → c < length h → ((d : ℕ) → times d (earlier ++ cs) ≤ length (get_or h d []))
    → records_from (with_op h c op) earlier cs ≡ records_from h earlier cs
records_stay h c op earlier [] inside bound = refl
records_stay h c op earlier (d ∷ cs) inside bound =
    let there : times d earlier < length (get_or h d []) = omega (arith, bound d, times-append d earlier (d ∷ cs), times-same d cs) in
    let first : op_in (with_op h c op) d (times d earlier) ≡ op_in h d (times d earlier) = op_stays h c d (times d earlier) op inside there in
    let later = records_stay h c op (earlier ++ d ∷ []) cs inside (λ e. subst (λ (l : List ℕ). times e l ≤ length (get_or h e [])) (sym (append_assoc earlier (d ∷ []) cs)) (bound e)) in
    let made : Operation → List ARecord → List ARecord = λ o rs. record { client = d; op = o } ∷ rs in
    ap (λ (o : Operation). made o (records_from (with_op h c op) (earlier ++ d ∷ []) cs)) first ∙ ap (made (op_in h d (times d earlier))) later

ops_stay : (h : Sessions) (rs : List ARecord) (d i : ℕ) → AreInside (length h) rs → i < length (get_or h d []) → op_in (sessions_after h rs) d i ≡ op_in h d i
ops_stay h [] d i inside there = refl
ops_stay h (r ∷ rs) d i inside there =
    let later = subst (λ (n : ℕ). AreInside n rs) (sym (length-set h r.client _)) inside.1 in
    ops_stay (with_op h r.client r.op) rs d i later (omega (arith, there, session_len h r.client d r.op inside.0)) ∙ op_stays h r.client d i r.op inside.0 there

op_last : (h : Sessions) (c n : ℕ) (op : Operation) → c < length h → length (get_or h c []) ≡ n → op_in (with_op h c op) c n ≡ op
op_last h c n op inside len =
    let s = get_or h c [] in
    ap (λ (l : List Operation). get_or l n (missed [])) (get_or-set_same h c (s ++ op ∷ []) [] inside) ∙ ap (λ (m : ℕ). get_or (s ++ op ∷ []) m (missed [])) (sym len) ∙ read_last s op

-- the records are those of their sessions and their clients
records_again : (h : Sessions) (earlier : List ℕ) (rs : List ARecord) → ((d : ℕ) → length (get_or h d []) ≡ times d earlier) → AreInside (length h) rs
    → records_from (sessions_after h rs) earlier (map (λ r. r.client) rs) ≡ rs
records_again h earlier [] counts inside = refl
records_again h earlier (r ∷ rs) counts inside =
    let c = r.client in
    let g = with_op h c r.op in
    let now = earlier ++ c ∷ [] in
    let later : AreInside (length g) rs = subst (λ (n : ℕ). AreInside n rs) (sym (length-set h c _)) inside.1 in
    let grown_counts : (d : ℕ) → length (get_or g d []) ≡ times d now = λ d. omega (arith, session_len h c d r.op inside.0, counts d, times-append d earlier (c ∷ []), times-cons d c []) in
    let there : times c earlier < length (get_or g c []) = omega (arith, grown_counts c, times-append c earlier (c ∷ []), times-same c []) in
    let first : op_in (sessions_after g rs) c (times c earlier) ≡ r.op = ops_stay g rs c (times c earlier) later there ∙ op_last h c (times c earlier) r.op inside.0 (counts c) in
    ap (λ (o : Operation). let q : ARecord = record { client = c; op = o } in q ∷ records_from (sessions_after g rs) now (map (λ q. q.client) rs)) first
    ∙ ap (λ (l : List ARecord). r ∷ l) (records_again g now rs grown_counts later)

-- ---- the stored trace

pub kept_len : (format : Format) (h : Sessions) (cs : List ℕ) (c : ℕ) → IsKept format h cs → length (get_or h c []) ≡ times c cs
kept_len format h cs c k =
    ap (λ (g : Sessions). length (get_or g c [])) k.sessions ∙ session_turn (trace_of format h cs) c k.is_trace ∙ turn-records_from h c [] cs

-- adding one operation
pub trace_grown : (format : Format) (h : Sessions) (cs : List ℕ) (c : ℕ) (op : Operation) → IsKept format h cs → c < length h → trace_of format (with_op h c op) (cs ++ c ∷ []) ≡ grown (trace_of format h cs) (record { client = c; op = op })
trace_grown format h cs c op k inside =
    let g = with_op h c op in
    let s = get_or h c [] in
    let last = op_last h c (times c cs) op inside (kept_len format h cs c k) in
    let stay = records_stay h c op [] cs inside (λ d. omega (arith, kept_len format h cs d k)) in
    let made : List ARecord → Operation → List ARecord = λ rs o. rs ++ record { client = c; op = o } ∷ [] in
    let all : records_from g [] (cs ++ c ∷ []) ≡ made (records_from h [] cs) op =
    records_push g [] cs c ∙ ap (λ (rs : List ARecord). made rs (op_in g c (times c cs))) stay ∙ ap (made (records_from h [] cs)) last in
    ap (λ (n : ℕ). with_records format n (records_from g [] (cs ++ c ∷ []))) (length-set h c (s ++ op ∷ [])) ∙ ap (with_records format (length h)) all

pub kept_grown : (format : Format) (h : Sessions) (cs : List ℕ) (c : ℕ) (op : Operation) → IsKept format h cs → c < length h → IsOp format op → turn c (trace_of format h cs).records < MAX_CLIENT_OPS → length (trace_of format h cs).records < MAX_OPS
    → IsKept format (with_op h c op) (cs ++ c ∷ [])
kept_grown format h cs c op k inside is room all_room =
    let r : ARecord = record { client = c; op = op } in
    let t = trace_of format h cs in
    let same = trace_grown format h cs c op k inside in
    record {
      is_trace = subst IsTrace (sym same) (IsTrace-grown t r k.is_trace inside is room all_room);
      sessions = ap (λ (g : Sessions). with_op g c op) k.sessions ∙ sym (after_push (replicate t.clients []) t.records r) ∙ ap sessions_of (sym same);
    }

pub kept_none : (format : Format) (n : ℕ) → n < 2 ^ 16 → IsKept format (replicate n []) []
kept_none format n h =
    let width : length (replicate {A = List Operation} n []) ≡ n = length-replicate n [] in
    record {
      is_trace = IsTrace-none format (length (replicate {A = List Operation} n [])) (omega (arith, width));
      sessions = ap (λ (m : ℕ). replicate {A = List Operation} m []) (sym width);
    }

pub kept_turn : (format : Format) (h : Sessions) (cs : List ℕ) (c : ℕ) → IsKept format h cs → length (get_or h c []) ≡ turn c (trace_of format h cs).records
kept_turn format h cs c k = ap (λ (g : Sessions). length (get_or g c [])) k.sessions ∙ session_turn (trace_of format h cs) c k.is_trace

pub kept_count : (format : Format) (h : Sessions) (cs : List ℕ) → IsKept format h cs → count_of h ≡ length (trace_of format h cs).records
kept_count format h cs k = ap count_of k.sessions ∙ sessions_count (trace_of format h cs) k.is_trace

-- the limits of the sessions are those of the trace
pub kept_full : (format : Format) (h : Sessions) (cs : List ℕ) (c : ℕ) → IsKept format h cs → types.IsFull h c ↔ IsFull (trace_of format h cs) c
kept_full format h cs c k =
    let turns = kept_turn format h cs c k in
    let all = kept_count format h cs k in
    (λ full room. full (omega (arith, turns, room.0), omega (arith, all, room.1)), λ full room. full (omega (arith, turns, room.0), omega (arith, all, room.1)))

-- the limits of a client that is there
pub kept_refused : (format : Format) (h : Sessions) (cs : List ℕ) (c : ℕ) (P : Type 0) → IsKept format h cs → P ↔ ((c < length h) × types.IsFull h c) → P ↔ ((c < (trace_of format h cs).clients) × IsFull (trace_of format h cs) c)
kept_refused format h cs c P k both =
    let full = kept_full format h cs c k in
    (λ p. let q = both.0 p in (q.0, full.0 q.1), λ q. both.1 (q.0, full.1 q.1))

-- a content that fits a format fits format 2
content_in_2 : (format : Format) (content : Option (List ℕ)) → Fits format content → Fits Two content
content_in_2 One (Some value) h = omega (arith, h)
content_in_2 One None h = absurd h
content_in_2 Two content h = h

op_in_2 : (format : Format) (op : Operation) → IsOp format op → IsOp Two op
op_in_2 format (write key content version) h = (h.0, content_in_2 format content h.1, h.2)
op_in_2 format (read key content version) h = (h.0, content_in_2 format content h.1, h.2)
op_in_2 format (missed key) h = h

named_in_2 : (format : Format) (n : ℕ) (rs : List ARecord) → AreNamed format n rs → AreNamed Two n rs
named_in_2 format n [] h = tt
named_in_2 format n (r ∷ rs) h = ((h.0.0, op_in_2 format r.op h.0.1), named_in_2 format n rs h.1)

-- the same clients and records in format 2 are a trace
pub trace_in_2 : (t : ATrace) → IsTrace t → IsTrace (in_format_2 t)
trace_in_2 t h = record { clients = h.clients; named = named_in_2 t.format t.clients t.records h.named; each = h.each; all = h.all }

-- the stored form of a trace is that of the same trace in format 2
pub kept_in_2 : (format : Format) (h : Sessions) (cs : List ℕ) → IsKept format h cs → IsKept Two h cs
kept_in_2 format h cs kept = record { is_trace = trace_in_2 (trace_of format h cs) kept.is_trace; sessions = kept.sessions }

-- ---- the trace of records

-- the records are the trace of their sessions and their clients
pub trace_again : (format : Format) (n : ℕ) (rs : List ARecord) → AreInside n rs → trace_of format (sessions_after (replicate n []) rs) (map (λ r. r.client) rs) ≡ with_records format n rs
trace_again format n rs inside =
    let empty = replicate {A = List Operation} n [] in
    let width : length empty ≡ n = length-replicate n [] in
    let again = records_again empty [] rs (λ d. ap length (none n d)) (subst (λ (m : ℕ). AreInside m rs) (sym width) inside) in
    ap (λ (m : ℕ). with_records format m (records_from (sessions_after empty rs) [] (map (λ r. r.client) rs))) (after_width empty rs ∙ width) ∙ ap (with_records format n) again

-- their clients are an order of the operations of their sessions
pub order_again : (n : ℕ) (rs : List ARecord) → AreInside n rs → IsOrder (sessions_after (replicate n []) rs) (map (λ r. r.client) rs)
order_again n rs inside = λ c.
    let empty = replicate {A = List Operation} n [] in
    let there = subst (λ (m : ℕ). AreInside m rs) (sym (length-replicate n [])) inside in
    let again = records_again empty [] rs (λ d. ap length (none n d)) there in
    omega (arith, turn-records_from (sessions_after empty rs) c [] (map (λ r. r.client) rs), ap (turn c) again, after_len empty rs c there, ap length (none n c))
