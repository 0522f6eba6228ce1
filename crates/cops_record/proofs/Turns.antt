-- A trace has room for each record of a longer list within its limits.
use Rattle.std.proofs.Common.{◌≡◌, ℕ, suc, ◌+◌, ◌<◌, ◌↔◌, List, ◌∷◌, ◌++◌, length, length-take, take, drop, get_or, map, Err, IsErrOf, refl, sym, ap, subst, ◌∙◌, arith}
use Rattle.std.proofs.Math.Seq.{split_at}
use Rattle.std.proofs.lemmas.List.{length-map, map-append}
use Rattle.cops_types.specs.declared.format.Format.{Format}
use Rattle.cops_types.specs.declared.limits.TheConstants.{MAX_CLIENT_OPS, MAX_OPS}
use Rattle.cops_types.specs.declared.fault.TypeFault.{TypeFault}
use Rattle.cops_types.specs.declared.fault.TypeFault.TheVariants.{Memory, KeyEmpty, KeyTooLong, ValueTooLong, BadVersion, ClockExhausted, UnknownClient, TooManyOps, BadDeps}
use Rattle.cops_types.specs.TypeFaults.{IsHistoryFault}
use Rattle.cops_trace.specs.declared.record.Record.{Record}
use Rattle.cops_trace.specs.Text.{ARecord, ATrace, record_of, turn}
use Rattle.cops_trace.proofs.Lists.{turn-append, turn-cons}
use Rattle.cops_record.specs.declared.records.Seat.{Seat}
use Rattle.cops_record.specs.Records.{State, seat, IsKept}

-- the trace of the first records
abbrev pub front : State → ℕ → ATrace
front s i = record { format = s.format; clients = length s.seats; records = map record_of (take i s.records) }

-- Before a record, its client has fewer records than in the whole list.
pub turn_below : (rs : List Record) (i : ℕ) (d : Record) → i < length rs → turn (get_or rs i d).client (map record_of (take i rs)) < turn (get_or rs i d).client (map record_of rs)
turn_below rs i d inside =
    let r = get_or rs i d in
    let before = map record_of (take i rs) in
    let after = map record_of (drop (suc i) rs) in
    let parts : map record_of rs ≡ before ++ record_of r ∷ after = ap (map record_of) (split_at rs i d inside) ∙ map-append record_of (take i rs) (r ∷ drop (suc i) rs) in
    let whole : turn r.client (map record_of rs) ≡ turn r.client before + turn r.client (record_of r ∷ after) = ap (turn r.client) parts ∙ turn-append r.client before (record_of r ∷ after) in
    let own : 0 < turn r.client (record_of r ∷ after) = one (record_of r) after in
    omega (arith, whole, own)
  where
    one : (r : ARecord) (rest : List ARecord) → 0 < turn r.client (r ∷ rest)
    one r rest = rw (turn-cons r.client r rest) (grind arith)

-- The only fault that a history can have that has the client and has room: out of memory.
pub only_memory : (e : TypeFault) (A B : Type 0) → IsHistoryFault e → (IsErrOf {T = Unit {0}} (Err e) UnknownClient ↔ A) → (IsErrOf {T = Unit {0}} (Err e) TooManyOps ↔ B) → (A → ⊥) → (B → ⊥) → e ≡ Memory
only_memory Memory A B only unknown many not_a not_b = refl
only_memory UnknownClient A B only unknown many not_a not_b = absurd (not_a (unknown.0 refl))
only_memory TooManyOps A B only unknown many not_a not_b = absurd (not_b (many.0 refl))
only_memory KeyEmpty A B only unknown many not_a not_b = absurd only
only_memory KeyTooLong A B only unknown many not_a not_b = absurd only
only_memory ValueTooLong A B only unknown many not_a not_b = absurd only
only_memory BadVersion A B only unknown many not_a not_b = absurd only
only_memory ClockExhausted A B only unknown many not_a not_b = absurd only
only_memory BadDeps A B only unknown many not_a not_b = absurd only

-- Before a record, its client exists, and the trace of the earlier records has room for it.
pub room_before : (format : Format) (seats : List Seat) (rs : List Record) (reserved capacity i : ℕ) (r : Record) → IsKept format seats rs reserved capacity → i < length rs → r ≡ get_or rs i r
    → let before = map record_of (take i rs) in (r.client < length seats) × (turn r.client before < MAX_CLIENT_OPS) × (length before < MAX_OPS)
room_before format seats rs reserved capacity i r kept inside is =
    let known : r.client < length seats = subst (λ (q : Record). q.client < length seats) (sym is) (kept.known i r inside) in
    let fewer : turn r.client (map record_of (take i rs)) < turn r.client (map record_of rs) =
    subst (λ (q : Record). turn q.client (map record_of (take i rs)) < turn q.client (map record_of rs)) (sym is) (turn_below rs i r inside) in
    let counted = kept.counted r.client (seat 0 0) known in
    let session = kept.session r.client (seat 0 0) known in
    (known, omega (arith, fewer, counted, session), omega (arith, inside, kept.total, length-map (take i rs) record_of, length-take i rs))
