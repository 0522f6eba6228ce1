-- The first records of a trace, and their text.
use Rattle.std.proofs.Common.{◌≡◌, ℕ, zero, suc, ◌+◌, ◌<◌, ◌≤◌, List, [], ◌∷◌, ◌++◌, length, take, drop, get_or, Some, Option, refl, sym, ap, subst, ◌∙◌, append_assoc, arith, take-suc}
use Rattle.std.proofs.lemmas.List.{length-append, append-nil, take-append-le}
use Rattle.std.specs.Prelude.{slice_get, Result, Ok, Err, IsOk, OnOk, is_ok, if◌then◌else◌}
use Rattle.std.specs.List.{AllByRecursion}
use Rattle.std.specs.Io.KnownBytes.{Appends}
use Rattle.cops_types.proofs.Devices.{appends_more}
use Rattle.cops_types.specs.declared.format.Format.{Format}
use Rattle.cops_types.specs.Histories.{Sessions, op_at, Operation, missed}
use Rattle.cops_wire.specs.Message.{encoded}
use Rattle.cops_wire.specs.Records.{record_message}
use Rattle.cops_trace.specs.Counts.{ACounts, AreCountsOf, HasTurn, counted, next_of}
use Rattle.cops_trace.specs.Text.{ARecord, ATrace, IsOp, IsTrace, beginning, end_text, record_text, records_text, text, turn}
use Rattle.cops_trace.specs.Kept.{grown, op_in, records_from, trace_of, IsKept, IsOrder}
use Rattle.cops_trace.specs.Writing.{CountPrefix, HasSent, head_frame, prefix}
use Rattle.cops_trace.proofs.Lists.{take_past, times, times-append, times-same}
use Rattle.cops_trace.proofs.Allocation.{beginning-grown, with_records}
use Rattle.cops_trace.proofs.Keeping.{kept_len, length-records_from, records_push, turn-records_from}
use Rattle.cops_trace.proofs.Readings.{text_len}
use Rattle.cops_trace.proofs.Underway.{counts_grown}

-- ---- an arrival

client_named : (format : Format) (n : ℕ) (h : Sessions) (earlier cs : List ℕ) (i : ℕ) → AllByRecursion (λ r. (r.client < n) × IsOp format r.op) (records_from h earlier cs) → i < length cs → get_or cs i 0 < n
client_named format n h earlier [] i named lt = absurd (omega arith)
client_named format n h earlier (c ∷ cs) zero named lt = named.0.0
client_named format n h earlier (c ∷ cs) (suc i) named lt = client_named format n h (earlier ++ c ∷ []) cs i named.1 (omega arith)

-- an arrival is of a client that is there
pub client_inside : (format : Format) (h : Sessions) (cs : List ℕ) (i : ℕ) → IsKept format h cs → i < length cs → get_or cs i 0 < length h
client_inside format h cs i k lt = client_named format (length h) h [] cs i k.is_trace.named lt

parted : (cs : List ℕ) (i : ℕ) → i < length cs → cs ≡ take i cs ++ get_or cs i 0 ∷ drop (suc i) cs
parted [] i lt = absurd (omega arith)
parted (c ∷ cs) zero lt = refl
parted (c ∷ cs) (suc i) lt = ap (λ l. c ∷ l) (parted cs i (omega arith))

-- its client has an operation there
pub turn_inside : (h : Sessions) (cs : List ℕ) (i : ℕ) → IsOrder h cs → i < length cs → times (get_or cs i 0) (take i cs) < length (get_or h (get_or cs i 0) [])
turn_inside h cs i order lt =
    let c = get_or cs i 0 in
    omega (arith, order c, ap (times c) (parted cs i lt), times-append c (take i cs) (c ∷ drop (suc i) cs), times-same c (drop (suc i) cs))

pub op_there : (h : Sessions) (c n : ℕ) → n < length (get_or h c []) → slice_get (get_or h c []) n ≡ Some (op_in h c n)
op_there h c n lt = got (get_or h c []) n lt
  where
    got : (s : List Operation) (n : ℕ) → n < length s → slice_get s n ≡ Some (get_or s n (missed []))
    got [] n lt = absurd (omega arith)
    got (x ∷ s) zero lt = refl
    got (x ∷ s) (suc n) lt = got s n (omega arith)

op_stands : (h : Sessions) (cs : List ℕ) (i : ℕ) → IsOrder h cs → i < length cs → let c = get_or cs i 0 in let n = times c (take i cs) in
    op_at h (record { client = c; index = n }) ≡ Some (op_in h c n)
op_stands h cs i order lt = op_there h (get_or cs i 0) (times (get_or cs i 0) (take i cs)) (turn_inside h cs i order lt)

-- what is read inside a list is there, whatever stands for its lack
pub read_any : (xs : List ℕ) (i d e : ℕ) → i < length xs → get_or xs i d ≡ get_or xs i e
read_any [] i d e lt = absurd (omega arith)
read_any (x ∷ xs) zero d e lt = refl
read_any (x ∷ xs) (suc i) d e lt = read_any xs i d e (omega arith)

-- ---- the first records of a trace that is kept

take_records : (h : Sessions) (earlier cs : List ℕ) (i : ℕ) → take i (records_from h earlier cs) ≡ records_from h earlier (take i cs)
take_records h earlier [] zero = refl
take_records h earlier [] (suc i) = refl
take_records h earlier (c ∷ cs) zero = refl
take_records h earlier (c ∷ cs) (suc i) =
    let r : ARecord = record { client = c; op = op_in h c (times c earlier) } in
    ap (λ (rs : List ARecord). r ∷ rs) (take_records h (earlier ++ c ∷ []) cs i)

turn_before : (h : Sessions) (cs : List ℕ) (i c : ℕ) → turn c (take i (records_from h [] cs)) ≡ times c (take i cs)
turn_before h cs i c = ap (turn c) (take_records h [] cs i) ∙ turn-records_from h c [] (take i cs)

records_next : (h : Sessions) (cs : List ℕ) (i : ℕ) → i < length cs → let c = get_or cs i 0 in let r : ARecord = record { client = c; op = op_in h c (times c (take i cs)) } in
    take (suc i) (records_from h [] cs) ≡ take i (records_from h [] cs) ++ r ∷ []
records_next h cs i lt =
    let c = get_or cs i 0 in
    let r : ARecord = record { client = c; op = op_in h c (times c (take i cs)) } in
    take_records h [] cs (suc i) ∙ ap (records_from h []) (take-suc cs i 0 lt) ∙ records_push h [] (take i cs) c
    ∙ ap (λ (rs : List ARecord). rs ++ r ∷ []) (sym (take_records h [] cs i))

-- what is read of the next arrival: its client may have one record more, its operation is there, and with its record the first ones are one more
pub record IsNext (format : Format) (h : Sessions) (cs : List ℕ) (c : ACounts) (client index : ℕ) : Type 0 where
  pub turn : HasTurn c client
  pub is_there : op_at h (record { client = client; index = index }) ≡ Some (op_in h client index)
  pub counts : CountPrefix (trace_of format h cs) (counted c client)
  pub text_is : beginning (prefix (c.total + 1) (trace_of format h cs)) ≡ beginning (prefix c.total (trace_of format h cs)) ++ encoded (record_message client index (op_in h client index))

next_is : (format : Format) (h : Sessions) (cs : List ℕ) (c : ACounts) → IsKept format h cs → CountPrefix (trace_of format h cs) c → c.total < length cs
    → let client = get_or cs c.total 0 in IsNext format h cs c client (times client (take c.total cs))
next_is format h cs c k p lt =
    let i = c.total in
    let client = get_or cs i 0 in
    let n = times client (take i cs) in
    let order : IsOrder h cs = λ d. sym (kept_len format h cs d k) in
    let t = trace_of format h cs in
    let r : ARecord = record { client = client; op = op_in h client n } in
    let named = client_inside format h cs i k lt in
    let before : turn client (take i t.records) ≡ n = turn_before h cs i client in
    let next : i + 1 ≡ suc i = omega arith in
    let grows : prefix (i + 1) t ≡ grown (prefix i t) r = ap (with_records format (length h)) (ap (λ (m : ℕ). take m t.records) next ∙ records_next h cs i lt) in
    let inside : client < length c.next = omega (arith, named, p.counts.clients) in
    record {
      turn = (
        inside,
        omega (arith, p.counts.next client, before, turn_inside h cs i order lt, kept_len format h cs client k, k.is_trace.each client, turn-records_from h client [] cs),
        omega (arith, lt, k.is_trace.all, length-records_from h [] cs),
      );
      is_there = op_stands h cs i order lt;
      counts = record {
        inside = omega (arith, lt, length-records_from h [] cs);
        counts = subst (λ (u : ATrace). AreCountsOf u (counted c client)) (sym grows) (counts_grown (prefix i t) c r p.counts inside);
      };
      text_is = ap beginning grows ∙ beginning-grown (prefix i t) r
          ∙ ap (λ (m : ℕ). beginning (prefix i t) ++ encoded (record_message client m (op_in h client n))) before;
    }

pub next_read : (format : Format) (h : Sessions) (cs : List ℕ) (c : ACounts) (client index : ℕ) → IsKept format h cs → CountPrefix (trace_of format h cs) c → c.total < length cs
    → client ≡ get_or cs c.total client → index ≡ next_of c client → IsNext format h cs c client index
next_read format h cs c client index k p lt is_client is_index =
    let first : client ≡ get_or cs c.total 0 = is_client ∙ read_any cs c.total client 0 lt in
    let second : index ≡ times client (take c.total cs) = is_index ∙ p.counts.next client ∙ turn_before h cs c.total client in
    subst (λ (n : ℕ). IsNext format h cs c client n) (sym second)
    (subst (λ (d : ℕ). IsNext format h cs c d (times d (take c.total cs))) (sym first) (next_is format h cs c k p lt))

-- no record
pub prefix_none : (t : ATrace) → prefix 0 t ≡ with_records t.format t.clients []
prefix_none t = none t.records
  where
    none : (rs : List ARecord) → with_records t.format t.clients (take 0 rs) ≡ with_records t.format t.clients []
    none [] = refl
    none (r ∷ rs) = refl

-- all records
pub prefix_all : (t : ATrace) (n : ℕ) → n ≡ length t.records → prefix n t ≡ t
prefix_all t n e = ap (with_records t.format t.clients) (whole t.records n e)
  where
    whole : (rs : List ARecord) (n : ℕ) → n ≡ length rs → take n rs ≡ rs
    whole [] zero e = refl
    whole [] (suc n) e = absurd (omega (arith, e))
    whole (r ∷ rs) zero e = absurd (omega (arith, e))
    whole (r ∷ rs) (suc n) e = ap (λ (l : List ARecord). r ∷ l) (whole rs n (omega (arith, e)))

-- ---- the text of the first records

parts_of : (rs : List ARecord) (n : ℕ) → rs ≡ take n rs ++ drop n rs
parts_of [] zero = refl
parts_of [] (suc n) = refl
parts_of (r ∷ rs) zero = refl
parts_of (r ∷ rs) (suc n) = ap (λ (l : List ARecord). r ∷ l) (parts_of rs n)

records_text-append : (earlier xs ys : List ARecord) → records_text earlier (xs ++ ys) ≡ records_text earlier xs ++ records_text (earlier ++ xs) ys
records_text-append earlier [] ys = ap (λ (e : List ARecord). records_text e ys) (sym (append-nil earlier))
records_text-append earlier (x ∷ xs) ys =
    ap (λ (l : List ℕ). record_text earlier x ++ l)
    (records_text-append (earlier ++ x ∷ []) xs ys ∙ ap (λ (e : List ARecord). records_text (earlier ++ x ∷ []) xs ++ records_text e ys) (append_assoc earlier (x ∷ []) xs))
    ∙ sym (append_assoc (record_text earlier x) (records_text (earlier ++ x ∷ []) xs) (records_text (earlier ++ x ∷ xs) ys))

-- the text behind that of the first records
abbrev pub rest_of : ATrace → ℕ → List ℕ
rest_of t n = records_text (take n t.records) (drop n t.records) ++ end_text t

pub text_parts : (t : ATrace) (n : ℕ) → text t ≡ beginning (prefix n t) ++ rest_of t n
unfolding beginning
text_parts t n =
    let head = head_frame t.format t.clients in
    let first = records_text [] (take n t.records) in
    let later = records_text (take n t.records) (drop n t.records) in
    let all : records_text [] t.records ≡ first ++ later = ap (records_text []) (parts_of t.records n) ∙ records_text-append [] (take n t.records) (drop n t.records) in
    ap (λ (l : List ℕ). (head ++ l) ++ end_text t) all
    ∙ ap (λ (l : List ℕ). l ++ end_text t) (sym (append_assoc head first later))
    ∙ append_assoc (head ++ first) later (end_text t)

-- ---- what went out

-- what holds of a call that succeeded
pub unwrapped : {T E : Type 0} (r : Result T E) (P : Type 0) → IsOk r → OnOk r P → P
unwrapped (Ok x) P is on = on
unwrapped (Err e) P is on = absurd cc

pub ok_then : {T E : Type 0} (r : Result T E) (x y : List ℕ) → IsOk r → (if is_ok r then x else y) ≡ x
ok_then (Ok a) x y is = refl
ok_then (Err e) x y is = absurd cc

-- more is left
pub sent_more : (old new : Option (List ℕ)) (bytes left more_bytes more_left : List ℕ) (written : ℕ) → HasSent old new bytes left written
    → ((before : List ℕ) → before ++ left ≡ bytes → before ++ more_left ≡ more_bytes) → HasSent old new more_bytes more_left written
sent_more old new bytes left more_bytes more_left written s more =
    record { done = s.done; bytes_are = sym (more s.done (sym s.bytes_are)); in_all = s.in_all; appends = s.appends }

-- the end is left too
pub sent_end : (old new : Option (List ℕ)) (t : ATrace) (left end all : List ℕ) (written : ℕ) → HasSent old new (beginning t) left written → all ≡ left ++ end → end ≡ end_text t
    → HasSent old new (text t) all written
sent_end old new t left end all written s is end_is = sent_more old new (beginning t) left (text t) all written s (λ before before_is.
    ap (λ (l : List ℕ). before ++ l) is ∙ sym (append_assoc before left end) ∙ ap (λ (l : List ℕ). l ++ end) before_is ∙ ap (λ (l : List ℕ). beginning t ++ l) end_is)

-- some of what was left of these bytes went out, fewer than all
pub sent_cut : (old mid new : Option (List ℕ)) (bytes left rest whole : List ℕ) (written count : ℕ) → HasSent old mid bytes left written → whole ≡ bytes ++ rest
    → count < length left → Appends mid new (take count left) → (written + count < length whole) × Appends old new (take (written + count) whole)
sent_cut old mid new bytes left rest whole written count s is fewer more =
    let whole_is : whole ≡ s.done ++ (left ++ rest) = is ∙ ap (λ (l : List ℕ). l ++ rest) s.bytes_are ∙ append_assoc s.done left rest in
    let cut : take (written + count) whole ≡ s.done ++ take count left =
    ap (λ (m : ℕ). take (m + count) whole) s.in_all ∙ ap (take (length s.done + count)) whole_is ∙ take_past s.done (left ++ rest) count
    ∙ ap (λ (l : List ℕ). s.done ++ l) (take-append-le count left rest (omega (arith, fewer))) in (
      omega (arith, ap length whole_is, length-append s.done (left ++ rest), length-append left rest, fewer, s.in_all),
      appends_more old mid new s.done (take count left) (take (written + count) whole) s.appends more (sym cut),
    )

-- all of it went out
pub sent_all : (old mid new : Option (List ℕ)) (bytes left : List ℕ) (written : ℕ) → HasSent old mid bytes left written → Appends mid new left → Appends old new bytes
sent_all old mid new bytes left written s more = appends_more old mid new s.done left bytes s.appends more (sym s.bytes_are)

pub sent_next : (old mid new : Option (List ℕ)) (bytes left : List ℕ) (written all : ℕ) → HasSent old mid bytes left written → Appends mid new left → all ≡ written + length left
    → HasSent old new bytes [] all
sent_next old mid new bytes left written all s more is = record {
  done = bytes;
  bytes_are = sym (append-nil bytes);
  in_all = omega (arith, is, s.in_all, ap length s.bytes_are, length-append s.done left);
  appends = sent_all old mid new bytes left written s more;
}

-- fewer bytes than a number of 64 bits counts
pub sent_few : (old new : Option (List ℕ)) (t : ATrace) (bytes left rest : List ℕ) (written : ℕ) → IsTrace t → text t ≡ bytes ++ rest → HasSent old new bytes left written
    → written + length left ≤ 2097216262152
sent_few old new t bytes left rest written h is s =
    omega (arith, text_len t h, ap length is, length-append bytes rest, ap length s.bytes_are, length-append s.done left, s.in_all)
