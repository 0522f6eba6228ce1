-- Adding a record to a trace, and the prefixes of a trace.
use Rattle.std.proofs.Common.{◌≡◌, ℕ, ◌^◌, ◌<◌, ◌≤◌, List, [], ◌∷◌, ◌++◌, length, sym, ap, subst, ◌∙◌, append_assoc, arith, inl, inr}
use Rattle.std.proofs.lemmas.List.{length-append, append-nil}
use Rattle.cops_types.specs.declared.format.Format.{Format}
use Rattle.cops_types.specs.Histories.{Operation, write, read, missed}
use Rattle.cops_types.specs.Format.{IsInFormat}
use Rattle.cops_types.specs.declared.limits.TheConstants.{MAX_CLIENT_OPS, MAX_OPS}
use Rattle.cops_trace.specs.Text.{ARecord, ATrace, IsTrace, IsOp, turn, record_text, records_text, beginning}
use Rattle.cops_trace.specs.Writing.{head_frame}
use Rattle.cops_trace.specs.Kept.{grown}
use Rattle.cops_trace.proofs.Lists.{all_both, all_prefix, same_or_other, turn-append, turn-same, turn-other}

abbrev pub with_records : Format → ℕ → List ARecord → ATrace
with_records format clients records = record { format = format; clients = clients; records = records }

pub IsTrace-none : (format : Format) (clients : ℕ) → clients < 2 ^ 16 → IsTrace (with_records format clients [])
IsTrace-none format clients h = record { clients = h; named = tt; each = λ c. omega arith; all = omega arith }

pub IsTrace-grown : (t : ATrace) (r : ARecord) → IsTrace t → r.client < t.clients → IsOp t.format r.op → turn r.client t.records < MAX_CLIENT_OPS → length t.records < MAX_OPS → IsTrace (grown t r)
IsTrace-grown t r h client op room all_room = record {
  clients = h.clients;
  named = all_both (λ (s : ARecord). (s.client < t.clients) × IsOp t.format s.op) t.records (r ∷ []) h.named ((client, op), tt);
  each = λ c. elim (same_or_other r.client c) [
    | inl p ↦ subst (λ (n : ℕ). turn n (t.records ++ r ∷ []) ≤ MAX_CLIENT_OPS) p (omega (arith, turn-same t.records r))
    | inr p ↦ omega (arith, turn-other t.records r c p, h.each c)
  ];
  all = omega (arith, length-append t.records (r ∷ []));
}

-- the first records of a trace are a trace
pub IsTrace-prefix : (format : Format) (c : ℕ) (xs ys : List ARecord) → IsTrace (with_records format c (xs ++ ys)) → IsTrace (with_records format c xs)
IsTrace-prefix format c xs ys h = record {
  clients = h.clients;
  named = all_prefix (λ (s : ARecord). (s.client < c) × IsOp format s.op) xs ys h.named;
  each = λ d. omega (arith, turn-append d xs ys, h.each d);
  all = omega (arith, length-append xs ys, h.all);
}

-- an operation with an encoding in a format is of that format
pub op_in_format : (format : Format) (op : Operation) → IsOp format op → IsInFormat format op
op_in_format format (write key content version) h = h.1
op_in_format format (read key content version) h = h.1
op_in_format format (missed key) h = tt

-- the encodings of records with one more at the end
pub records_text-push : (earlier rs : List ARecord) (r : ARecord) → records_text earlier (rs ++ r ∷ []) ≡ records_text earlier rs ++ record_text (earlier ++ rs) r
records_text-push earlier [] r = append-nil (record_text earlier r) ∙ ap (λ (e : List ARecord). record_text e r) (sym (append-nil earlier))
records_text-push earlier (q ∷ rs) r =
    ap (λ (x : List ℕ). record_text earlier q ++ x) (records_text-push (earlier ++ q ∷ []) rs r ∙ ap (λ (e : List ARecord). records_text (earlier ++ q ∷ []) rs ++ record_text e r) (append_assoc earlier (q ∷ []) rs))
    ∙ sym (append_assoc (record_text earlier q) (records_text (earlier ++ q ∷ []) rs) (record_text (earlier ++ q ∷ rs) r))

pub beginning-none : (format : Format) (clients : ℕ) → beginning (with_records format clients []) ≡ head_frame format clients
unfolding beginning
beginning-none format clients = append-nil (head_frame format clients)

pub beginning-grown : (t : ATrace) (r : ARecord) → beginning (grown t r) ≡ beginning t ++ record_text t.records r
unfolding beginning
beginning-grown t r =
    ap (λ (x : List ℕ). head_frame t.format t.clients ++ x) (records_text-push [] t.records r)
    ∙ sym (append_assoc (head_frame t.format t.clients) (records_text [] t.records) (record_text t.records r))
