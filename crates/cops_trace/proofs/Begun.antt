-- Writing a trace's text while the trace grows, up to a frame or to the middle of one.
use Rattle.std.proofs.Common.{◌≡◌, ℕ, ◌+◌, ◌^◌, ◌<◌, List, [], ◌∷◌, ◌++◌, length, take, drop, Option, Some, None, Bor, true, eqb, refl, sym, ap, subst, ◌∙◌, append_assoc, arith}
use Rattle.std.specs.Io.KnownBytes.{Appends, Keeps}
use Rattle.std.specs.Cmp.Lexicographic.{pointwise}
use Rattle.std.proofs.lemmas.Bool.Decides.{Decides-eqb}
use Rattle.std.proofs.lemmas.Slice.Eq.{strip_prefix_is}
use Rattle.std.proofs.lemmas.List.{length-append, append-nil, take_at, take-append-le}
use Rattle.cops_types.specs.Histories.{Operation}
use Rattle.cops_types.proofs.Devices.{appends_more}
use Rattle.cops_types.specs.declared.format.Format.{Format}
use Rattle.cops_types.specs.declared.format.Format.TheVariants.{One}
use Rattle.cops_wire.specs.Message.{encoded}
use Rattle.cops_wire.specs.Records.{record_message}
use Rattle.cops_wire.specs.declared.message.Message.TheVariants.{TraceEnd}
use Rattle.cops_trace.specs.Counts.{ACounts, AreCountsOf, HasTurn, counted, nothing}
use Rattle.cops_trace.specs.Kept.{grown}
use Rattle.cops_trace.specs.Live.{Gains, HasBegun, IsCutBy, IsCutShort}
use Rattle.cops_trace.specs.Text.{ARecord, ATrace, IsOp, IsTrace, beginning, record_text, text, end_text}
use Rattle.cops_trace.specs.Writing.{IsUnwritten, head_frame, more_written, record_frame}
use Rattle.cops_trace.specs.declared.fault.WriteFault.{WriteFault}
use Rattle.cops_trace.specs.declared.fault.WriteFault.TheVariants.{Memory, WriteFailed}
use Rattle.cops_trace.specs.declared.live.LiveTrace.{LiveTrace}
use Rattle.cops_trace.proofs.Allocation.{IsTrace-grown, IsTrace-none, beginning-grown, beginning-none, with_records}
use Rattle.cops_trace.proofs.Items.{encoded_len}
use Rattle.cops_trace.proofs.Lists.{take_past}
use Rattle.cops_trace.proofs.Readings.{end_legal, prefix_len, text_len}
use Rattle.cops_trace.proofs.Underway.{counts_grown, counts_none}

-- ---- the bytes that a writer took

kept_none : (old new : Option (List ℕ)) → Keeps old new → Appends old new []
kept_none None new k = tt
kept_none (Some o) None k = absurd k
kept_none (Some o) (Some n) k = k ∙ sym (append-nil o)

appends_kept : (old mid new : Option (List ℕ)) (xs : List ℕ) → Appends old mid xs → Keeps mid new → Appends old new xs
appends_kept old mid new xs a k = appends_more old mid new xs [] xs a (kept_none mid new k) (append-nil xs)

pub appends_none : (old : Option (List ℕ)) → Appends old old []
appends_none None = tt
appends_none (Some o) = sym (append-nil o)

-- ---- a cut text

end_there : (t : ATrace) → IsTrace t → 0 < length (end_text t)
end_there t h = omega (arith, (encoded_len t.format (TraceEnd (length t.records)) (end_legal t h)).0)

-- a proper prefix of the next frame was written after these bytes
pub cut_in : (old mid new : Option (List ℕ)) (t : ATrace) (bytes frame rest : List ℕ) (count : ℕ) → IsTrace t → text t ≡ bytes ++ (frame ++ rest) → Appends old mid bytes
    → Appends mid new (take count frame) → count < length frame → IsCutShort old new (length bytes + count)
cut_in old mid new t bytes frame rest count h is first more fewer =
    let part : take count (frame ++ rest) ≡ take count frame = take-append-le count frame rest (omega (arith, fewer)) in
    record {
      trace = t;
      is_trace = h;
      fewer = omega (arith, ap length is, length-append bytes (frame ++ rest), length-append frame rest, fewer);
      appends = appends_more old mid new bytes (take count frame) (take (length bytes + count) (text t)) first more
          (sym (ap (take (length bytes + count)) is ∙ take_past bytes (frame ++ rest) count ∙ ap (λ (l : List ℕ). bytes ++ l) part));
    }

-- everything but the end was written
pub cut_here : (old new : Option (List ℕ)) (t : ATrace) → IsTrace t → Appends old new (beginning t) → IsCutShort old new (length (beginning t))
cut_here old new t h first = record {
  trace = t;
  is_trace = h;
  fewer = omega (arith, length-append (beginning t) (end_text t), end_there t h);
  appends = subst (Appends old new) (sym (take_at (beginning t) (end_text t) (length (beginning t)) refl)) first;
}

pub cut_begun : (old new : Option (List ℕ)) (bytes : List ℕ) (c : ACounts) (written : ℕ) → HasBegun old new bytes c written → (n : ℕ) × IsCutShort old new n
cut_begun old new bytes c written b = (length (beginning b.trace), cut_here old new b.trace b.is_trace (subst (Appends old new) b.bytes_are b.appends))

pub cut_kept : (old mid new : Option (List ℕ)) (bytes : List ℕ) (c : ACounts) (written : ℕ) → HasBegun old mid bytes c written → Keeps mid new → (n : ℕ) × IsCutShort old new n
cut_kept old mid new bytes c written b k =
    (length (beginning b.trace), cut_here old new b.trace b.is_trace (appends_kept old mid new (beginning b.trace) (subst (Appends old mid) b.bytes_are b.appends) k))

-- adding `count` bytes to a cut text does not overflow 64 bits
reported : (old new : Option (List ℕ)) (before count : ℕ) → IsCutShort old new (before + count) → before + count ≡ more_written before count
reported old new before count cut = let long = text_len cut.trace cut.is_trace in omega (arith, cut.fewer, long)

-- ---- the head

rest_of_none : (format : Format) (clients : ℕ) → text (with_records format clients []) ≡ head_frame format clients ++ end_text (with_records format clients [])
rest_of_none format clients = ap (λ (l : List ℕ). l ++ end_text (with_records format clients [])) (beginning-none format clients)

pub new_begun : (old new : Option (List ℕ)) (format : Format) (clients : ℕ) → clients < 2 ^ 16 → Appends old new (head_frame format clients)
    → HasBegun old new (head_frame format clients) (nothing format clients) (more_written 0 (length (head_frame format clients)))
new_begun old new format clients few first =
    let t = with_records format clients [] in
    let h = IsTrace-none format clients few in
    record {
      trace = t;
      is_trace = h;
      counts = counts_none format clients;
      bytes_are = sym (beginning-none format clients);
      in_all = omega (arith, ap length (beginning-none format clients), prefix_len (Some t) h);
      appends = first;
    }

-- nothing was written
pub cut_none : (old : Option (List ℕ)) → IsCutShort old old 0
cut_none old =
    let t = with_records One 0 [] in
    let h = IsTrace-none One 0 (omega arith) in
    record { trace = t; is_trace = h; fewer = omega (arith, length-append (beginning t) (end_text t), end_there t h); appends = appends_none old }

pub new_cut : (old new : Option (List ℕ)) (format : Format) (clients : ℕ) (e : WriteFault) → clients < 2 ^ 16 → IsUnwritten (head_frame format clients) 0 old new e → IsCutBy e old new
new_cut old new format clients Memory few k =
    let t = with_records format clients [] in
    (0, record { trace = t; is_trace = IsTrace-none format clients few; fewer = omega (arith, length-append (beginning t) (end_text t), end_there t (IsTrace-none format clients few)); appends = kept_none old new k })
new_cut old new format clients (WriteFailed written) few u =
    let t = with_records format clients [] in
    let cut = cut_in old old new t [] (head_frame format clients) (end_text t) u.0 (IsTrace-none format clients few) (rest_of_none format clients) (appends_none old) u.3 u.1 in
    subst (IsCutShort old new) (reported old new 0 u.0 cut ∙ sym u.2) cut

-- ---- a record

may_grow : (t : ATrace) (c : ACounts) (client : ℕ) (op : Operation) → IsTrace t → AreCountsOf t c → HasTurn c client → IsOp c.format op → IsTrace (grown t (record { client = client; op = op }))
may_grow t c client op h counts turn is =
    IsTrace-grown t (record { client = client; op = op }) h (omega (arith, counts.clients, turn.0)) (subst (λ (f : Format). IsOp f op) counts.format is) (omega (arith, counts.next client, turn.1)) (omega (arith, counts.total, turn.2))

frame_is : (t : ATrace) (c : ACounts) (client : ℕ) (op : Operation) → AreCountsOf t c → record_frame c client op ≡ record_text t.records (record { client = client; op = op })
frame_is t c client op counts = ap (λ (i : ℕ). encoded (record_message client i op)) (counts.next client)

grown_is : (t : ATrace) (c : ACounts) (bytes : List ℕ) (client : ℕ) (op : Operation) → AreCountsOf t c → bytes ≡ beginning t → beginning (grown t (record { client = client; op = op })) ≡ bytes ++ record_frame c client op
grown_is t c bytes client op counts is =
    beginning-grown t (record { client = client; op = op })
    ∙ ap (λ (l : List ℕ). beginning t ++ l) (sym (frame_is t c client op counts)) ∙ ap (λ (l : List ℕ). l ++ record_frame c client op) (sym is)

pub add_gains : {W : Type 0} (old new : LiveTrace W) (r : ARecord) → HasTurn old.writer.counts r.client → new.writer.counts ≡ counted old.writer.counts r.client
    → new.text.items ≡ old.text.items ++ record_frame old.writer.counts r.client r.op → Gains (r ∷ []) old new
add_gains old new r turn counts longer t b = record {
  counts = subst (AreCountsOf (grown t r)) (sym counts) (counts_grown t old.writer.counts r b.counts turn.0);
  bytes_are = longer ∙ sym (grown_is t old.writer.counts old.text.items r.client r.op b.counts b.bytes_are);
}

pub add_begun : (old mid new : Option (List ℕ)) (bytes : List ℕ) (c : ACounts) (written client : ℕ) (op : Operation) → HasBegun old mid bytes c written → HasTurn c client → IsOp c.format op
    → Appends mid new (record_frame c client op)
    → HasBegun old new (bytes ++ record_frame c client op) (counted c client) (more_written written (length (record_frame c client op)))
add_begun old mid new bytes c written client op b turn is more =
    let r : ARecord = record { client = client; op = op } in
    let h = may_grow b.trace c client op b.is_trace b.counts turn is in
    let same = grown_is b.trace c bytes client op b.counts b.bytes_are in
    record {
      trace = grown b.trace r;
      is_trace = h;
      counts = counts_grown b.trace c r b.counts turn.0;
      bytes_are = sym same;
      in_all = omega (arith, b.in_all, ap length same, length-append bytes (record_frame c client op), prefix_len (Some (grown b.trace r)) h);
      appends = appends_more old mid new bytes (record_frame c client op) _ b.appends more refl;
    }

pub add_cut : (old mid new : Option (List ℕ)) (bytes : List ℕ) (c : ACounts) (written client : ℕ) (op : Operation) (e : WriteFault) → HasBegun old mid bytes c written → HasTurn c client → IsOp c.format op
    → IsUnwritten (record_frame c client op) written mid new e → IsCutBy e old new
add_cut old mid new bytes c written client op Memory b turn is k = cut_kept old mid new bytes c written b k
add_cut old mid new bytes c written client op (WriteFailed all) b turn is u =
    let t = grown b.trace (record { client = client; op = op }) in
    let frame = record_frame c client op in
    let same : text t ≡ bytes ++ (frame ++ end_text t) =
    ap (λ (l : List ℕ). l ++ end_text t) (grown_is b.trace c bytes client op b.counts b.bytes_are) ∙ append_assoc bytes frame (end_text t) in
    let cut = cut_in old mid new t bytes frame (end_text t) u.0 (may_grow b.trace c client op b.is_trace b.counts turn is) same b.appends u.3 u.1 in
    subst (IsCutShort old new) (reported old new (length bytes) u.0 cut ∙ ap (λ (n : ℕ). more_written n u.0) (sym b.in_all) ∙ sym u.2) cut

-- ---- the rest

-- the rest that `strip_prefix` returns
pub left_is : (s p whole bytes : List ℕ) (rest : Bor (List ℕ)) → (pointwise eqb (take (length p) s) p ≡ true) × (rest.now ≡ drop (length p) s) × (length rest.now + length p ≡ length s)
    → s ≡ whole → p ≡ bytes → whole ≡ bytes ++ rest.now
left_is s p whole bytes rest cases is first = sym is ∙ strip_prefix_is Decides-eqb s p (Some rest) cases ∙ ap (λ (l : List ℕ). l ++ rest.now) first

pub rest_cut : (old mid new : Option (List ℕ)) (t : ATrace) (bytes rest : List ℕ) (count : ℕ) → IsTrace t → text t ≡ bytes ++ rest → Appends old mid bytes → Appends mid new (take count rest)
    → count < length rest → IsCutShort old new (length bytes + count)
rest_cut old mid new t bytes rest count h is first more fewer =
    cut_in old mid new t bytes rest [] count h (is ∙ ap (λ (l : List ℕ). bytes ++ l) (sym (append-nil rest))) first more fewer
