-- The frames with which some bytes begin, one after the other, and what was written of their lines.
use Rattle.std.proofs.Common.{◌≡◌, ℕ, ◌+◌, ◌-◌, ◌<◌, ◌≤◌, List, [], ◌∷◌, ◌++◌, length, drop, Option, Some, None, Result, Ok, Err, IfOk, IfSome, refl, sym, subst, ap, ◌∙◌, append_assoc, arith, inl, inr}
use Rattle.std.specs.Io.KnownBytes.{Appends}
use Rattle.std.proofs.lemmas.Grind.{flat_map-append}
use Rattle.std.proofs.lemmas.List.{length-append, append-nil, append_cancel_left}
use Rattle.std.proofs.Math.Seq.{drop-append_seam}
use Rattle.cops_types.specs.declared.format.Format.{Format}
use Rattle.cops_types.specs.declared.format.Format.TheVariants.{One, Two}
use Rattle.cops_types.specs.declared.fault.Memory.{Memory}
use Rattle.cops_wire.specs.declared.fault.WireFault.{WireFault}
use Rattle.cops_wire.specs.declared.fault.WireFault.TheVariants as wire
use Rattle.cops_wire.specs.declared.message.Message.{Message}
use Rattle.cops_wire.specs.declared.decoding.Decoded.{Decoded}
use Rattle.cops_wire.specs.Grammar.{grammar, Parts}
use Rattle.cops_wire.specs.Legal.{IsMessage}
use Rattle.cops_wire.specs.Message.{parts, encoded}
use Rattle.cops_wire.specs.Answer.{Answers, IsAnswer}
use Rattle.cops_trace.proofs.Items.{encoded_in}
use Rattle.cops_trace.proofs.Lists.{all_both, all_back}
use Rattle.cops_types.proofs.Devices.{appends_more}
use Rattle.cops_audit_commands.proofs.Shown.{appends_none}
use Rattle.cops_audit_commands.specs.NextLine.{AppendsNext, named}
use Rattle.cops_types.proofs.Formats.{number_again, number_is}
use Rattle.cops_wire.proofs.Messages.{parts-same}
use Rattle.cops_types.specs.Format.{number_of}
use Rattle.cops_wire.specs.declared.message.Message.TheVariants.{TraceHead}
use Rattle.std.specs.Prelude.{unwrap_or}
use Rattle.cops_audit_commands.specs.Show.{line_of, lines_of, frames_of, StandBefore, AreAllBefore, AreReadIn, HasHead}

-- ---- one more frame

one_frame : (m : Message) → frames_of (m ∷ []) ≡ encoded m
one_frame m = append-nil (encoded m)

more_frames : (ms : List Message) (m : Message) → frames_of (ms ++ m ∷ []) ≡ frames_of ms ++ encoded m
more_frames ms m = flat_map-append encoded ms (m ∷ []) ∙ ap (λ (x : List ℕ). frames_of ms ++ x) (one_frame m)

one_length : (m : Message) → length (frames_of (m ∷ [])) ≡ length (encoded m)
one_length m = ap length (one_frame m)

more_length : (ms : List Message) (m : Message) → length (frames_of (ms ++ m ∷ [])) ≡ length (frames_of ms) + length (encoded m)
more_length ms m = ap length (more_frames ms m) ∙ length-append (frames_of ms) (encoded m)

more_lines : (ms : List Message) (m : Message) → lines_of (ms ++ m ∷ []) ≡ lines_of ms ++ line_of m
more_lines ms m = flat_map-append line_of ms (m ∷ []) ∙ ap (λ (x : List ℕ). lines_of ms ++ x) (append-nil (line_of m))

-- ---- messages up to a place

-- the frames of these messages end at or before the end, the last of them at this place
pub record StandTo (format : Format) (bytes : List ℕ) (end at : ℕ) (ms : List Message) : Type 0 where
  pub stand : StandBefore format bytes end ms
  pub place : at ≡ length (frames_of ms)

no_frames : (format : Format) (bytes : List ℕ) (end : ℕ) → StandTo format bytes end 0 []
no_frames format bytes end = record { stand = record { legal = tt; rest = bytes; front = refl; ends = omega arith }; place = refl }

rest_is : (format : Format) (bytes : List ℕ) (end at : ℕ) (ms : List Message) (h : StandTo format bytes end at ms) → drop at bytes ≡ h.stand.rest
rest_is format bytes end at ms h =
    ap (λ (n : ℕ). drop n bytes) h.place ∙ ap (λ (x : List ℕ). drop (length (frames_of ms)) x) h.stand.front ∙ drop-append_seam (frames_of ms) h.stand.rest

-- the message with which the rest begins follows them
one_more : (format : Format) (bytes : List ℕ) (end at used : ℕ) (ms : List Message) (m : Message) → StandTo format bytes end at ms → StandBefore format (drop at bytes) (end - at) (m ∷ []) → used ≡ length (encoded m)
    → StandTo format bytes end (at + used) (ms ++ m ∷ [])
one_more format bytes end at used ms m h n len =
    record {
      stand = record {
        legal = all_both (λ n. IsMessage (grammar format) (parts n)) ms (m ∷ []) h.stand.legal n.legal;
        rest = n.rest;
        front = h.stand.front ∙ ap (λ (x : List ℕ). frames_of ms ++ x) (sym (rest_is format bytes end at ms h) ∙ n.front ∙ ap (λ (x : List ℕ). x ++ n.rest) (one_frame m))
            ∙ sym (append_assoc (frames_of ms) (encoded m) n.rest) ∙ ap (λ (x : List ℕ). x ++ n.rest) (sym (more_frames ms m));
        ends = omega (arith, h.place, h.stand.ends, n.ends, one_length m, more_length ms m);
      };
      place = omega (arith, h.place, len, more_length ms m);
    }

-- where the rest begins with no message, they are all
no_more : (format : Format) (bytes : List ℕ) (end at : ℕ) (ms : List Message) → StandTo format bytes end at ms → ((m : Message) → StandBefore format (drop at bytes) (end - at) (m ∷ []) → ⊥) → AreAllBefore format bytes end ms
no_more format bytes end at ms h none = record {
  stand = h.stand;
  all = λ m s.
      none m
      (record {
        legal = all_back (λ n. IsMessage (grammar format) (parts n)) ms (m ∷ []) s.legal;
        rest = s.rest;
        front = rest_is format bytes end at ms h ∙ append_cancel_left (frames_of ms) h.stand.rest (frames_of (m ∷ []) ++ s.rest)
            (sym h.stand.front ∙ s.front ∙ ap (λ (x : List ℕ). x ++ s.rest) (flat_map-append encoded ms (m ∷ [])) ∙ append_assoc (frames_of ms) (frames_of (m ∷ [])) s.rest);
        ends = omega (arith, h.place, s.ends, one_length m, more_length ms m);
      });
}

-- ---- what is written of them

-- The frames of some messages end at or before the end, the last of them at this place. Their lines are written, except for this text.
pub record WrittenTo (format : Format) (bytes : List ℕ) (end at : ℕ) (old new : Option (List ℕ)) (text : List ℕ) : Type 0 where
  pub messages : List Message
  pub stand : StandTo format bytes end at messages
  pub front : List ℕ
  pub wrote : Appends old new front
  pub lines : front ++ text ≡ lines_of messages

pub none_written : (format : Format) (bytes : List ℕ) (end : ℕ) (known : Option (List ℕ)) → WrittenTo format bytes end 0 known known []
none_written format bytes end known = record { messages = []; stand = no_frames format bytes end; front = []; wrote = appends_none known; lines = refl }

pub line_appended : (format : Format) (bytes : List ℕ) (end at used : ℕ) (old new : Option (List ℕ)) (text more : List ℕ) → WrittenTo format bytes end at old new text → AppendsNext format (drop at bytes) (end - at) text more (Some used)
    → WrittenTo format bytes end (at + used) old new more
line_appended format bytes end at used old new text more h n = record {
  messages = h.messages ++ n.0 ∷ [];
  stand = one_more format bytes end at used h.messages n.0 h.stand n.1 n.2;
  front = h.front;
  wrote = h.wrote;
  lines = ap (λ (x : List ℕ). h.front ++ x) n.3 ∙ sym (append_assoc h.front text (line_of n.0)) ∙ ap (λ (x : List ℕ). x ++ line_of n.0) h.lines ∙ sym (more_lines h.messages n.0);
}

pub text_written : (format : Format) (bytes : List ℕ) (end at : ℕ) (old mid new : Option (List ℕ)) (text front left : List ℕ) → WrittenTo format bytes end at old mid text → text ≡ front ++ left → Appends mid new front
    → WrittenTo format bytes end at old new left
text_written format bytes end at old mid new text front left h split w = record {
  messages = h.messages;
  stand = h.stand;
  front = h.front ++ front;
  wrote = appends_more old mid new h.front front (h.front ++ front) h.wrote w refl;
  lines = append_assoc h.front front left ∙ ap (λ (x : List ℕ). h.front ++ x) (sym split) ∙ h.lines;
}

pub all_written : (format : Format) (bytes : List ℕ) (end at : ℕ) (old mid new : Option (List ℕ)) (text more : List ℕ) → WrittenTo format bytes end at old mid text → AppendsNext format (drop at bytes) (end - at) text more None → Appends mid new more
    → (ms : List Message) × AreAllBefore format bytes end ms × Appends old new (lines_of ms)
all_written format bytes end at old mid new text more h none w =
    (h.messages, no_more format bytes end at h.messages h.stand none.1, appends_more old mid new h.front more (lines_of h.messages) h.wrote w (ap (λ (x : List ℕ). h.front ++ x) none.0 ∙ h.lines))

-- ---- the first frame

-- a message whose frame the bytes begin with is what decoding them returns
message_stands : (format : Format) (bytes : List ℕ) (end : ℕ) (m : Message) → StandBefore format bytes end (m ∷ []) → IsAnswer (grammar format) bytes (Ok (parts m, length (encoded m)))
message_stands format bytes end m s =
    let same = sym (encoded_in format m s.legal.0) in
    record { message = s.legal.0; rest = s.rest; front = s.front ∙ ap (λ (x : List ℕ). x ++ s.rest) (one_frame m ∙ same); length_is = ap length same }

-- a fault that decoding returns is no message
no_fault : (f : WireFault) (x : Parts × ℕ) → (f ≡ wire.Memory → ⊥) → Answers (Err f) (λ b. b ≡ Ok x) → ⊥
no_fault wire.Memory x ne h = ne refl
no_fault wire.Short x ne h = cc
no_fault wire.BadLength x ne h = cc
no_fault wire.UnknownKind x ne h = cc
no_fault (wire.BadField offset) x ne h = cc
no_fault wire.TrailingBytes x ne h = cc

pub none_stands : (format : Format) (bytes : List ℕ) (end : ℕ) (f : WireFault) → (f ≡ wire.Memory → ⊥) → ((a : Result (Parts × ℕ) WireFault) → IsAnswer (grammar format) bytes a → Answers (Err f) (λ b. b ≡ a))
    → (m : Message) → StandBefore format bytes end (m ∷ []) → ⊥
none_stands format bytes end f ne only m s = no_fault f (parts m, length (encoded m)) ne (only (Ok (parts m, length (encoded m))) (message_stands format bytes end m s))

same_used : (x y : Parts × ℕ) → ◌≡◌ {A = Result (Parts × ℕ) WireFault} (Ok x) (Ok y) → x.1 ≡ y.1
same_used x y e =
    let same : x ≡ y = cc in
    ap (λ (p : Parts × ℕ). p.1) same

-- where the frame with which the bytes begin ends after the place, they begin with no message that ends before it
pub too_long : (format : Format) (bytes : List ℕ) (end : ℕ) (d : Decoded) → end < d.used → ((a : Result (Parts × ℕ) WireFault) → IsAnswer (grammar format) bytes a → Answers (Ok d) (λ b. b ≡ a))
    → (m : Message) → StandBefore format bytes end (m ∷ []) → ⊥
too_long format bytes end d long only m s =
    let used : d.used ≡ length (encoded m) = same_used (parts d.message, d.used) (parts m, length (encoded m)) (only (Ok (parts m, length (encoded m))) (message_stands format bytes end m s)) in
    absurd (omega (arith, s.ends, one_length m))

-- where it ends before the place, they begin with its message
pub it_stands : (format : Format) (bytes : List ℕ) (end : ℕ) (d : Decoded) (old new : List ℕ) → IsAnswer (grammar format) bytes (Ok (parts d.message, d.used)) → d.used ≤ end → new ≡ old ++ line_of d.message
    → AppendsNext format bytes end old new (Some d.used)
it_stands format bytes end d old new a within lines = (
  d.message,
  record {
    legal = (a.message, tt);
    rest = a.rest;
    front = a.front ∙ ap (λ (x : List ℕ). x ++ a.rest) (encoded_in format d.message a.message ∙ sym (one_frame d.message));
    ends = omega (arith, a.length_is, ap length (encoded_in format d.message a.message), one_length d.message);
  },
  a.length_is ∙ ap length (encoded_in format d.message a.message),
  lines,
)

-- so where the frame's line is appended unless it ends after the place
pub it_ends : (format : Format) (bytes : List ℕ) (end : ℕ) (d : Decoded) (old new : List ℕ) (r : Result (Option ℕ) Memory)
    → (r ≡ Ok None → (end < d.used) × (new ≡ old)) → IfOk r (λ next. IfSome next (λ used. (used ≡ d.used) × (d.used ≤ end) × (new ≡ old ++ line_of d.message)))
    → IsAnswer (grammar format) bytes (Ok (parts d.message, d.used)) → ((a : Result (Parts × ℕ) WireFault) → IsAnswer (grammar format) bytes a → Answers (Ok d) (λ b. b ≡ a))
    → IfOk r (AppendsNext format bytes end old new)
it_ends _ _ _ _ _ _ (Err _) _ _ _ _ = tt
it_ends format bytes end d _ _ (Ok None) late _ _ only = ((late refl).1, too_long format bytes end d (late refl).0 only)
it_ends format bytes end d old new (Ok (Some _)) _ line a _ = subst (λ used. AppendsNext format bytes end old new (Some used)) (sym line.0) (it_stands format bytes end d old new a line.1 line.2)

-- ---- the format that the head names

-- a head with which the bytes begin is what decoding them returns
head_answers : (bytes : List ℕ) (format : Format) (h : HasHead bytes format) → IsAnswer (grammar One) bytes (Ok (parts (TraceHead (number_of format) h.clients), length (encoded (TraceHead (number_of format) h.clients))))
head_answers bytes format h =
    let m = TraceHead (number_of format) h.clients in
    let legal : IsMessage (grammar One) (parts m) = (number_fits format, (h.few, tt)) in
    let same = sym (encoded_in One m legal) in
    record { message = legal; rest = h.rest; front = h.front ∙ ap (λ (x : List ℕ). x ++ h.rest) same; length_is = ap length same }
  where
    number_fits : (f : Format) → number_of f < 65536
    number_fits One = omega arith
    number_fits Two = omega arith

no_head : (bytes : List ℕ) (r : Result Decoded WireFault) → ((a : Result (Parts × ℕ) WireFault) → IsAnswer (grammar One) bytes a → Answers r (λ b. b ≡ a))
    → ((m : Message) (d : Decoded) → r ≡ Ok d → m ≡ d.message → named m ≡ None) → (r ≡ Err wire.Memory → ⊥) → (other : Format) → HasHead bytes other → ⊥
no_head bytes (Ok d) only none memory other h =
    let m = TraceHead (number_of other) h.clients in
    let same : Ok (parts d.message, d.used) ≡ Ok (parts m, length (encoded m)) = only _ (head_answers bytes other h) in
    let pair : (parts d.message, d.used) ≡ (parts m, length (encoded m)) = cc in
    let message : d.message ≡ m = parts-same d.message m (ap (λ (p : Parts × ℕ). p.0) pair) in
    let names : named m ≡ None = none m d refl (sym message) in
    let number = number_again other in
    absurd cc
no_head bytes (Err f) only none memory other h =
    let m = TraceHead (number_of other) h.clients in
    no_fault f (parts m, length (encoded m)) (λ e. memory (ap (λ (x : WireFault). Err x) e)) (only _ (head_answers bytes other h))

-- a message that names a format is the head
head_is : (bytes : List ℕ) (m : Message) (used : ℕ) (format : Format) → IsAnswer (grammar One) bytes (Ok (parts m, used)) → named m ≡ Some format → HasHead bytes format
head_is bytes (TraceHead number clients) used format a names =
    let m = TraceHead number clients in
    let is : number ≡ number_of format = number_is number format names in
    record {
      clients = clients;
      few = a.message.1.0;
      rest = a.rest;
      front = a.front ∙ ap (λ (x : List ℕ). x ++ a.rest) (encoded_in One m a.message ∙ ap (λ (n : ℕ). encoded (TraceHead n clients)) is);
    }
head_is bytes m used format a names = absurd cc

-- the format, from what decoding returned
pub read_in : (bytes : List ℕ) (d : Decoded) (o : Option Format) → IsAnswer (grammar One) bytes (Ok (parts d.message, d.used)) → ((a : Result (Parts × ℕ) WireFault) → IsAnswer (grammar One) bytes a → Answers (Ok d) (λ b. b ≡ a))
    → o ≡ named d.message → AreReadIn bytes (unwrap_or o One)
read_in bytes d (Some format) a only is = inl (head_is bytes d.message d.used format a (sym is))
read_in bytes d None a only is =
    inr (refl, no_head bytes (Ok d) only (λ m e same message. let one : d ≡ e = cc in ap named (message ∙ ap (λ (x : Decoded). x.message) (sym one)) ∙ sym is) (λ q. cc))

pub read_in_one : (bytes : List ℕ) (f : WireFault) → (f ≡ wire.Memory → ⊥) → ((a : Result (Parts × ℕ) WireFault) → IsAnswer (grammar One) bytes a → Answers (Err f) (λ b. b ≡ a)) → AreReadIn bytes One
read_in_one bytes f memory only = inr (refl, no_head bytes (Err f) only (λ m d e. absurd cc) (λ e. let same : f ≡ wire.Memory = cc in memory same))
