-- A session from message to message, and its ends.
use Rattle.std.proofs.Common.{◌≡◌, ◌≢◌, ℕ, ◌+◌, Bool, true, false, ◌||◌, List, [], ◌∷◌, ◌++◌, length, take, drop, Some, None, Result, Ok, Err, refl, sym, ap, subst, ◌∙◌, append_assoc, inl, inr, arith}
use Rattle.std.specs.Prelude.{◌⊎◌, All}
use Rattle.std.specs.List.{list_any}
use Rattle.std.specs.Result.{result_or}
use Rattle.std.proofs.lemmas.List.{append-nil, length-append, take-append-drop, length-drop}
use Rattle.std.proofs.lemmas.List.Elements.{All-nil, All-push}
use Rattle.std.proofs.lemmas.List.Folds.{list_any-append}
use Rattle.std.proofs.lemmas.Grind.{flat_map-append}
use Rattle.cops_types.specs.declared.format.Format.{Format}
use Rattle.cops_wire.specs.declared.message.Message.{Message}
use Rattle.cops_net.specs.declared.fault.NetFault.{NetFault}
use Rattle.cops_net.specs.declared.fault.NetFault.TheVariants.{Memory, Wire, ReadFailed, WriteFailed, TurnLimit}
use Rattle.cops_net.specs.declared.reply.Call.{Call}
use Rattle.cops_net.specs.declared.serving.TheConstants.{MAX_MESSAGES}
use Rattle.cops_net.specs.Protocol.{IsLegalIn, AreCallsOf, replies, welcomes}
use Rattle.cops_wire.specs.Message.{encoded}
use Rattle.cops_net.specs.Sessions.{text, is_bye, StaysOpen, next_format, Answered, BrokeOff, Serves}
use Rattle.cops_net.specs.Turns.{IsTurn, IsTaken, IsAnswered}
use Rattle.cops_net.proofs.Lists.{calls-append, spoken-append, spoken_one, replies-append, replies_ignore, bye_only}

one_more : (ms : List Message) (m : Message) → text (ms ++ m ∷ []) ≡ text ms ++ encoded m
one_more ms m = flat_map-append encoded ms (m ∷ []) ∙ ap (λ (x : List ℕ). text ms ++ x) (append-nil (encoded m))

-- before anything was taken
pub begun : (format : Format) → Answered format [] [] [] [] []
begun format = record { legal = tt; read = refl; called = refl; reported = refl; reported_legal = All-nil (IsLegalIn format) }

-- more bytes came, and no message was taken
pub more_came : (format : Format) (ms : List Message) (input : List ℕ) (calls : List Call) (written rest more : List ℕ) → Answered format ms input calls written rest
    → Answered format ms (input ++ more) calls written (rest ++ more)
more_came format ms input calls written rest more a = record {
  legal = a.legal;
  read = ap (λ (x : List ℕ). x ++ more) a.read ∙ append_assoc (text ms) rest more;
  called = a.called;
  reported = a.reported;
  reported_legal = a.reported_legal;
}

read_one : (ms : List Message) (m : Message) (input rest more left : List ℕ) → input ≡ text ms ++ rest → rest ++ more ≡ encoded m ++ left
    → input ++ more ≡ text (ms ++ m ∷ []) ++ left
read_one ms m input rest more left e k =
    ap (λ (x : List ℕ). x ++ more) e ∙ append_assoc (text ms) rest more ∙ ap (λ (x : List ℕ). text ms ++ x) k
    ∙ sym (append_assoc (text ms) (encoded m) left) ∙ ap (λ (x : List ℕ). x ++ left) (sym (one_more ms m))

replied_one : (format : Format) (ms : List Message) (m : Message) (calls gained : List Call) (reply : Message) → AreCallsOf format false ms calls → IsTurn format (list_any welcomes calls) m gained reply
    → replies format false (ms ++ m ∷ []) (calls ++ gained) ≡ replies format false ms calls ++ reply ∷ []
replied_one format ms m calls gained reply h t = replies-append format false ms (m ∷ []) calls gained h ∙ ap (λ (x : List Message). replies format false ms calls ++ x) t.reply_is

one_more_legal : (format : Format) (ms : List Message) (m : Message) (calls gained : List Call) (reply : Message) → AreCallsOf format false ms calls
    → IsTurn format (list_any welcomes calls) m gained reply → All (IsLegalIn format) (replies format false ms calls) → All (IsLegalIn format) (replies format false (ms ++ m ∷ []) (calls ++ gained))
one_more_legal format ms m calls gained reply h t all =
    subst (λ (rs : List Message). All (IsLegalIn format) rs) (sym (replied_one format ms m calls gained reply h t))
    (All-push (IsLegalIn format) (replies format false ms calls) reply all t.reply_legal)

-- a message was taken and answered
pub goes_on : (format : Format) (ms : List Message) (input : List ℕ) (calls : List Call) (written rest : List ℕ) (m : Message) (more left : List ℕ) (gained : List Call) (reply : Message)
    → Answered format ms input calls written rest → IsLegalIn (next_format format calls) m → rest ++ more ≡ encoded m ++ left → IsTurn format (list_any welcomes calls) m gained reply
    → Answered format (ms ++ m ∷ []) (input ++ more) (calls ++ gained) (written ++ encoded reply) left
goes_on format ms input calls written rest m more left gained reply a l k t = record {
  legal = spoken-append format false ms (m ∷ []) calls gained a.called a.legal (spoken_one format (list_any welcomes calls) m gained l t.called);
  read = read_one ms m input rest more left a.read k;
  called = calls-append format false ms (m ∷ []) calls gained a.called t.called;
  reported =
      ap (λ (x : List ℕ). x ++ encoded reply) a.reported ∙ sym (one_more (replies format false ms calls) reply)
      ∙ ap text (sym (replied_one format ms m calls gained reply a.called t));
  reported_legal = one_more_legal format ms m calls gained reply a.called t a.reported_legal;
}

-- a message was taken and handed over, and its reply was not written completely
pub breaks_off : (format : Format) (ms : List Message) (input : List ℕ) (calls : List Call) (written rest : List ℕ) (m : Message) (more left : List ℕ) (gained : List Call) (reply : Message) (part missing : List ℕ)
    → Answered format ms input calls written rest → IsLegalIn (next_format format calls) m → rest ++ more ≡ encoded m ++ left → IsTurn format (list_any welcomes calls) m gained reply
    → encoded reply ≡ part ++ missing → missing ≢ []
    → BrokeOff format ms m (input ++ more) (calls ++ gained) (written ++ part) left
breaks_off format ms input calls written rest m more left gained reply part missing a l k t parts_are some = record {
  legal = spoken-append format false ms (m ∷ []) calls gained a.called a.legal (spoken_one format (list_any welcomes calls) m gained l t.called);
  read = read_one ms m input rest more left a.read k;
  called = calls-append format false ms (m ∷ []) calls gained a.called t.called;
  reply = reply;
  last_reply = replied_one format ms m calls gained reply a.called t ∙ ap (λ (x : List Message). x ++ reply ∷ []) (sym (replies_ignore format false ms calls gained a.called));
  part = part;
  missing = missing;
  parts_are = parts_are;
  some_missing = some;
  reported = ap (λ (x : List ℕ). x ++ part) (a.reported ∙ ap text (sym (replies_ignore format false ms calls gained a.called)));
  reported_legal = one_more_legal format ms m calls gained reply a.called t a.reported_legal;
}

-- ---- the ends of a session

-- no message was taken because of a fault
pub ends_reading : (format : Format) (P : Type 0) (ms : List Message) (input : List ℕ) (calls : List Call) (written rest more left : List ℕ) (e : NetFault)
    → StaysOpen ms → Answered format ms input calls written rest → IsTaken (next_format format calls) P (rest ++ more) (Err e) left → Serves format P (input ++ more) calls written (Err e)
ends_reading format P ms input calls written rest more left Memory stays a t = (ms, rest ++ more, stays, inl (more_came format ms input calls written rest more a))
ends_reading format P ms input calls written rest more left (Wire fault) stays a t = (ms, rest ++ more, stays, more_came format ms input calls written rest more a, t)
ends_reading format P ms input calls written rest more left ReadFailed stays a t = (ms, rest ++ more, stays, more_came format ms input calls written rest more a, t)
ends_reading format P ms input calls written rest more left _ stays a t = absurd t

-- the input ended after a message
pub ends_input : (format : Format) (P : Type 0) (ms : List Message) (input : List ℕ) (calls : List Call) (written rest more left : List ℕ) (n : ℕ)
    → StaysOpen ms → Answered format ms input calls written rest → n ≡ length ms → IsTaken (next_format format calls) P (rest ++ more) (Ok None) left
    → Serves format P (input ++ more) calls written (Ok (record { answered = n }))
ends_input format P ms input calls written rest more left n stays a count t =
    (ms, rest ++ more, more_came format ms input calls written rest more a, count, inr (stays, t.0, t.1))

-- the client said `Bye`
pub ends_bye : (format : Format) (P : Type 0) (ms : List Message) (input : List ℕ) (calls : List Call) (written rest : List ℕ) (m : Message) (more left : List ℕ) (gained : List Call) (out : List ℕ) (after : Bool) (n : ℕ)
    → StaysOpen ms → Answered format ms input calls written rest → n ≡ length ms → IsLegalIn (next_format format calls) m → rest ++ more ≡ encoded m ++ left
    → IsAnswered format (list_any welcomes calls) m gained out (Ok after) → is_bye m ≡ true
    → Serves format P (input ++ more) (calls ++ gained) (written ++ out) (Ok (record { answered = n + 1 }))
ends_bye format P ms input calls written rest m more left gained out after n stays a count l k t bye = (
  ms ++ m ∷ [],
  left,
  subst (λ (x : List ℕ). Answered format (ms ++ m ∷ []) (input ++ more) (calls ++ gained) (written ++ x) left) (sym t.2) (goes_on format ms input calls written rest m more left gained t.0 a l k t.1),
  omega (arith, count, length-append ms (m ∷ [])),
  inl (ms, stays, ap (λ (x : Message). ms ++ x ∷ []) (bye_only m bye)),
)

-- a message got no reply
pub ends_answering : (format : Format) (P : Type 0) (ms : List Message) (input : List ℕ) (calls : List Call) (written rest : List ℕ) (m : Message) (more left : List ℕ) (gained : List Call) (out : List ℕ) (e : NetFault)
    → StaysOpen ms → Answered format ms input calls written rest → IsLegalIn (next_format format calls) m → rest ++ more ≡ encoded m ++ left
    → IsAnswered format (list_any welcomes calls) m gained out (Err e)
    → Serves format P (input ++ more) (calls ++ gained) (written ++ out) (Err e)
ends_answering format P ms input calls written rest m more left gained out Memory stays a l k (none, inl silent) =
    (ms, rest ++ more, stays, inl (rw (none, silent, append-nil calls, append-nil written) (more_came format ms input calls written rest more a)))
ends_answering format P ms input calls written rest m more left gained out Memory stays a l k (none, inr (reply, t, some)) =
    (ms, left, stays, inr (m, rw none (breaks_off format ms input calls written rest m more left gained reply [] (encoded reply) a l k t refl some)))
ends_answering format P ms input calls written rest m more left gained out WriteFailed stays a l k (reply, t, (n, fewer, part)) = (
  ms,
  left,
  stays,
  (
    m,
    rw part (breaks_off format ms input calls written rest m more left gained reply (take n (encoded reply)) (drop n (encoded reply)) a l k t
        (sym (take-append-drop n (encoded reply))) (λ e. absurd (omega (arith, ap length e, length-drop n (encoded reply), fewer)))),
  ),
)
ends_answering format P ms input calls written rest m more left gained out _ stays a l k t = absurd t

-- there was one message more than the limit
pub ends_full : (format : Format) (P : Type 0) (ms : List Message) (input : List ℕ) (calls : List Call) (written rest : List ℕ) (m : Message) (more left : List ℕ)
    → StaysOpen ms → Answered format ms input calls written rest → length ms ≡ MAX_MESSAGES → IsTaken (next_format format calls) P (rest ++ more) (Ok (Some m)) left
    → Serves format P (input ++ more) calls written (Err TurnLimit)
ends_full format P ms input calls written rest m more left stays a count t =
    (ms, left, stays, (m, t.0, subst (λ (x : List ℕ). Answered format ms (input ++ more) calls written x) t.1 (more_came format ms input calls written rest more a)), count)

-- appending a message that does not end the session
pub stays_open : (ms : List Message) (m : Message) → StaysOpen ms → is_bye m ≡ false → StaysOpen (ms ++ m ∷ [])
stays_open ms m stays bye = list_any-append is_bye ms (m ∷ []) ∙ rw (stays, bye) refl

pub greeted_on : (calls gained : List Call) → (list_any welcomes calls || list_any welcomes gained) ≡ list_any welcomes (calls ++ gained)
greeted_on calls gained = sym (list_any-append welcomes calls gained)

-- what holds unless it failed
pub heard_ok : {T E P : Type 0} (x : T) (e : E) → ◌≡◌ {A = Result T E} (Ok x) (Err e) ⊎ P → P
heard_ok x e (inl q) = absurd cc
heard_ok x e (inr p) = p

-- an error is the same in every result type
pub same_error : {T U E : Type 0} (a b : E) → ◌≡◌ {A = Result T E} (Err a) (Err b) → ◌≡◌ {A = Result U E} (Err a) (Err b)
same_error a b q = let e : a ≡ b = cc in ap Err e

-- the error that replaced another
pub put_error : {T E D : Type 0} (r : Result T E) (e y : D) → Err y ≡ result_or r (Err e) → y ≡ e
put_error (Ok x) e y q = absurd cc
put_error (Err x) e y q = cc
