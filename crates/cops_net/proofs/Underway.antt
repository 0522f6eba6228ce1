-- A session in progress, and what it did when it ends.
use Rattle.std.proofs.Common.{◌≡◌, ℕ, ◌+◌, Bool, true, false, List, [], ◌∷◌, ◌++◌, length, Option, Some, None, Result, Ok, Err, refl, sym, ap, subst, ◌∙◌, append_assoc, arith}
use Rattle.std.specs.List.{list_any}
use Rattle.std.specs.Io.KnownBytes.{Appends, Consumes, IsAtEnd}
use Rattle.std.proofs.lemmas.List.{append-nil, length-append}
use Rattle.cops_wire.specs.declared.message.Message.{Message}
use Rattle.cops_types.specs.declared.format.Format.{Format}
use Rattle.cops_types.proofs.Devices.{consumed, consumed_none, appends_more}
use Rattle.cops_net.specs.declared.fault.NetFault.{NetFault}
use Rattle.cops_net.specs.declared.fault.NetFault.TheVariants.{TurnLimit}
use Rattle.cops_net.specs.declared.reply.Call.{Call}
use Rattle.cops_net.specs.declared.serving.Served.{Served}
use Rattle.cops_net.specs.declared.serving.TheConstants.{MAX_MESSAGES}
use Rattle.cops_net.specs.Protocol.{phase, welcomes}
use Rattle.cops_net.specs.Sessions.{is_bye, StaysOpen, next_format, Answered, Serves}
use Rattle.cops_net.specs.Turns.{IsTaken, IsAnswered}
use Rattle.cops_net.proofs.Going.{begun, goes_on, ends_reading, ends_input, ends_bye, ends_answering, ends_full, stays_open, greeted_on}
use Rattle.cops_net.proofs.Readings.{appends_none}

-- what was taken, called and written since the session began, and the bytes that are not taken yet
pub record Underway (format : Format) (from to : Option (List ℕ)) (old new : List Call) (before after : Option (List ℕ)) (rest : List ℕ) (greeted : Bool) (n : ℕ) : Type 0 where
  pub input : List ℕ
  pub gained : List Call
  pub written : List ℕ
  pub ms : List Message
  pub taken : Consumes from to input
  pub called : new ≡ old ++ gained
  pub appended : Appends before after written
  pub answered : Answered format ms input gained written rest
  pub stays : StaysOpen ms
  pub greets : greeted ≡ list_any welcomes gained
  pub count : n ≡ length ms

pub starts : {rest : List ℕ} (format : Format) (from : Option (List ℕ)) (old : List Call) (before : Option (List ℕ)) → rest ≡ [] → Underway format from from old old before before rest false 0
starts format from old before none = record {
  input = [];
  gained = [];
  written = [];
  ms = [];
  taken = consumed_none from;
  called = sym (append-nil old);
  appended = appends_none before;
  answered = subst (λ (x : List ℕ). Answered format [] [] [] [] x) (sym none) (begun format);
  stays = refl;
  greets = refl;
  count = refl;
}

-- what a session did, by its result
abbrev pub HasServedFrom : Format → Option (List ℕ) → Option (List ℕ) → List Call → List Call → Option (List ℕ) → Option (List ℕ) → Result Served NetFault → Type 0
HasServedFrom format from to old new before after result =
    (input : List ℕ) × (gained : List Call) × (written : List ℕ)
    × Consumes from to input × (new ≡ old ++ gained) × Appends before after written
    × Serves format (IsAtEnd to) input gained written result

-- what came after the bytes that are not taken yet
abbrev pub Next : Format → Option (List ℕ) → Option (List ℕ) → List ℕ → Result (Option Message) NetFault → List ℕ → Type 0
Next format from to rest result left = (came : List ℕ) × Consumes from to came × IsTaken format (IsAtEnd to) (rest ++ came) result left

-- what answering a message did
abbrev pub Turned : Format → List Call → List Call → Option (List ℕ) → Option (List ℕ) → Bool → Message → Result Bool NetFault → Type 0
Turned format old new before after greeted m result = (gained : List Call) × (written : List ℕ) × (new ≡ old ++ gained) × Appends before after written × IsAnswered format greeted m gained written result

module _ {format : Format} {from mid : Option (List ℕ)} {old new : List Call} {before after : Option (List ℕ)} {rest : List ℕ} {greeted : Bool} {n : ℕ} (u : Underway format from mid old new before after rest greeted n)
    {same read : Format} (is_same : same ≡ format) (is_read : read ≡ phase same greeted) (to : Option (List ℕ)) (left : List ℕ) where
  -- bytes came, and nothing else happened
  read_on : (came : List ℕ) (result : Result Served NetFault) → Consumes mid to came → Serves format (IsAtEnd to) (u.input ++ came) u.gained u.written result → HasServedFrom format from to old new before after result
  read_on came result took serves = (u.input ++ came, u.gained, u.written, consumed from mid to u.input came u.taken took, u.called, u.appended, serves)

  -- the message is read in the format that follows from the calls so far
  taken_here : (came : List ℕ) (result : Result (Option Message) NetFault) → IsTaken read (IsAtEnd to) (rest ++ came) result left
      → IsTaken (next_format format u.gained) (IsAtEnd to) (rest ++ came) result left
  taken_here came result t = subst (λ (f : Format). IsTaken f (IsAtEnd to) (rest ++ came) result left) (is_read ∙ ap (λ (f : Format). phase f greeted) is_same ∙ ap (λ (b : Bool). phase format b) u.greets) t

  pub fails_reading : (e : NetFault) → Next read mid to rest (Err e) left → HasServedFrom format from to old new before after (Err e)
  fails_reading e next = read_on next.0 (Err e) next.1 (ends_reading format (IsAtEnd to) u.ms u.input u.gained u.written rest next.0 left e u.stays u.answered (taken_here next.0 (Err e) next.2))

  pub ends_there : (answered : ℕ) → answered ≡ n → Next read mid to rest (Ok None) left → HasServedFrom format from to old new before after (Ok (record { answered = answered }))
  ends_there answered same next =
      read_on next.0 (Ok (record { answered = answered })) next.1
      (ends_input format (IsAtEnd to) u.ms u.input u.gained u.written rest next.0 left answered u.stays u.answered (same ∙ u.count) (taken_here next.0 (Ok None) next.2))

  pub is_full : (m : Message) → n ≡ MAX_MESSAGES → Next read mid to rest (Ok (Some m)) left → HasServedFrom format from to old new before after (Err TurnLimit)
  is_full m full next = read_on next.0 (Err TurnLimit) next.1 (ends_full format (IsAtEnd to) u.ms u.input u.gained u.written rest m next.0 left u.stays u.answered (sym u.count ∙ full) (taken_here next.0 (Ok (Some m)) next.2))

  -- a message came, and was answered
  module _ (m : Message) (next : Next read mid to rest (Ok (Some m)) left) (later : List Call) (wrote : Option (List ℕ)) where
    more_calls : (calls : List Call) → later ≡ new ++ calls → later ≡ old ++ (u.gained ++ calls)
    more_calls calls e = e ∙ ap (λ (x : List Call). x ++ calls) u.called ∙ append_assoc old u.gained calls

    answered_here : (calls : List Call) (out : List ℕ) (r : Result Bool NetFault) → IsAnswered format greeted m calls out r → IsAnswered format (list_any welcomes u.gained) m calls out r
    answered_here calls out r a = subst (λ (b : Bool). IsAnswered format b m calls out r) u.greets a

    turned_on : (r : Result Bool NetFault) (t : Turned format new later after wrote greeted m r) (result : Result Served NetFault)
        → Serves format (IsAtEnd to) (u.input ++ next.0) (u.gained ++ t.0) (u.written ++ t.1) result → HasServedFrom format from to old later before wrote result
    turned_on r t result serves = (
      u.input ++ next.0,
      u.gained ++ t.0,
      u.written ++ t.1,
      consumed from mid to u.input next.0 u.taken next.1,
      more_calls t.0 t.2,
      appends_more before after wrote u.written t.1 _ u.appended t.3 refl,
      serves,
    )

    pub fails_answering : (e : NetFault) → Turned format new later after wrote greeted m (Err e) → HasServedFrom format from to old later before wrote (Err e)
    fails_answering e t =
        turned_on (Err e) t (Err e)
        (ends_answering format (IsAtEnd to) u.ms u.input u.gained u.written rest m next.0 left t.0 t.1 e u.stays u.answered (taken_here next.0 (Ok (Some m)) next.2).0 next.2.1 (answered_here t.0 t.1 (Err e) t.4))

    pub says_bye : (now : Bool) → Turned format new later after wrote greeted m (Ok now) → is_bye m ≡ true → HasServedFrom format from to old later before wrote (Ok (record { answered = n + 1 }))
    says_bye now t bye =
        turned_on (Ok now) t (Ok (record { answered = n + 1 }))
        (ends_bye format (IsAtEnd to) u.ms u.input u.gained u.written rest m next.0 left t.0 t.1 now n u.stays u.answered u.count (taken_here next.0 (Ok (Some m)) next.2).0 next.2.1 (answered_here t.0 t.1 (Ok now) t.4) bye)

    pub goes_further : (now : Bool) → Turned format new later after wrote greeted m (Ok now) → is_bye m ≡ false → Underway format from to old later before wrote left now (n + 1)
    goes_further now t bye =
        let a = answered_here t.0 t.1 (Ok now) t.4 in
        record {
          input = u.input ++ next.0;
          gained = u.gained ++ t.0;
          written = u.written ++ t.1;
          ms = u.ms ++ m ∷ [];
          taken = consumed from mid to u.input next.0 u.taken next.1;
          called = more_calls t.0 t.2;
          appended = appends_more before after wrote u.written t.1 _ u.appended t.3 refl;
          answered =
              subst (λ (x : List ℕ). Answered format (u.ms ++ m ∷ []) (u.input ++ next.0) (u.gained ++ t.0) (u.written ++ x) left) (sym a.2)
              (goes_on format u.ms u.input u.gained u.written rest m next.0 left t.0 a.0 u.answered (taken_here next.0 (Ok (Some m)) next.2).0 next.2.1 a.1);
          stays = stays_open u.ms m u.stays bye;
          greets = a.3 ∙ greeted_on u.gained t.0;
          count = omega (arith, u.count, length-append u.ms (m ∷ []));
        }
