-- Sessions that continue: more messages, with more calls.
use Rattle.std.proofs.Common.{◌≡◌, suc, length, Bool, true, false, ◌||◌, if◌then◌else◌, List, [], ◌∷◌, ◌++◌, MatchBool, refl, sym, ap, subst, ◌∙◌}
use Rattle.std.proofs.Math.Bool.{or-false}
use Rattle.std.proofs.lemmas.List.{append-nil}
use Rattle.std.specs.List.{list_any}
use Rattle.cops_types.specs.declared.format.Format.{Format}
use Rattle.cops_wire.specs.declared.message.Message.{Message}
use Rattle.cops_wire.specs.declared.message.Message.TheVariants as message
use Rattle.cops_net.specs.declared.reply.Call.{Call}
use Rattle.cops_net.specs.Protocol.{phase, IsLegalIn, seq_of, is_handed, own_reply, Hands, reported, welcomes, HasFirst, from_first, AreCallsOf, AreSpoken, replies}
use Rattle.cops_net.specs.Sessions.{is_bye}

or_assoc : (a b c : Bool) → ((a || b) || c) ≡ (a || (b || c))
or_assoc true b c = refl
or_assoc false b c = refl

pub calls-append : (format : Format) (greeted : Bool) (ms others : List Message) (calls more : List Call) → AreCallsOf format greeted ms calls
    → AreCallsOf format (greeted || list_any welcomes calls) others more → AreCallsOf format greeted (ms ++ others) (calls ++ more)
calls-append format greeted [] others calls more h k =
    let here : calls ≡ [] = h in
    let same : (greeted || list_any welcomes calls) ≡ greeted = ap (λ (cs : List Call). greeted || list_any welcomes cs) here ∙ or-false greeted in
    subst (λ (cs : List Call). AreCallsOf format greeted others (cs ++ more)) (sym here) (subst (λ (b : Bool). AreCallsOf format b others more) same k)
calls-append format greeted (m ∷ ms) others calls more h k = go (λ b cs x y. calls-append format b ms others cs more x y) (is_handed format greeted m) calls h k
  where
    go : ((b : Bool) (cs : List Call) → AreCallsOf format b ms cs → AreCallsOf format (b || list_any welcomes cs) others more → AreCallsOf format b (ms ++ others) (cs ++ more))
        → (handed : Bool) → (cs : List Call)
        → MatchBool handed (HasFirst cs (λ c rest. Hands m c × AreCallsOf format (greeted || welcomes c) ms rest)) (AreCallsOf format greeted ms cs)
        → AreCallsOf format (greeted || list_any welcomes cs) others more
        → MatchBool handed (HasFirst (cs ++ more) (λ c rest. Hands m c × AreCallsOf format (greeted || welcomes c) (ms ++ others) rest)) (AreCallsOf format greeted (ms ++ others) (cs ++ more))
    go again true [] h k = absurd h
    go again true (c ∷ cs) h k = (
      h.0,
      again (greeted || welcomes c) cs h.1 (subst (λ (b : Bool). AreCallsOf format b others more) (sym (or_assoc greeted (welcomes c) (list_any welcomes cs))) k),
    )
    go again false cs h k = again greeted cs h k

pub replies-append : (format : Format) (greeted : Bool) (ms others : List Message) (calls more : List Call) → AreCallsOf format greeted ms calls
    → replies format greeted (ms ++ others) (calls ++ more) ≡ replies format greeted ms calls ++ replies format (greeted || list_any welcomes calls) others more
replies-append format greeted [] others calls more h =
    let here : calls ≡ [] = h in
    let same : greeted ≡ (greeted || list_any welcomes calls) = sym (ap (λ (cs : List Call). greeted || list_any welcomes cs) here ∙ or-false greeted) in
    ap (λ (cs : List Call). replies format greeted others (cs ++ more)) here ∙ ap (λ (b : Bool). replies format b others more) same
replies-append format greeted (m ∷ ms) others calls more h = go (λ b cs x. replies-append format b ms others cs more x) (is_handed format greeted m) calls h
  where
    from : Bool → List Message → List Call → List Message
    from handed rest cs =
        if handed then from_first cs (λ c later. reported (seq_of m) c ∷ replies format (greeted || welcomes c) rest later) else own_reply greeted m ∷ replies format greeted rest cs

    go : ((b : Bool) (cs : List Call) → AreCallsOf format b ms cs → replies format b (ms ++ others) (cs ++ more) ≡ replies format b ms cs ++ replies format (b || list_any welcomes cs) others more)
        → (handed : Bool) → (cs : List Call)
        → MatchBool handed (HasFirst cs (λ c rest. Hands m c × AreCallsOf format (greeted || welcomes c) ms rest)) (AreCallsOf format greeted ms cs)
        → from handed (ms ++ others) (cs ++ more) ≡ from handed ms cs ++ replies format (greeted || list_any welcomes cs) others more
    go again true [] h = absurd h
    go again true (c ∷ cs) h =
        ap (λ (rs : List Message). reported (seq_of m) c ∷ rs)
        (again (greeted || welcomes c) cs h.1
        ∙ ap (λ (b : Bool). replies format (greeted || welcomes c) ms cs ++ replies format b others more) (or_assoc greeted (welcomes c) (list_any welcomes cs)))
    go again false cs h = ap (λ (rs : List Message). own_reply greeted m ∷ rs) (again greeted cs h)

-- appending messages that are each legal in the format in which they are read
pub spoken-append : (format : Format) (greeted : Bool) (ms others : List Message) (calls more : List Call) → AreCallsOf format greeted ms calls → AreSpoken format greeted ms calls
    → AreSpoken format (greeted || list_any welcomes calls) others more → AreSpoken format greeted (ms ++ others) (calls ++ more)
spoken-append format greeted [] others calls more h s k =
    let here : calls ≡ [] = h in
    let same : (greeted || list_any welcomes calls) ≡ greeted = ap (λ (cs : List Call). greeted || list_any welcomes cs) here ∙ or-false greeted in
    subst (λ (cs : List Call). AreSpoken format greeted others (cs ++ more)) (sym here) (subst (λ (b : Bool). AreSpoken format b others more) same k)
spoken-append format greeted (m ∷ ms) others calls more h s k = (s.0, go (λ b cs x y z. spoken-append format b ms others cs more x y z) (is_handed format greeted m) calls h s.1 k)
  where
    go : ((b : Bool) (cs : List Call) → AreCallsOf format b ms cs → AreSpoken format b ms cs → AreSpoken format (b || list_any welcomes cs) others more → AreSpoken format b (ms ++ others) (cs ++ more))
        → (handed : Bool) → (cs : List Call)
        → MatchBool handed (HasFirst cs (λ c rest. Hands m c × AreCallsOf format (greeted || welcomes c) ms rest)) (AreCallsOf format greeted ms cs)
        → MatchBool handed (HasFirst cs (λ c rest. AreSpoken format (greeted || welcomes c) ms rest)) (AreSpoken format greeted ms cs)
        → AreSpoken format (greeted || list_any welcomes cs) others more
        → MatchBool handed (HasFirst (cs ++ more) (λ c rest. AreSpoken format (greeted || welcomes c) (ms ++ others) rest)) (AreSpoken format greeted (ms ++ others) (cs ++ more))
    go again true [] h s k = absurd h
    go again true (c ∷ cs) h s k =
        again (greeted || welcomes c) cs h.1 s (subst (λ (b : Bool). AreSpoken format b others more) (sym (or_assoc greeted (welcomes c) (list_any welcomes cs))) k)
    go again false cs h s k = again greeted cs h s k

-- a single message that is legal in its format
pub spoken_one : (format : Format) (greeted : Bool) (m : Message) (calls : List Call) → IsLegalIn (phase format greeted) m → AreCallsOf format greeted (m ∷ []) calls
    → AreSpoken format greeted (m ∷ []) calls
spoken_one format greeted m calls legal h = (legal, go (is_handed format greeted m) calls h)
  where
    go : (handed : Bool) → (cs : List Call)
        → MatchBool handed (HasFirst cs (λ c rest. Hands m c × AreCallsOf format (greeted || welcomes c) [] rest)) (AreCallsOf format greeted [] cs)
        → MatchBool handed (HasFirst cs (λ c rest. AreSpoken format (greeted || welcomes c) [] rest)) (AreSpoken format greeted [] cs)
    go true [] h = absurd h
    go true (c ∷ cs) h = tt
    go false cs h = tt

-- calls after those of the messages do not change the replies
pub replies_ignore : (format : Format) (greeted : Bool) (ms : List Message) (calls more : List Call) → AreCallsOf format greeted ms calls → replies format greeted ms (calls ++ more) ≡ replies format greeted ms calls
replies_ignore format greeted ms calls more h =
    ap (λ (x : List Message). replies format greeted x (calls ++ more)) (sym (append-nil ms)) ∙ replies-append format greeted ms [] calls more h ∙ append-nil (replies format greeted ms calls)

pub bye_only : (m : Message) → is_bye m ≡ true → m ≡ message.Bye
bye_only message.Bye e = refl
bye_only _ e = absurd cc

pub one_reply : (format : Format) (greeted : Bool) (ms : List Message) (calls : List Call) → AreCallsOf format greeted ms calls → length (replies format greeted ms calls) ≡ length ms
one_reply format greeted [] calls h = refl
one_reply format greeted (m ∷ ms) calls h = go (λ b cs x. one_reply format b ms cs x) (is_handed format greeted m) calls h
  where
    from : Bool → List Call → List Message
    from handed cs = if handed then from_first cs (λ c later. reported (seq_of m) c ∷ replies format (greeted || welcomes c) ms later) else own_reply greeted m ∷ replies format greeted ms cs

    go : ((b : Bool) (cs : List Call) → AreCallsOf format b ms cs → length (replies format b ms cs) ≡ length ms) → (handed : Bool) → (cs : List Call)
        → MatchBool handed (HasFirst cs (λ c rest. Hands m c × AreCallsOf format (greeted || welcomes c) ms rest)) (AreCallsOf format greeted ms cs)
        → length (from handed cs) ≡ suc (length ms)
    go again true [] h = absurd h
    go again true (c ∷ cs) h = ap suc (again (greeted || welcomes c) cs h.1)
    go again false cs h = ap suc (again greeted cs h)
