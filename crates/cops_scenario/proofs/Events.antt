-- JSON that is no event of one kind is no event with that kind's name; likewise the operations of a script.
use Rattle.std.proofs.Common.{◌≡◌, ◌≤◌, ◌∙◌, ℕ, List, [], ◌∷◌, ap, arith, get_or, length, sym}
use Rattle.std.specs.Prelude.{◌≢◌, codes, Some}
use Rattle.serde_json.specs.Data.{Data}
use Rattle.cops_types.specs.declared.format.Format.{Format}
use Rattle.cops_types.specs.KeyValue.{IsKey}
use Rattle.cops_types.specs.Format.{Fits}
use Rattle.cops_types.specs.Texts.{version_text}
use Rattle.cops_types.specs.Version.{IsVersion}
use Rattle.cops_core.specs.declared.event.Event.{Event}
use Rattle.cops_core.specs.declared.event.Event.TheVariants.{Put, Del, Get, Deliver, Ask, Mark, Settle}
use Rattle.cops_scenario.specs.declared.script.ScriptOp.{ScriptOp}
use Rattle.cops_scenario.specs.declared.script.ScriptOp.TheVariants as script
use Rattle.cops_json.specs.Json.{number_json, text_json}
use Rattle.cops_scenario.specs.File.{event_json, kind_of, list_json, one_json, op_json, parts_of}
use Rattle.cops_scenario.specs.Limits.{IsLegalEvent, IsLegalOp}
use Rattle.cops_scenario.proofs.Forms.{same_list, same_one}

-- the name and the parts in an event's JSON are those of the event
pub same_event : (json of : Data) (name : List ℕ) (parts : List Data) (e : Event) → json ≡ one_json name of → of ≡ list_json parts → json ≡ event_json e → (name ≡ kind_of e) × (parts ≡ parts_of e)
same_event json of name parts e named listed reported =
    let same = same_one name (kind_of e) of (list_json (parts_of e)) (sym named ∙ reported) in
    (same.0, same_list parts (parts_of e) (sym listed ∙ same.1))

other_name : {a b : List ℕ} → a ≡ b → get_or a 0 0 ≢ get_or b 0 0 → ⊥
other_name e h = h (ap (λ n. get_or n 0 0) e)

other_length : {a b : List ℕ} → a ≡ b → length a ≢ length b → ⊥
other_length e h = h (ap length e)

pub no_put : (format : Format) (parts : List Data) → ((c : ℕ) (k v : List ℕ) → c ≤ 65535 → IsKey k → Fits format (Some v) → parts ≢ number_json c ∷ text_json k ∷ text_json v ∷ [])
    → (e : Event) → IsLegalEvent format e → codes "put" ≡ kind_of e → parts ≢ parts_of e
no_put format parts reported (Put c k v) legal name e = reported c k v legal.0 legal.1 legal.2 e
no_put format parts reported _ legal name e = other_name name (omega arith)

pub no_del : (parts : List Data) → ((c : ℕ) (k : List ℕ) → c ≤ 65535 → IsKey k → parts ≢ number_json c ∷ text_json k ∷ [])
    → (format : Format) (e : Event) → IsLegalEvent format e → codes "del" ≡ kind_of e → parts ≢ parts_of e
no_del parts reported format (Del c k) legal name e = reported c k legal.0 legal.1 e
no_del parts reported format (Deliver d v) legal name e = other_length name (omega arith)
no_del parts reported format _ legal name e = other_name name (omega arith)

pub no_get : (parts : List Data) → ((c : ℕ) (k : List ℕ) → c ≤ 65535 → IsKey k → parts ≢ number_json c ∷ text_json k ∷ [])
    → (format : Format) (e : Event) → IsLegalEvent format e → codes "get" ≡ kind_of e → parts ≢ parts_of e
no_get parts reported format (Get c k) legal name e = reported c k legal.0 legal.1 e
no_get parts reported format _ legal name e = other_name name (omega arith)

pub no_deliver : (parts : List Data) → ((d v : ℕ) → d ≤ 255 → IsVersion v → parts ≢ number_json d ∷ text_json (version_text v) ∷ [])
    → (format : Format) (e : Event) → IsLegalEvent format e → codes "deliver" ≡ kind_of e → parts ≢ parts_of e
no_deliver parts reported format (Deliver d v) legal name e = reported d v legal.0 legal.1 e
no_deliver parts reported format (Del c k) legal name e = other_length name (omega arith)
no_deliver parts reported format _ legal name e = other_name name (omega arith)

pub no_ask : (parts : List Data) → ((d : ℕ) (k : List ℕ) (v : ℕ) → d ≤ 255 → IsKey k → IsVersion v → parts ≢ number_json d ∷ text_json k ∷ text_json (version_text v) ∷ [])
    → (format : Format) (e : Event) → IsLegalEvent format e → codes "ask" ≡ kind_of e → parts ≢ parts_of e
no_ask parts reported format (Ask d k v) legal name e = reported d k v legal.0 legal.1 legal.2 e
no_ask parts reported format _ legal name e = other_name name (omega arith)

pub no_mark : (parts : List Data) → ((d v n : ℕ) → d ≤ 255 → IsVersion v → n ≤ 65535 → parts ≢ number_json d ∷ text_json (version_text v) ∷ number_json n ∷ [])
    → (format : Format) (e : Event) → IsLegalEvent format e → codes "mark" ≡ kind_of e → parts ≢ parts_of e
no_mark parts reported format (Mark d v n) legal name e = reported d v n legal.0 legal.1 legal.2 e
no_mark parts reported format _ legal name e = other_name name (omega arith)

pub no_settle : (parts : List Data) → ((d v : ℕ) → d ≤ 255 → IsVersion v → parts ≢ number_json d ∷ text_json (version_text v) ∷ [])
    → (format : Format) (e : Event) → IsLegalEvent format e → codes "settle" ≡ kind_of e → parts ≢ parts_of e
no_settle parts reported format (Settle d v) legal name e = reported d v legal.0 legal.1 e
no_settle parts reported format _ legal name e = other_name name (omega arith)

pub no_pair : (format : Format) (name : List ℕ) (of : Data) → name ≡ codes "put" → ((k v : List ℕ) → IsKey k → Fits format (Some v) → of ≢ list_json (text_json k ∷ text_json v ∷ []))
    → (op : ScriptOp) → IsLegalOp format op → one_json name of ≢ op_json op
no_pair format name of put reported (script.Put k v) legal e = reported k v legal.0 legal.1 (same_one name (codes "put") of (list_json (text_json k ∷ text_json v ∷ [])) e).1
no_pair format name of put reported (script.Get k) legal e = other_name (sym put ∙ (same_one name (codes "get") of (text_json k) e).0) (omega arith)
no_pair format name of put reported (script.Del k) legal e = other_name (sym put ∙ (same_one name (codes "del") of (text_json k) e).0) (omega arith)
