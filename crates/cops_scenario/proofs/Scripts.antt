-- Listed clients without scripts.
use Rattle.std.proofs.Common.{◌≡◌, List, [], ◌∷◌, All, map, refl, sym, ap, ◌∙◌}
use Rattle.std.specs.Prelude.{ℕ, ◌≤◌, length, codes, Option, None, Some, IfSome}
use Rattle.std.proofs.lemmas.List.Elements.{All-map, All-same, All-cons, All-nil, All-head, All-tail}
use Rattle.serde_json.specs.Data.{Data}
use Rattle.serde_json.specs.View.{view, items_view}
use Rattle.serde_json.specs.Find.{as_array, get}
use Rattle.serde_json.specs.declared.value.Value.{Value}
use Rattle.cops_core.specs.declared.event.Event.{Event}
use Rattle.cops_scenario.specs.declared.script.ScriptOp.{ScriptOp}
use Rattle.cops_scenario.specs.declared.script.ScriptedClient.{ScriptedClient}
use Rattle.cops_scenario.specs.File.{AreUnscripted, IsListOrMissing, GiveClients, list_json, op_json}
use Rattle.cops_scenario.specs.Limits.{AreEventsOf}
use Rattle.cops_scenario.proofs.Forms.{same_items}

-- the listed values
same_values : (vs : List Value) (d : Data) (ds : List Data) → Some (items_view vs) ≡ as_array d → d ≡ list_json ds → map view vs ≡ ds
same_values vs d ds seen e = same_items (map view vs) ds (seen ∙ ap as_array e)

-- if none of the values has the member, none of the listed items has it
pub none_has : (k : List ℕ) (vs : List Value) (d : Data) (ds : List Data) → Some (items_view vs) ≡ as_array d → d ≡ list_json ds → All (λ v. get k (view v) ≡ None) vs → All (λ d. get k d ≡ None) ds
none_has k vs d ds seen e h = All-same (λ d. get k d ≡ None) ds (map view vs) (sym (same_values vs d ds seen e)) (All-map (λ d. get k d ≡ None) view vs h)

values_have_none : (k : List ℕ) (vs : List Value) → All (λ d. get k d ≡ None) (map view vs) → All (λ v. get k (view v) ≡ None) vs
values_have_none k [] h = All-nil (λ v. get k (view v) ≡ None)
values_have_none k (v ∷ vs) h =
    let P : Data → Type 0 = λ d. get k d ≡ None in
    All-cons (λ v. get k (view v) ≡ None) v vs (All-head P (view v) (map view vs) h) (values_have_none k vs (All-tail P (view v) (map view vs) h))

-- if not all values lack the member, not all listed items lack it
pub one_has : (k : List ℕ) (vs : List Value) (d : Data) (ds : List Data) → Some (items_view vs) ≡ as_array d → d ≡ list_json ds → (All (λ v. get k (view v) ≡ None) vs → ⊥) → All (λ d. get k d ≡ None) ds → ⊥
one_has k vs d ds seen e some h = some (values_have_none k vs (All-same (λ d. get k d ≡ None) (map view vs) ds (same_values vs d ds seen e) h))

no_ops : (ops : List ScriptOp) (d : Option Data) → d ≡ None → IsListOrMissing (map op_json ops) d → ops ≡ []
no_ops [] d e reported = refl
no_ops (op ∷ ops) None e reported = let no : ⊥ = cc in absurd no
no_ops (op ∷ ops) (Some d) e reported = let no : ⊥ = cc in absurd no

-- a client that is listed without a script has an empty one
pub all_empty : (ds : List Data) (cs : List ScriptedClient) → GiveClients ds cs → All (λ d. get (codes "script") d ≡ None) ds → All (λ c. c.script.items ≡ []) cs
all_empty ds [] reported h = All-nil (λ (c : ScriptedClient). c.script.items ≡ [])
all_empty [] (c ∷ cs) reported h = absurd reported
all_empty (d ∷ ds) (c ∷ cs) reported h =
    let P : Data → Type 0 = λ d. get (codes "script") d ≡ None in
    All-cons (λ (c : ScriptedClient). c.script.items ≡ []) c cs (no_ops c.script.items (get (codes "script") d) (All-head P d ds h) reported.0.script) (all_empty ds cs reported.1 (All-tail P d ds h))

pub are_events : (ds : List Data) (cs : List ScriptedClient) (events : Option (List Event)) → GiveClients ds cs → AreUnscripted ds events → IfSome events (λ es. length es ≤ 100000) → AreEventsOf cs events
are_events ds cs None reported h few = tt
are_events ds cs (Some es) reported h few = (few, all_empty ds cs reported h)
