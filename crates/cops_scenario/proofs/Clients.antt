-- Reading the clients of a list, one after the other.
use Rattle.std.proofs.Common.{◌≡◌, ◌<◌, ℕ, ◌+◌, List, [], ◌∷◌, ◌++◌, map, take, length, get_or, sym, ap, subst, ◌∙◌}
use Rattle.std.proofs.Common.{add-one}
use Rattle.std.proofs.Math.Seq.{take-suc}
use Rattle.std.proofs.lemmas.List.{map_push}
use Rattle.serde_json.specs.Data.{Data}
use Rattle.serde_json.specs.View.{view}
use Rattle.serde_json.specs.declared.value.Value.{Value}
use Rattle.cops_scenario.specs.declared.script.ScriptedClient.{ScriptedClient}
use Rattle.cops_scenario.specs.File.{GivesClient, GiveClients}

report_one_more : (ds : List Data) (cs : List ScriptedClient) (d : Data) (c : ScriptedClient) → GiveClients ds cs → GivesClient d c → GiveClients (ds ++ d ∷ []) (cs ++ c ∷ [])
report_one_more [] [] d c reported one = (one, tt)
report_one_more [] (x ∷ cs) d c reported one = absurd reported
report_one_more (e ∷ ds) [] d c reported one = absurd reported
report_one_more (e ∷ ds) (x ∷ cs) d c reported one = (reported.0, report_one_more ds cs d c reported.1 one)

-- the clients of the first items, and then the client of the next item
pub report_next : (items : List Value) (i : ℕ) (cs : List ScriptedClient) (item : Value) (c : ScriptedClient) → GiveClients (map view (take i items)) cs → i < length items → item ≡ get_or items i item → GivesClient (view item) c
    → GiveClients (map view (take (i + 1) items)) (cs ++ c ∷ [])
report_next items i cs item c reported within is one =
    let next : take (i + 1) items ≡ take i items ++ item ∷ [] = ap (λ n. take n items) (add-one i) ∙ take-suc items i item within ∙ ap (λ v. take i items ++ v ∷ []) (sym is) in
    let views : map view (take (i + 1) items) ≡ map view (take i items) ++ view item ∷ [] = ap (map view) next ∙ map_push view (take i items) item in
    subst (λ ds. GiveClients ds (cs ++ c ∷ [])) (sym views) (report_one_more _ cs (view item) c reported one)
