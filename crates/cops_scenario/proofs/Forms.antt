-- A JSON form determines what it encodes.
use Rattle.std.proofs.Common.{◌≡◌, ◌<◌, ℕ, zero, suc, List, [], ◌∷◌, All, map, length, get_or, refl, sym, ap, ◌∙◌, arith}
use Rattle.std.specs.Prelude.{◌≢◌, Some}
use Rattle.std.proofs.lemmas.List.Elements.{All-head, All-tail}
use Rattle.serde_json.specs.Data.{Data}
use Rattle.serde_json.specs.View.{view, items_of}
use Rattle.serde_json.specs.Find.{as_array}
use Rattle.serde_json.specs.declared.value.Value.{Value}
use Rattle.cops_scenario.specs.declared.script.ScriptedClient.{ScriptedClient}
use Rattle.cops_json.specs.Json.{text_json}
use Rattle.cops_scenario.specs.File.{list_json, one_json, GivesClient, GiveClients}

items_alike : (xs ys : List Data) → items_of xs ≡ items_of ys → xs ≡ ys
items_alike [] [] e = refl
items_alike [] (y ∷ ys) e = let no : ⊥ = cc in absurd no
items_alike (x ∷ xs) [] e = let no : ⊥ = cc in absurd no
items_alike (x ∷ xs) (y ∷ ys) e =
    let one : x ≡ y = cc in
    let rest : items_of xs ≡ items_of ys = cc in
    let more : xs ≡ ys = items_alike xs ys rest in
    cc

pub same_items : (xs ys : List Data) → Some (items_of xs) ≡ Some (items_of ys) → xs ≡ ys
same_items xs ys e = let same : items_of xs ≡ items_of ys = cc in items_alike xs ys same

pub same_list : (xs ys : List Data) → list_json xs ≡ list_json ys → xs ≡ ys
same_list xs ys e = same_items xs ys (ap as_array e)

pub same_texts : (xs ys : List (List ℕ)) → map text_json xs ≡ map text_json ys → xs ≡ ys
same_texts [] [] e = refl
same_texts [] (y ∷ ys) e = let no : ⊥ = cc in absurd no
same_texts (x ∷ xs) [] e = let no : ⊥ = cc in absurd no
same_texts (x ∷ xs) (y ∷ ys) e =
    let one : x ≡ y = cc in
    let rest : map text_json xs ≡ map text_json ys = cc in
    let more : xs ≡ ys = same_texts xs ys rest in
    cc

pub same_one : (a b : List ℕ) (x y : Data) → one_json a x ≡ one_json b y → (a ≡ b) × (x ≡ y)
same_one a b x y e = (cc, cc)

-- the form of an item of a list
pub part_at : (items : List Value) (i : ℕ) (item : Value) (ds : List Data) → i < length items → item ≡ get_or items i item → map view items ≡ ds → view item ≡ get_or ds i (view item)
part_at [] i item ds within is e = absurd (omega arith)
part_at (v ∷ vs) zero item ds within is e = ap view is ∙ ap (λ l. get_or l 0 (view item)) e
part_at (v ∷ vs) (suc i) item [] within is e = cc
part_at (v ∷ vs) (suc i) item (d ∷ ds) within is e =
    let rest : map view vs ≡ ds = cc in
    part_at vs i item ds (omega arith) is rest

-- an item of a list encodes one of those that the list encodes
pub no_such_item : {A : Type 0} (json : A → Data) (P : A → Type 0) (items : List Value) (i : ℕ) (item : Value) (xs : List A)
    → i < length items → item ≡ get_or items i item → ((x : A) → P x → view item ≢ json x) → map view items ≡ map json xs → All P xs → ⊥
no_such_item json P [] i item xs within is none e each = omega arith
no_such_item json P (v ∷ vs) i item [] within is none e each = cc
no_such_item json P (v ∷ vs) zero item (x ∷ xs) within is none e each =
    let head : view v ≡ json x = cc in
    none x (All-head P x xs each) (ap view is ∙ head)
no_such_item json P (v ∷ vs) (suc i) item (x ∷ xs) within is none e each =
    let rest : map view vs ≡ map json xs = cc in
    no_such_item json P vs i item xs (omega arith) is none rest (All-tail P x xs each)

-- an item of a list encodes one of the clients that the list encodes
pub no_such_client : (P : ScriptedClient → Type 0) (items : List Value) (i : ℕ) (item : Value) (cs : List ScriptedClient)
    → i < length items → item ≡ get_or items i item → ((c : ScriptedClient) → P c → GivesClient (view item) c → ⊥) → GiveClients (map view items) cs → All P cs → ⊥
no_such_client P [] i item cs within is none reported each = omega arith
no_such_client P (v ∷ vs) i item [] within is none reported each = reported
no_such_client P (v ∷ vs) zero item (c ∷ cs) within is none reported each =
    let e : v ≡ item = sym is in
    none c (All-head P c cs each) (rw e at reported.0)
no_such_client P (v ∷ vs) (suc i) item (c ∷ cs) within is none reported each =
    no_such_client P vs i item cs (omega arith) is none reported.1 (All-tail P c cs each)

pub as_many : (ds : List Data) (cs : List ScriptedClient) → GiveClients ds cs → length ds ≡ length cs
as_many [] [] reported = refl
as_many [] (c ∷ cs) reported = absurd reported
as_many (d ∷ ds) [] reported = absurd reported
as_many (d ∷ ds) (c ∷ cs) reported = ap suc (as_many ds cs reported.1)
