-- Lists, one for each client, and the names of their items.
use Rattle.std.specs.Prelude.{ℕ, List, [], ◌∷◌, ◌++◌, Option, slice_get, slice_index_or, slice_set}
use Rattle.std.specs.Option.{option_and_then}
use Rattle.cops_types.specs.declared.op.OpName.{OpName}

-- the item of a name in its client's list, if there is one
abbrev pub item_at : {X : Type 0} → List (List X) → OpName → Option X
item_at lists name = slice_get (slice_index_or lists name.client []) name.index

-- the number of a name, if it has one
abbrev pub number_at : List (List (Option ℕ)) → OpName → Option ℕ
number_at numbers name = option_and_then (λ n. n) (item_at numbers name)

-- the lists with one more item at the end of the client's list
abbrev pub with_item : {X : Type 0} → List (List X) → ℕ → X → List (List X)
with_item lists client item = slice_set lists client (slice_index_or lists client [] ++ item ∷ [])
