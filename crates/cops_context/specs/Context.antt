-- The pairs of a context.
use Rattle.std.specs.Prelude.{Bool, if◌then◌else◌, List, [], ◌∷◌, ◌++◌}
use Rattle.std.specs.List.{list_any}
use Rattle.cops_types.specs.declared.dep.Dep.{Dep}
use Rattle.cops_types.specs.Dep.{is_same_dep}

abbrev pub has_pair : List Dep → Dep → Bool
has_pair pairs pair = list_any (is_same_dep pair) pairs

-- the pairs with one more at the end, unless it is there
abbrev pub with_pair : List Dep → Dep → List Dep
with_pair pairs pair = if has_pair pairs pair then pairs else pairs ++ pair ∷ []
