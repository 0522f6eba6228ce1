-- Which puts of unknown outcome took effect, as the gets show it. A put is here a put or a deletion.
use Rattle.std.specs.Prelude.{ℕ, ◌==◌, ◌&&◌, Bool, not, List, [], ◌∷◌, ◌++◌, Option, if◌then◌else◌, filter, fold, nat_eq, slice_get}
use Rattle.std.specs.List.{list_any, count_by}
use Rattle.std.specs.Option.{option_eq}
use Rattle.std.specs.Cmp.Lexicographic.{pointwise}
use Rattle.cops_types.specs.Histories.{Operation, write, read, missed}
use Rattle.cops_outcomes.specs.declared.write.Write.{Write}

-- the two have the same content: the same value, or both are deletions
abbrev pub same_content : Option (List ℕ) → Option (List ℕ) → Bool
same_content = option_eq (pointwise ◌==◌)

-- the two put the same content on the same key
abbrev pub same_write : Write → Write → Bool
same_write a b = pointwise ◌==◌ a.key b.key && same_content a.content b.content

-- the writes with one more, which is added at the end if it is new
abbrev pub with_write : List Write → Write → List Write
with_write writes w = if list_any (same_write w) writes then writes else writes ++ w ∷ []

-- the versions with one more, which is added at the end if it is new
abbrev pub with_version : List ℕ → ℕ → List ℕ
with_version versions version = if list_any (nat_eq version) versions then versions else versions ++ version ∷ []

-- the versions that puts have
abbrev pub put_versions : List Operation → List ℕ
put_versions [] = []
put_versions (write key content version ∷ ops) = version ∷ put_versions ops
put_versions (read key content version ∷ ops) = put_versions ops
put_versions (missed key ∷ ops) = put_versions ops

-- the versions after one more operation, if that is a get that returned this content of this key
abbrev pub with_returned : Write → List ℕ → Operation → List ℕ
with_returned w versions (read key content version) = if same_write w (record { key = key; content = content }) then with_version versions version else versions
with_returned w versions _ = versions

-- the versions with which gets returned it, each once, in the order in which they first appear
abbrev pub returned_versions : List Operation → Write → List ℕ
returned_versions ops w = fold (with_returned w) [] ops

-- those of them that no put has
abbrev pub free_versions : List Operation → Write → List ℕ
free_versions ops w = filter (λ version. not (list_any (nat_eq version) (put_versions ops))) (returned_versions ops w)

-- the version of a put of unknown outcome after these earlier ones: of those that put the same content on the same key the first takes the first
-- free version, the second takes the second, and so on, and a put for which there is none is left out
abbrev pub outcome : List Operation → List Write → Write → Option ℕ
outcome ops earlier w = slice_get (free_versions ops w) (count_by (same_write w) earlier)

-- the versions of puts of unknown outcome, in their order, after these earlier ones
abbrev pub outcomes : List Operation → List Write → List Write → List (Option ℕ)
outcomes ops earlier [] = []
outcomes ops earlier (w ∷ ws) = outcome ops earlier w ∷ outcomes ops (earlier ++ w ∷ []) ws
