-- What a backlog knows of the waiting puts.
use Rattle.std.specs.Prelude.{ℕ, ◌-◌, nat_eq, if◌then◌else◌, length, slice_get, Option, Some}
use Rattle.std.specs.Option.{option_map, option_map_or}
use Rattle.indexmap.specs.IndexMap.{get}
use Rattle.cops_replication.specs.declared.backlog.Backlog.{Backlog}
use Rattle.cops_replication.specs.declared.backlog.Question.{Question}
use Rattle.cops_replication.specs.declared.backlog.Waiting.{Waiting}

-- the question to ask next
abbrev pub next : Backlog → Option Question
next b = slice_get b.questions.items (length b.questions.items - 1)

-- the number of dependencies that are not marked, for the put of a version, if it waits
abbrev pub unmarked_of : Backlog → ℕ → Option ℕ
unmarked_of b version = option_map (λ (w : Waiting). w.unmarked) (get nat_eq b.waiting version)

-- the number after one more mark
abbrev pub one_fewer : Option ℕ → Option ℕ
one_fewer count = option_map (λ (n : ℕ). n - 1) count

-- the put to settle first after a mark of the put of this version: that put, if all its dependencies are marked then
abbrev pub ready_after : Backlog → ℕ → Option ℕ
ready_after b version = option_map_or (λ (left : ℕ). if nat_eq left 0 then Some version else b.ready) (one_fewer (unmarked_of b version)) b.ready
