-- Dependency checks, and what an answer Yes allows.
use Rattle.std.specs.Prelude.{◌≡◌, ◌⊎◌, ℕ, true, false, List, Option, None, Some}
use Rattle.cops_types.specs.declared.dep.Dep.{Dep}
use Rattle.cops_types.specs.declared.refusal.Refusal.TheVariants.{NoYes}
use Rattle.cops_held.specs.Held.{waiting}
use Rattle.cops_node.specs.declared.event.NodeEvent.TheVariants.{Mark}
use Rattle.cops_node.specs.declared.outcome.Outcome.{Outcome}
use Rattle.cops_node.specs.declared.outcome.Outcome.TheVariants.{Yes as IsSettled, Refused as RefusedWith}
use Rattle.cops_node.specs.Node.{Node, dep_at, node_step}
use Rattle.cops_cluster.specs.declared.receiving.Yes.{Yes}
use Rattle.cops_cluster.specs.declared.receiving.Asked.{Asked}
use Rattle.cops_cluster.specs.declared.receiving.Asked.TheVariants.{Yes as AnsweredYes, Other}
use Rattle.cops_cluster.specs.Outcomes.{IsOutOfMemory}
use Rattle.cops_cluster.specs.Shares.{is_of_node}

-- the answer is for this pair in this data centre
abbrev pub IsFor : Yes → ℕ → Dep → Type 0
IsFor answer dc pair = (answer.dc ≡ dc) × (pair ≡ record { key = answer.key; version = answer.version })

-- the answer is for this dependency, or there is no such dependency, and the node refuses the mark itself
abbrev pub Allows : Yes → ℕ → Option Dep → Type 0
Allows answer dc None = Unit {0}
Allows answer dc (Some pair) = IsFor answer dc pair

-- the dependency exists, and the answer is for another pair or another data centre
abbrev pub Forbids : Yes → ℕ → Option Dep → Type 0
Forbids answer dc None = ⊥
Forbids answer dc (Some pair) = IsFor answer dc pair → ⊥

-- some node gives this outcome for a mark, and the answer Yes allowed it there
abbrev pub IsAllowedMark : Yes → ℕ → ℕ → ℕ → Outcome → Type 0
IsAllowedMark answer dc version dep outcome =
    (old : Node) × (new : Node) × (node_step old (Mark version dep) ≡ (outcome, new)) × Allows answer dc (dep_at (waiting old.held version) dep)

-- a mark that never reached a node: at some node the answer Yes forbids it, or memory ran out
abbrev pub IsUnaskedMark : Yes → ℕ → ℕ → ℕ → Outcome → Type 0
IsUnaskedMark answer dc version dep outcome =
    ((outcome ≡ RefusedWith NoYes) × ((node : Node) × Forbids answer dc (dep_at (waiting node.held version) dep))) ⊎ IsOutOfMemory outcome

-- the outcome of a mark: a node's answer where the mark was allowed, and otherwise why no node was asked
abbrev pub IsMarkedAs : Yes → ℕ → ℕ → ℕ → Outcome → Type 0
IsMarkedAs answer dc version dep outcome =
    (is_of_node outcome ≡ true → IsAllowedMark answer dc version dep outcome)
    × (is_of_node outcome ≡ false → IsUnaskedMark answer dc version dep outcome)

-- what the node answered
abbrev pub outcome_of : Asked → Outcome
outcome_of (AnsweredYes answer) = IsSettled
outcome_of (Other outcome) = outcome

-- a yes names the data centre and the pair that were asked about
abbrev pub IsAskedOf : ℕ → List ℕ → ℕ → Asked → Type 0
IsAskedOf dc key version (AnsweredYes answer) = IsFor answer dc (record { key = key; version = version })
IsAskedOf dc key version (Other outcome) = outcome ≡ IsSettled → ⊥
