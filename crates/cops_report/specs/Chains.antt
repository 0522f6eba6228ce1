-- Chains: how the past of an operation reaches it, step by step.
use Rattle.std.specs.Prelude.{◌≡◌, ◌≤◌, ◌⊎◌, List, [], ◌∷◌, length}
use Rattle.cops_types.specs.declared.op.OpName.{OpName}
use Rattle.cops_types.specs.Histories.{Sessions, IsNamed}
use Rattle.cops_types.specs.Past.{Step}
use Rattle.cops_types.specs.Faults.{IsBefore}

-- each name is one session step or one source step after the name before it, and the last is `to`
abbrev pub LeadsTo : Sessions → OpName → OpName → List OpName → Type 0
LeadsTo h to from [] = from ≡ to
LeadsTo h to from (next ∷ rest) = Step h from next × LeadsTo h to next rest

-- a chain: names of the history from the one to the other, by steps
abbrev pub IsChain : Sessions → OpName → OpName → List OpName → Type 0
IsChain h from to [] = ⊥
IsChain h from to (name ∷ rest) = (name ≡ from) × IsNamed h name × LeadsTo h to name rest

-- the names, compared one by one, are those of the other list or come before them
abbrev pub ComesFirst : List OpName → List OpName → Type 0
ComesFirst [] others = Unit {0}
ComesFirst (name ∷ names) [] = ⊥
ComesFirst (name ∷ names) (other ∷ others) = IsBefore name other ⊎ ((name ≡ other) × ComesFirst names others)

-- the chain that is reported: none is shorter, and it is the first of the shortest
pub record IsFirstChain (h : Sessions) (from to : OpName) (names : List OpName) : Type 0 where
  pub chain : IsChain h from to names
  pub shortest : (others : List OpName) → IsChain h from to others → length names ≤ length others
  pub first : (others : List OpName) → IsChain h from to others → length others ≡ length names → ComesFirst names others

-- no steps lead from the one to the other
abbrev pub HasNoChain : Sessions → OpName → OpName → Type 0
HasNoChain h from to = (names : List OpName) → ¬ IsChain h from to names
