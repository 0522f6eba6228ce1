-- Causal convergence: a causal order and an arbitration by which each get returns the last put that it can know of.
use Rattle.std.specs.Prelude.{◌≡◌, ◌≢◌, ◌<◌, ◌↔◌, ℕ, List, Option, Some, slice_get, Contains}
use Rattle.cops_types.specs.declared.op.OpName.{OpName}
use Rattle.cops_types.specs.Histories.{Sessions, IsGot, IsMissed, Puts, PutsKey, SessionStep, SourceStep}

-- a finite set of pairs of names
abbrev pub Order : Type 0
Order = List (OpName × OpName)

-- the set has the pair
abbrev pub Precedes : Order → OpName → OpName → Type 0
Precedes order a b = Contains order (a, b)

-- a strict partial order that has every step
pub record IsCausalOrder (h : Sessions) (order : Order) : Type 0 where
  pub irreflexive : (a : OpName) → ¬ Precedes order a a
  pub transitive : (a b c : OpName) → Precedes order a b → Precedes order b c → Precedes order a c
  pub sessions : (a b : OpName) → SessionStep h a b → Precedes order a b
  pub sources : (a b : OpName) → SourceStep h a b → Precedes order a b

-- p comes before q in the list
abbrev pub StandsBefore : List OpName → OpName → OpName → Type 0
StandsBefore names p q = (i j : ℕ) × (i < j) × (slice_get names i ≡ Some p) × (slice_get names j ≡ Some q)

-- all puts, each once
pub record ListsThePuts (h : Sessions) (names : List OpName) : Type 0 where
  pub members : (p : OpName) → Contains names p ↔ Puts h p
  pub once : (p : OpName) → ¬ StandsBefore names p p

-- all puts in one order, which extends the causal order
pub record IsArbitration (h : Sessions) (order : Order) (arbitration : List OpName) : Type 0 where
  pub puts : ListsThePuts h arbitration
  pub extends : (p q : OpName) → Puts h p → Puts h q → Precedes order p q → StandsBefore arbitration p q

-- the get has a source, and every other put on the get's key that precedes the get comes before the source in the arbitration
pub record ReturnsLast (h : Sessions) (order : Order) (arbitration : List OpName) (got : OpName) (key : List ℕ) : Type 0 where
  pub source : OpName
  pub is_source : SourceStep h source got
  pub last : (q : OpName) (version : ℕ) → PutsKey h q key version → q ≢ source → Precedes order q got → StandsBefore arbitration q source

-- each get returns the last put on its key that precedes it, or nothing if there is none
pub record Explains (h : Sessions) (order : Order) (arbitration : List OpName) : Type 0 where
  pub got : (got : OpName) (key : List ℕ) (content : Option (List ℕ)) (version : ℕ) → IsGot h got key content version → ReturnsLast h order arbitration got key
  pub missed : (got q : OpName) (key : List ℕ) (version : ℕ) → IsMissed h got key → PutsKey h q key version → ¬ Precedes order q got

-- the history converges with this arbitration
abbrev pub ConvergesBy : Sessions → List OpName → Type 0
ConvergesBy h arbitration = (order : Order) × IsCausalOrder h order × IsArbitration h order arbitration × Explains h order arbitration

abbrev pub IsCausallyConvergent : Sessions → Type 0
IsCausallyConvergent h = (arbitration : List OpName) × ConvergesBy h arbitration
