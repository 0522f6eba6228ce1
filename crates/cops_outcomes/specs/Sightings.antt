-- What was seen of operations, as far as it matters for some puts of unknown outcome, and what is left of it after some outcomes.
use Rattle.std.specs.Prelude.{◌≡◌, ◌≢◌, ℕ, List, [], drop, map, nat_eq, IsTrue}
use Rattle.std.specs.List.{count_by, list_any}
use Rattle.cops_types.specs.Histories.{Operation, missed, read, write}
use Rattle.cops_outcomes.specs.Outcomes.{free_versions, put_versions, returned_versions, same_write}
use Rattle.cops_outcomes.specs.declared.write.Write.{Write}

-- distinct puts of unknown outcome, the versions with which gets returned each of them, and whether a put has a version
pub record ASightings : Type 0 where
  pub writes : List Write
  pub returned : List (List ℕ)
  pub puts : List ℕ

-- these operations were seen: nothing needs to be known of them if there is no put of unknown outcome
pub record IsSighted (s : ASightings) (ops : List Operation) : Type 0 where
  pub returned : s.returned ≡ map (returned_versions ops) s.writes
  pub puts : s.writes ≢ [] → (version : ℕ) → list_any (nat_eq version) s.puts ≡ list_any (nat_eq version) (put_versions ops)

-- distinct puts of unknown outcome, and the free versions of each that are not taken yet
pub record AnOutcomes : Type 0 where
  pub writes : List Write
  pub rest : List (List ℕ)

-- something is kept of this operation: of a put or deletion where any put has an unknown outcome, of a get where one of these puts writes what it returned
abbrev pub IsKept : ASightings → Operation → Type 0
IsKept s (write key content version) = s.writes ≢ []
IsKept s (read key content version) = IsTrue (list_any (same_write (record { key = key; content = content })) s.writes)
IsKept s (missed key) = ⊥

-- the outcomes after these operations of these earlier puts were asked for
pub record IsAfter (s : AnOutcomes) (ops : List Operation) (earlier : List Write) : Type 0 where
  pub rest : s.rest ≡ map (λ w. drop (count_by (same_write w) earlier) (free_versions ops w)) s.writes
