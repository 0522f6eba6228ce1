-- The models of the parts of a world.
use Rattle.std.specs.Prelude.{All, ◌≡◌, ℕ, ◌<◌, List, [], ◌∷◌, Bool, true, false, ◌&&◌, nat_lt, length, slice_index_or, Option}
use Rattle.cops_types.specs.declared.limits.TheConstants.{MAX_CLIENT_OPS, MAX_OPS}
use Rattle.cops_types.specs.declared.dep.Dep.{Dep}
use Rattle.cops_types.specs.declared.put_record.PutRecord.{PutRecord}
use Rattle.cops_types.specs.declared.format.Format.{Format}
use Rattle.cops_types.specs.declared.format.Format.TheVariants.{Two}
use Rattle.cops_types.specs.declared.refusal.Refusal.{Refusal}
use Rattle.cops_types.specs.declared.refusal.Refusal.TheVariants.{UnknownClient, NotInFormat, SessionFull, ContextFull}
use Rattle.cops_types.specs.Format.{most_deps, fits}
use Rattle.cops_types.specs.Histories.{Sessions}
use Rattle.cops_types.specs.Recorded.{Recorded, HasRoom}
use Rattle.cops_types.specs.Counts.{count_of}
use Rattle.cops_context.specs.Kept.{AContext}
use Rattle.cops_core.specs.World.{Said}

-- the issued puts, and whether there is room for one more
pub record Puts : Type 0 where
  pub puts : List PutRecord
  pub room : Bool

-- the Yes answers, and whether there is room for one more
pub record Answers : Type 0 where
  pub said : List Said
  pub room : Bool

-- each put is stored under its version
abbrev pub AreByVersion : List (ℕ × PutRecord) → Type 0
AreByVersion [] = Unit {0}
AreByVersion (e ∷ es) = (e.1.version ≡ e.0) × AreByVersion es

-- the client may record its next operation
pub record MayRecord (history : Recorded) (client : ℕ) : Type 0 where
  pub known : client < length history.sessions
  pub few : length (slice_index_or history.sessions client []) < MAX_CLIENT_OPS
  pub all : count_of history.sessions < MAX_OPS
  pub room : HasRoom history client

-- the checks that a write makes of the sessions, in the order of the refusals
abbrev pub write_checks : Sessions → Format → ℕ → Option (List ℕ) → List (Bool × Refusal)
write_checks h format client content =
    (nat_lt client (length h), UnknownClient) ∷ (fits format content, NotInFormat)
    ∷ (nat_lt (length (slice_index_or h client [])) MAX_CLIENT_OPS && nat_lt (count_of h) MAX_OPS, SessionFull) ∷ []

-- the checks that a get makes of the sessions and of the contexts, in the order of the refusals
abbrev pub get_checks : Sessions → List (List Dep) → Format → ℕ → List (Bool × Refusal)
get_checks h contexts format client =
    (nat_lt client (length h), UnknownClient)
    ∷ (nat_lt (length (slice_index_or h client [])) MAX_CLIENT_OPS && nat_lt (count_of h) MAX_OPS, SessionFull)
    ∷ (nat_lt (length (slice_index_or contexts client [])) (most_deps format), ContextFull) ∷ []

-- the context of each client, and whether each has room for one more pair
pub record AllContexts : Type 0 where
  pub pairs : List (List Dep)
  pub room : List Bool

-- each has the limit of format 2, which is the greatest of all formats
abbrev pub AreWidest : List AContext → Type 0
AreWidest contexts = All (λ c. c.format ≡ Two) contexts

-- there is room for the client's next pair
abbrev pub HasPlace : AllContexts → ℕ → Type 0
HasPlace c client = slice_index_or c.room client false ≡ true
