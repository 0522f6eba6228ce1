-- The clients of a setting.
use Rattle.std.specs.Prelude.{◌<◌, ◌≤◌, ℕ, List, All, length}
use Rattle.cops_types.specs.declared.limits.TheConstants.{MAX_CLIENTS}
use Rattle.cops_place.specs.Place.{APlace}

-- each client's data centre exists, and there are at most 65,535 clients
abbrev pub AreClients : APlace → List ℕ → Type 0
AreClients place homes = All (λ dc. dc < place.dcs) homes × (length homes ≤ MAX_CLIENTS)
