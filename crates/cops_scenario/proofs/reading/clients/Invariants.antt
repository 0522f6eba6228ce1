use Rattle.std.proofs.Common.{◌≡◌, ◌≤◌, length, map, take}
use Rattle.std.specs.Prelude.{All}
use Rattle.serde_json.specs.View.{view}
use Rattle.cops_scenario.specs.File.{GiveClients}
use Rattle.cops_scenario.specs.Limits.{IsClientOf, IsLegalClient}
use Rattle.cops_scenario.proofs.reading.clients.Given as goal

abbrev pub invariant-loop-item : goal.invariant-loop-item
invariant-loop-item l =
    (length l.clients.items ≡ l.item-index) × (length l.item-items ≤ 64) × All (IsClientOf l.dcs) l.clients.items
    × GiveClients (map view (take l.item-index l.item-items)) l.clients.items × All (IsLegalClient l.format l.dcs) l.clients.items
