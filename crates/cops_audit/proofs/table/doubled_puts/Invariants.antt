use Rattle.std.proofs.Common.{◌≤◌, take}
use Rattle.cops_types.specs.Histories.{Sessions}
use Rattle.cops_types.specs.VersionOrder.{IsDoubled}
use Rattle.cops_audit.specs.Tables.{IsPutTable}
use Rattle.cops_audit.proofs.Filtering.{HasThose}
use Rattle.cops_audit.proofs.table.doubled_puts.Given as goal

abbrev pub invariant-loop-place : goal.invariant-loop-place
invariant-loop-place l = (h : Sessions) → IsPutTable h l.table → HasThose (λ p. IsDoubled h p.name) (λ p q. p.version ≤ q.version) (take l.place l.table) l.puts.items
