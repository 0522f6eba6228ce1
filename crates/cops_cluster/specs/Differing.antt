-- The representation of an entry in the code.
use Rattle.std.specs.Prelude.{ℕ}
use Rattle.cops_cluster.specs.declared.logged.LoggedEntry.{LoggedEntry}
use Rattle.cops_cluster.specs.declared.share.Made.{Made}

abbrev pub shown : LoggedEntry → Made
shown n = record { entry = n.entry.now; node = n.node }

-- the ticket of an entry
abbrev pub ticket_of : LoggedEntry → ℕ
ticket_of n = n.entry.now.ticket
