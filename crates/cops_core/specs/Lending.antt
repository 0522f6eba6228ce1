-- Lending a node mutably out of its data centre.
use Rattle.std.specs.Prelude.{ℕ, List, [], slice_set, slice_index_or}
use Rattle.std.specs.Borrow.{Lends, MutBor, Fml}
use Rattle.cops_node.specs.Node.{Node}
use Rattle.cops_node.specs.contracts.node.Node.{the_row as the_node}
use Rattle.cops_core.specs.contracts.data_centres.DataCentre.{the_row as the_nodes}
use Rattle.cops_core.specs.contracts.data_centres.DataCentres.{the_row as the_rows}

abbrev pub LendsNode : MutBor (List Node) → ℕ → MutBor Node → Fml
LendsNode row place node = Lends the_nodes the_node row node (slice_set row.now place)

abbrev pub LendsNodeAt : MutBor (List (List Node)) → ℕ → ℕ → MutBor Node → Fml
LendsNodeAt rows dc place node = Lends the_rows the_node rows node (λ n. slice_set rows.now dc (slice_set (slice_index_or rows.now dc []) place n))
