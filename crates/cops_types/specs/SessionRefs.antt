-- The items that an iterator over a client's session has still to give.
use Rattle.std.specs.Prelude.{List, [], drop, slice_index_or}
use Rattle.cops_types.specs.Histories.{Operation}
use Rattle.cops_types.specs.declared.session_ref.Operations.{Operations}

-- the operations from the iterator's position on
abbrev pub operations_left : Operations → List Operation
operations_left o = drop o.next (slice_index_or o.history.now.sessions o.client [])
