-- The chain of a stale get, step by step.
use Rattle.std.specs.Prelude.{ℕ, List, [], ◌∷◌, ◌==◌, if◌then◌else◌, codes}
use Rattle.cops_types.specs.declared.op.OpName.{OpName}
use Rattle.cops_types.specs.Texts.{◌⧺◌}
use Rattle.cops_explain.specs.declared.contents.Form.TheVariants.{Readable}
use Rattle.cops_explain.specs.Naming.{ANamedHistory}
use Rattle.cops_explain.specs.Operations.{reported_line, reported_text}

-- the kind of a step: where no two puts have the same version and puts are above what their clients did before, no get returns a later put of its
-- client
abbrev pub step_text : OpName → OpName → List ℕ
step_text from to = if from.client == to.client then codes ": the same client's later operation\n" else codes ": returned that put\n"

-- the operation to which a step leads, with the kind of the step
abbrev pub step_line : ANamedHistory → OpName → OpName → List ℕ
step_line h from to = reported_text Readable h to ⧺ step_text from to

-- a line for each operation to which the steps lead, one after the other
abbrev pub step_lines : ANamedHistory → OpName → List OpName → List ℕ
step_lines h from [] = []
step_lines h from (to ∷ rest) = step_line h from to ⧺ step_lines h to rest

-- a line for each operation of a chain
abbrev pub chain_text : ANamedHistory → List OpName → List ℕ
chain_text h [] = []
chain_text h (first ∷ rest) = reported_line h first ⧺ step_lines h first rest

-- the operation by which the client of a chain's last operation came to know of its first one: the one to which the last step between two clients
-- leads, or the first operation itself where there is no such step
abbrev pub known_by : OpName → List OpName → OpName
known_by at [] = at
known_by at (to ∷ rest) = known_by (if at.client == to.client then at else to) rest
