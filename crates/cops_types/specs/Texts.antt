-- The texts of versions and names.
use Rattle.std.specs.Prelude.{ℕ, List, ◌++◌, codes, decimal}
use Rattle.cops_types.specs.Version.{clock_of, node_of}
use Rattle.cops_types.specs.declared.op.OpName.{OpName}

-- one text and then the other, grouped to the right
infixr 20 ◌⧺◌
abbrev pub ◌⧺◌ : List ℕ → List ℕ → List ℕ
a ⧺ b = a ++ b

-- clock.node
abbrev pub version_text : ℕ → List ℕ
version_text v = decimal (clock_of v) ⧺ codes "." ⧺ decimal (node_of v)

-- (client,index)
abbrev pub name_text : OpName → List ℕ
name_text n = codes "(" ⧺ decimal n.client ⧺ codes "," ⧺ decimal n.index ⧺ codes ")"
