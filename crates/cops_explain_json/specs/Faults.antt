-- Faults in JSON.
use Rattle.std.specs.Prelude.{◌≡◌, ◌+◌, ◌-◌, ℕ, List, [], ◌∷◌, ◌++◌, codes, length, take}
use Rattle.serde_json.specs.Data.{Data, Members}
use Rattle.cops_json.specs.Json.{number_json}
use Rattle.cops_types.specs.declared.op.OpName.{OpName}
use Rattle.cops_audit.specs.declared.fault.Fault.{Fault}
use Rattle.cops_audit.specs.declared.fault.Fault.TheVariants.{Doubled, NoSource, NotAbove, Stale}
use Rattle.cops_audit.specs.Faults.{op_of}
use Rattle.cops_report.specs.Chains.{IsFirstChain}
use Rattle.cops_explain.specs.declared.limits.TheConstants.{MOST_OTHERS}
use Rattle.cops_explain.specs.Naming.{ANamedHistory}
use Rattle.cops_explain.specs.Others.{AreOthers}
use Rattle.cops_explain_json.specs.Objects.{Member, object_json, with_members}
use Rattle.cops_explain_json.specs.Operations.{operation_json, operation_members, operations_json}

-- the first of the other puts with a version, and how many more there are
abbrev pub puts_members : ANamedHistory → List OpName → List Member
puts_members named others =
    (codes "puts", operations_json named (take MOST_OTHERS others)) ∷ (codes "more_puts", number_json (length others - MOST_OTHERS)) ∷ []

-- the newer put that a stale get had to know of, and the chain by which it did
abbrev pub chain_members : ANamedHistory → OpName → List OpName → List Member
chain_members named newer chain = (codes "newer", operation_json named newer) ∷ (codes "chain", operations_json named chain) ∷ []

-- the operations that show a fault, by its class
abbrev pub Show : ANamedHistory → Fault → List Member → Type 0
Show named (Doubled op) members = (others : List OpName) × AreOthers named.sessions op others × (members ≡ puts_members named others)
Show named (NoSource op) members = (others : List OpName) × AreOthers named.sessions op others × (members ≡ puts_members named others)
Show named (NotAbove fault) members = members ≡ (codes "earlier", operation_json named fault.earlier) ∷ []
Show named (Stale fault) members =
    (chain : List OpName) × IsFirstChain named.sessions fault.newer fault.op chain × (members ≡ chain_members named fault.newer chain)

-- the members gain the operations that show a fault
abbrev pub AddsShown : ANamedHistory → Fault → Members → Members → Type 0
AddsShown named fault old new = (members : List Member) × Show named fault members × (new ≡ with_members old members)

-- a fault: its number, its operation, and the operations that show it
abbrev pub fault_json : ANamedHistory → ℕ → OpName → List Member → Data
fault_json named number op shown = object_json ((codes "number", number_json number) ∷ operation_members named op ++ shown)

-- the object of the fault of this number
abbrev pub IsFaultJson : ANamedHistory → ℕ → Fault → Data → Type 0
IsFaultJson named number fault json =
    (shown : List Member) × Show named fault shown × (json ≡ fault_json named number (op_of fault) shown)

-- an object for each fault, numbered from this number on
abbrev pub AreFaults : ANamedHistory → ℕ → List Fault → List Data → Type 0
AreFaults named number [] list = list ≡ []
AreFaults named number (fault ∷ faults) list = (first : Data) × (rest : List Data)
    × IsFaultJson named number fault first × (list ≡ first ∷ rest) × AreFaults named (number + 1) faults rest
