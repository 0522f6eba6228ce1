-- The faults of a refusal, one by one.
use Rattle.std.specs.Prelude.{ℕ, zero, suc, List, codes, map, Option, None, slice_get}
use Rattle.cops_types.specs.Histories.{Sessions}
use Rattle.cops_types.specs.Faults.{HasNoSource, IsNotAbove, IsStale}
use Rattle.cops_types.specs.Texts.{◌⧺◌, name_text}
use Rattle.cops_types.specs.VersionOrder.{IsDoubled}
use Rattle.cops_types.specs.declared.op.OpName.{OpName}
use Rattle.cops_audit.specs.declared.verdict.Faults.{Faults}
use Rattle.cops_audit.specs.declared.verdict.Faults.TheVariants as class
use Rattle.cops_audit.specs.declared.fault.Fault.{Fault}
use Rattle.cops_audit.specs.declared.fault.Fault.TheVariants.{Doubled, NoSource, NotAbove, Stale}

-- all faults, in their order
abbrev pub faults_of : Faults → List Fault
faults_of (class.Doubled names) = map (λ n. Doubled n) names.items
faults_of (class.NoSource names) = map (λ n. NoSource n) names.items
faults_of (class.NotAbove faults) = map (λ f. NotAbove f) faults.items
faults_of (class.Stale faults) = map (λ f. Stale f) faults.items

-- the fault of a number, counted from 1
abbrev pub fault_of_number : List Fault → ℕ → Option Fault
fault_of_number faults zero = None
fault_of_number faults (suc place) = slice_get faults place

-- the operation at fault
abbrev pub op_of : Fault → OpName
op_of (Doubled name) = name
op_of (NoSource name) = name
op_of (NotAbove fault) = fault.op
op_of (Stale fault) = fault.op

-- the name of the class
abbrev pub class_text : Fault → List ℕ
class_text (Doubled name) = codes "doubled"
class_text (NoSource name) = codes "no source"
class_text (NotAbove fault) = codes "not above"
class_text (Stale fault) = codes "stale"

-- the class and the operation
abbrev pub fault_text : Fault → List ℕ
fault_text fault = class_text fault ⧺ codes " " ⧺ name_text (op_of fault)

-- the history has this fault
abbrev pub IsFault : Sessions → Fault → Type 0
IsFault h (Doubled name) = IsDoubled h name
IsFault h (NoSource name) = HasNoSource h name
IsFault h (NotAbove fault) = IsNotAbove h fault.op fault.earlier
IsFault h (Stale fault) = IsStale h fault.op fault.newer
