-- The operation of an `Op`, an operation's key, and the version that a get returned.
use Rattle.std.specs.Prelude.{◌≡◌, ℕ, List, Option, Some, None}
use Rattle.cops_types.specs.Histories.{Sessions, Operation, write, read, missed, IsGot}
use Rattle.cops_types.specs.declared.op.Op.{Op}
use Rattle.cops_types.specs.declared.op.Op.TheVariants.{Put, Del, Got, Gone, Missed}
use Rattle.cops_types.specs.declared.op.OpName.{OpName}

abbrev pub operation_of : Op → Operation
operation_of (Put key value version) = write key (Some value) version
operation_of (Del key version) = write key None version
operation_of (Got key value version) = read key (Some value) version
operation_of (Gone key version) = read key None version
operation_of (Missed key) = missed key

-- the key of an operation
abbrev pub key_of : Operation → List ℕ
key_of (write key content version) = key
key_of (read key content version) = key
key_of (missed key) = key

-- the one is a put, and the other a get that returned it
abbrev pub IsReadBy : Operation → Operation → Type 0
IsReadBy put got = (key : List ℕ) × (content : Option (List ℕ)) × (version : ℕ) × (put ≡ write key content version) × (got ≡ read key content version)

-- the operation is a get that returned this version
abbrev pub GetsVersion : Sessions → OpName → ℕ → Type 0
GetsVersion h name version = (key : List ℕ) × (content : Option (List ℕ)) × IsGot h name key content version
