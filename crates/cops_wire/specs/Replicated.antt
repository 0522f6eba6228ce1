-- The message that replicates a put or a deletion.
use Rattle.std.specs.Prelude.{ℕ, List, Option, Some, None}
use Rattle.cops_types.specs.declared.dep.Dep.{Dep}
use Rattle.cops_types.specs.declared.put_record.PutRecord.{PutRecord}
use Rattle.cops_wire.specs.declared.message.Message.{Message}
use Rattle.cops_wire.specs.declared.message.Message.TheVariants.{PutAfter, DelAfter}

-- the message of a write of this content, with the dependencies that must be there before
abbrev pub write_after : List ℕ → Option (List ℕ) → ℕ → List Dep → Message
write_after key (Some value) version deps = PutAfter key value version deps
write_after key None version deps = DelAfter key version deps

-- the message that replicates a put to another data centre
abbrev pub put_after : PutRecord → Message
put_after put = write_after put.key put.value put.version put.deps
