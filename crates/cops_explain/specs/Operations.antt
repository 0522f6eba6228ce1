-- Operations in words.
use Rattle.std.specs.Prelude.{ℕ, List, [], codes, Option, Some, None}
use Rattle.std.specs.List.{flat_map}
use Rattle.cops_types.specs.declared.op.OpName.{OpName}
use Rattle.cops_types.specs.Histories.{op_at, Operation, write, read, missed}
use Rattle.cops_types.specs.Texts.{◌⧺◌, version_text}
use Rattle.cops_explain.specs.declared.contents.Form.{Form}
use Rattle.cops_explain.specs.declared.contents.Form.TheVariants.{Readable}
use Rattle.cops_explain.specs.Contents.{content_text, value_text}
use Rattle.cops_explain.specs.Names.{client_text, opening_text}
use Rattle.cops_explain.specs.Naming.{ANamedHistory}

-- x=1 at 1.0, and without a value x at 1.0
abbrev pub pair_text : Form → List ℕ → Option (List ℕ) → ℕ → List ℕ
pair_text form key (Some value) version = content_text form key ⧺ codes "=" ⧺ value_text form value ⧺ codes " at " ⧺ version_text version
pair_text form key None version = content_text form key ⧺ codes " at " ⧺ version_text version

-- what an operation did, in the words before its key
abbrev pub operation_word : Operation → List ℕ
operation_word (write key (Some value) version) = codes "put "
operation_word (write key None version) = codes "deleted "
operation_word (read key (Some value) version) = codes "got "
operation_word (read key None version) = codes "found a deletion of "
operation_word (missed key) = codes "got nothing at "

-- the key of an operation, with its value and version, if it has them
abbrev pub object_text : Form → Operation → List ℕ
object_text form (write key value version) = pair_text form key value version
object_text form (read key value version) = pair_text form key value version
object_text form (missed key) = content_text form key

-- what an operation did: put x=1 at 1.0
abbrev pub operation_text : Form → Option Operation → List ℕ
operation_text form (Some op) = operation_word op ⧺ object_text form op
operation_text form None = []

-- client 0 put x=1 at 1.0, or ann put x=1 at 1.0
abbrev pub act_text : Form → ANamedHistory → OpName → List ℕ
act_text form h name = client_text form h.naming name.client ⧺ codes " " ⧺ operation_text form (op_at h.sessions name)

-- (0,0) client 0 put x=1 at 1.0, or ann, line 2: put x=1 at 1.0
abbrev pub reported_text : Form → ANamedHistory → OpName → List ℕ
reported_text form h name = opening_text form h.naming name ⧺ operation_text form (op_at h.sessions name)

-- its readable text, in a line of its own
abbrev pub reported_line : ANamedHistory → OpName → List ℕ
reported_line h name = reported_text Readable h name ⧺ codes "\n"

-- a line for each operation
abbrev pub reported_lines : ANamedHistory → List OpName → List ℕ
reported_lines h names = flat_map (reported_line h) names
