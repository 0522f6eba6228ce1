-- The frames that a link carries. Each is an encoding of the message that replicates a put or a deletion, in format 2
-- whatever the cluster's own format is.
use Rattle.std.specs.Prelude.{◌≡◌, ℕ, List}
use Rattle.cops_types.specs.declared.put_record.PutRecord.{PutRecord}
use Rattle.cops_wire.specs.Grammar.{grammar_two, encoding}
use Rattle.cops_wire.specs.Legal.{IsLegalMessage}
use Rattle.cops_wire.specs.Message.{parts}
use Rattle.cops_wire.specs.Replicated.{put_after}

-- the bytes of the message that replicates a put or a deletion
abbrev pub encoded : PutRecord → List ℕ
encoded put = encoding grammar_two (parts (put_after put))

-- these bytes are an encoding of the message that replicates a put or a deletion, whose fields are within their ranges
abbrev pub IsPutAfter : List ℕ → Type 0
IsPutAfter bytes = (put : PutRecord) × IsLegalMessage (put_after put) × (encoded put ≡ bytes)
