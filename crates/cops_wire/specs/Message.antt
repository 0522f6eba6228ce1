-- Each message of the program as a kind and the contents of its fields.
use Rattle.std.specs.Prelude.{ℕ, List, [], ◌∷◌}
use Rattle.cops_wire.specs.declared.message.Message.{Message}
use Rattle.cops_wire.specs.declared.message.Message.TheVariants.{Hello, HelloOk, Put, Get, PutDone, Got, Missed, Refused, PutAfter, DepCheck, DepYes, DepWait, Status, StatusIs, Bye, ByeOk, TraceHead, TracePut, TraceGot, TraceMissed, TraceEnd, Del, Deleted, Gone, DelAfter, TraceDel, TraceGone}
use Rattle.cops_wire.specs.Field.{of_number, of_bytes, of_pairs}
use Rattle.cops_wire.specs.Grammar.{Parts, grammar_two, encoding}

abbrev pub parts : Message → Parts
parts (Hello profile client) = record { kind = 1; contents = of_number profile ∷ of_number client ∷ [] }
parts (HelloOk dc nodes) = record { kind = 2; contents = of_number dc ∷ of_number nodes ∷ [] }
parts (Put seq key value) = record { kind = 3; contents = of_number seq ∷ of_bytes key ∷ of_bytes value ∷ [] }
parts (Get seq key) = record { kind = 4; contents = of_number seq ∷ of_bytes key ∷ [] }
parts (PutDone seq version) = record { kind = 5; contents = of_number seq ∷ of_number version ∷ [] }
parts (Got seq value version) = record { kind = 6; contents = of_number seq ∷ of_bytes value ∷ of_number version ∷ [] }
parts (Missed seq) = record { kind = 7; contents = of_number seq ∷ [] }
parts (Refused seq code) = record { kind = 8; contents = of_number seq ∷ of_number code ∷ [] }
parts (PutAfter key value version deps) = record { kind = 9; contents = of_bytes key ∷ of_bytes value ∷ of_number version ∷ of_pairs deps ∷ [] }
parts (DepCheck seq key version) = record { kind = 10; contents = of_number seq ∷ of_bytes key ∷ of_number version ∷ [] }
parts (DepYes seq) = record { kind = 11; contents = of_number seq ∷ [] }
parts (DepWait seq) = record { kind = 12; contents = of_number seq ∷ [] }
parts (Status seq node) = record { kind = 13; contents = of_number seq ∷ of_number node ∷ [] }
parts (StatusIs seq clock keys settled held) = record { kind = 14; contents = of_number seq ∷ of_number clock ∷ of_number keys ∷ of_number settled ∷ of_number held ∷ [] }
parts Bye = record { kind = 15; contents = [] }
parts ByeOk = record { kind = 16; contents = [] }
parts (TraceHead format clients) = record { kind = 17; contents = of_number format ∷ of_number clients ∷ [] }
parts (TracePut client index key value version) = record { kind = 18; contents = of_number client ∷ of_number index ∷ of_bytes key ∷ of_bytes value ∷ of_number version ∷ [] }
parts (TraceGot client index key value version) = record { kind = 19; contents = of_number client ∷ of_number index ∷ of_bytes key ∷ of_bytes value ∷ of_number version ∷ [] }
parts (TraceMissed client index key) = record { kind = 20; contents = of_number client ∷ of_number index ∷ of_bytes key ∷ [] }
parts (TraceEnd ops) = record { kind = 21; contents = of_number ops ∷ [] }
parts (Del seq key) = record { kind = 22; contents = of_number seq ∷ of_bytes key ∷ [] }
parts (Deleted seq version) = record { kind = 23; contents = of_number seq ∷ of_number version ∷ [] }
parts (Gone seq version) = record { kind = 24; contents = of_number seq ∷ of_number version ∷ [] }
parts (DelAfter key version deps) = record { kind = 25; contents = of_bytes key ∷ of_number version ∷ of_pairs deps ∷ [] }
parts (TraceDel client index key version) = record { kind = 26; contents = of_number client ∷ of_number index ∷ of_bytes key ∷ of_number version ∷ [] }
parts (TraceGone client index key version) = record { kind = 27; contents = of_number client ∷ of_number index ∷ of_bytes key ∷ of_number version ∷ [] }

-- the encoding of a message in format 2, which has all messages
unfoldable pub encoded : Message → List ℕ
encoded m = encoding grammar_two (parts m)
