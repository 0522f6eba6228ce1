-- The text of a message: the kind's name, and for each field a space, its name, `=` and its text.
use Rattle.std.specs.Prelude.{ℕ, ◌/◌, ◌%◌, ◌==◌, Bool, false, ◌||◌, if◌then◌else◌, List, [], ◌∷◌, codes, decimal}
use Rattle.std.specs.List.{flat_map, join_by}
use Rattle.std.specs.Char.{is_ascii_alphanumeric}
use Rattle.std.specs.Fmt.{digit_glyph}
use Rattle.cops_types.specs.declared.dep.Dep.{Dep}
use Rattle.cops_types.specs.Texts.{◌⧺◌, version_text}
use Rattle.cops_wire.specs.declared.message.Message.{Message}
use Rattle.cops_wire.specs.declared.message.Message.TheVariants.{Hello, HelloOk, Put, Get, PutDone, Got, Missed, Refused, PutAfter, DepCheck, DepYes, DepWait, Status, StatusIs, Bye, ByeOk, TraceHead, TracePut, TraceGot, TraceMissed, TraceEnd, Del, Deleted, Gone, DelAfter, TraceDel, TraceGone}

-- a byte that is shown as it is: a letter or digit of ASCII, `-`, `.` or `_`
abbrev pub is_plain : ℕ → Bool
is_plain b = is_ascii_alphanumeric b || b == 45 || b == 46 || b == 95

-- any other byte is shown as `%` and two hexadecimal digits
abbrev pub byte_text : ℕ → List ℕ
byte_text b = if is_plain b then b ∷ [] else codes "%" ⧺ (digit_glyph false (b / 16) ∷ digit_glyph false (b % 16) ∷ [])

-- a key or a value
abbrev pub bytes_text : List ℕ → List ℕ
bytes_text bytes = flat_map byte_text bytes

-- key@version
abbrev pub pair_text : Dep → List ℕ
pair_text d = bytes_text d.key ⧺ codes "@" ⧺ version_text d.version

-- [key@version,key@version]
abbrev pub deps_text : List Dep → List ℕ
deps_text ds = codes "[" ⧺ join_by pair_text (codes ",") ds ⧺ codes "]"

-- a message of any kind
abbrev pub shown : Message → List ℕ
shown (Hello profile client) = codes "Hello profile=" ⧺ decimal profile ⧺ codes " client=" ⧺ decimal client
shown (HelloOk dc nodes) = codes "HelloOk dc=" ⧺ decimal dc ⧺ codes " nodes=" ⧺ decimal nodes
shown (Put seq key value) = codes "Put seq=" ⧺ decimal seq ⧺ codes " key=" ⧺ bytes_text key ⧺ codes " value=" ⧺ bytes_text value
shown (Get seq key) = codes "Get seq=" ⧺ decimal seq ⧺ codes " key=" ⧺ bytes_text key
shown (PutDone seq version) = codes "PutDone seq=" ⧺ decimal seq ⧺ codes " version=" ⧺ version_text version
shown (Got seq value version) = codes "Got seq=" ⧺ decimal seq ⧺ codes " value=" ⧺ bytes_text value ⧺ codes " version=" ⧺ version_text version
shown (Missed seq) = codes "Missed seq=" ⧺ decimal seq
shown (Refused seq code) = codes "Refused seq=" ⧺ decimal seq ⧺ codes " code=" ⧺ decimal code
shown (PutAfter key value version deps) = codes "PutAfter key=" ⧺ bytes_text key ⧺ codes " value=" ⧺ bytes_text value ⧺ codes " version=" ⧺ version_text version ⧺ codes " deps=" ⧺ deps_text deps
shown (DepCheck seq key version) = codes "DepCheck seq=" ⧺ decimal seq ⧺ codes " key=" ⧺ bytes_text key ⧺ codes " version=" ⧺ version_text version
shown (DepYes seq) = codes "DepYes seq=" ⧺ decimal seq
shown (DepWait seq) = codes "DepWait seq=" ⧺ decimal seq
shown (Status seq node) = codes "Status seq=" ⧺ decimal seq ⧺ codes " node=" ⧺ decimal node
shown (StatusIs seq clock keys settled held) = codes "StatusIs seq=" ⧺ decimal seq ⧺ codes " clock=" ⧺ decimal clock ⧺ codes " keys=" ⧺ decimal keys ⧺ codes " settled=" ⧺ decimal settled ⧺ codes " held=" ⧺ decimal held
shown Bye = codes "Bye"
shown ByeOk = codes "ByeOk"
shown (TraceHead format clients) = codes "TraceHead format=" ⧺ decimal format ⧺ codes " clients=" ⧺ decimal clients
shown (TracePut client index key value version) = codes "TracePut client=" ⧺ decimal client ⧺ codes " index=" ⧺ decimal index ⧺ codes " key=" ⧺ bytes_text key ⧺ codes " value=" ⧺ bytes_text value ⧺ codes " version=" ⧺ version_text version
shown (TraceGot client index key value version) = codes "TraceGot client=" ⧺ decimal client ⧺ codes " index=" ⧺ decimal index ⧺ codes " key=" ⧺ bytes_text key ⧺ codes " value=" ⧺ bytes_text value ⧺ codes " version=" ⧺ version_text version
shown (TraceMissed client index key) = codes "TraceMissed client=" ⧺ decimal client ⧺ codes " index=" ⧺ decimal index ⧺ codes " key=" ⧺ bytes_text key
shown (TraceEnd ops) = codes "TraceEnd ops=" ⧺ decimal ops
shown (Del seq key) = codes "Del seq=" ⧺ decimal seq ⧺ codes " key=" ⧺ bytes_text key
shown (Deleted seq version) = codes "Deleted seq=" ⧺ decimal seq ⧺ codes " version=" ⧺ version_text version
shown (Gone seq version) = codes "Gone seq=" ⧺ decimal seq ⧺ codes " version=" ⧺ version_text version
shown (DelAfter key version deps) = codes "DelAfter key=" ⧺ bytes_text key ⧺ codes " version=" ⧺ version_text version ⧺ codes " deps=" ⧺ deps_text deps
shown (TraceDel client index key version) = codes "TraceDel client=" ⧺ decimal client ⧺ codes " index=" ⧺ decimal index ⧺ codes " key=" ⧺ bytes_text key ⧺ codes " version=" ⧺ version_text version
shown (TraceGone client index key version) = codes "TraceGone client=" ⧺ decimal client ⧺ codes " index=" ⧺ decimal index ⧺ codes " key=" ⧺ bytes_text key ⧺ codes " version=" ⧺ version_text version
