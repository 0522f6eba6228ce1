-- What clients, operations and faults are called.
use Rattle.std.specs.Prelude.{ℕ, List, [], codes, decimal, slice_index_or}
use Rattle.cops_types.specs.declared.op.OpName.{OpName}
use Rattle.cops_types.specs.Texts.{◌⧺◌, name_text as trace_name}
use Rattle.cops_audit.specs.declared.fault.Fault.{Fault}
use Rattle.cops_audit.specs.Faults.{class_text, op_of}
use Rattle.cops_explain.specs.declared.contents.Form.{Form}
use Rattle.cops_explain.specs.declared.naming.Naming.{Naming}
use Rattle.cops_explain.specs.declared.naming.Naming.TheVariants.{Trace, Lines}
use Rattle.cops_explain.specs.Contents.{content_text}

-- client 0, or the client's name: ann
abbrev pub client_text : Form → Naming → ℕ → List ℕ
client_text form Trace client = codes "client " ⧺ decimal client
client_text form (Lines names) client = content_text form (slice_index_or names.names client [])

-- (0,0), or the client and the number of the line: ann, line 2
abbrev pub name_text : Form → Naming → OpName → List ℕ
name_text form Trace name = trace_name name
name_text form (Lines names) name =
    client_text form (Lines names) name.client
    ⧺ codes ", line " ⧺ decimal (slice_index_or (slice_index_or names.lines name.client []) name.index 0)

-- the beginning of a line about an operation: its name, and its client where the name does not say it in words
abbrev pub opening_text : Form → Naming → OpName → List ℕ
opening_text form Trace name = name_text form Trace name ⧺ codes " " ⧺ client_text form Trace name.client ⧺ codes " "
opening_text form (Lines names) name = name_text form (Lines names) name ⧺ codes ": "

-- the class of a fault, and its operation: stale (1,1), or stale ann, line 2
abbrev pub fault_text : Form → Naming → Fault → List ℕ
fault_text form naming fault = class_text fault ⧺ codes " " ⧺ name_text form naming (op_of fault)
