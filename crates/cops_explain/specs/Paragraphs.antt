-- The paragraph of a fault.
use Rattle.std.specs.Prelude.{◌≡◌, ◌-◌, ℕ, zero, suc, List, [], ◌∷◌, ◌++◌, ◌==◌, if◌then◌else◌, length, take, codes, decimal, Option, Some, None}
use Rattle.cops_types.specs.declared.op.OpName.{OpName}
use Rattle.cops_types.specs.Histories.{Operation, read, missed, op_at}
use Rattle.cops_types.specs.Texts.{◌⧺◌}
use Rattle.cops_audit.specs.declared.verdict.NotAbove.{NotAbove as ANotAbove}
use Rattle.cops_audit.specs.declared.verdict.Stale.{Stale as AStale}
use Rattle.cops_report.specs.Chains.{IsFirstChain}
use Rattle.cops_explain.specs.declared.causes.TheConstants.{DOUBLED, NO_SOURCE, NOT_ABOVE, STALE}
use Rattle.cops_explain.specs.declared.limits.TheConstants.{MOST_OTHERS}
use Rattle.cops_audit.specs.declared.fault.Fault.{Fault}
use Rattle.cops_audit.specs.declared.fault.Fault.TheVariants.{Doubled, NoSource, NotAbove, Stale}
use Rattle.cops_explain.specs.declared.contents.Form.TheVariants.{Readable}
use Rattle.cops_explain.specs.Names.{fault_text, name_text}
use Rattle.cops_explain.specs.Naming.{ANamedHistory}
use Rattle.cops_explain.specs.Operations.{act_text, reported_line, reported_lines, reported_text}
use Rattle.cops_explain.specs.Others.{AreOthers}
use Rattle.cops_explain.specs.Steps.{chain_text, known_by}

-- what an operation is called in a paragraph
abbrev pub called : ANamedHistory → OpName → List ℕ
called h name = name_text Readable h.naming name

-- after an empty line: fault 1: stale (1,1)
abbrev pub title : ANamedHistory → ℕ → Fault → List ℕ
title h number fault = codes "\nfault " ⧺ decimal number ⧺ codes ": " ⧺ fault_text Readable h.naming fault ⧺ codes "\n"

-- an operation, and what is said of it
abbrev pub said_text : ANamedHistory → OpName → List ℕ → List ℕ
said_text h name words = reported_line h name ⧺ words

-- how many more puts have a version, if any do
abbrev pub more_others : ℕ → List ℕ
more_others zero = []
more_others (suc more) = codes "and " ⧺ decimal (suc more) ⧺ codes " more of that version\n"

-- a line for each of the first puts with a version, and how many more there are
abbrev pub others_text : ANamedHistory → List OpName → List ℕ
others_text h others = reported_lines h (take MOST_OTHERS others) ⧺ more_others (length others - MOST_OTHERS)

-- a put, and the others with its version
abbrev pub doubled_text : ANamedHistory → OpName → List OpName → List ℕ
doubled_text h name others = said_text h name (codes "no other put may have that version, and these do:\n") ⧺ others_text h others

-- the puts with the version that a get without a source returned
abbrev pub holders_text : ANamedHistory → List OpName → List ℕ
holders_text h [] = codes "no put has that version\n"
holders_text h (put ∷ puts) = codes "of that version there is:\n" ⧺ others_text h (put ∷ puts)

-- a get, and the puts with the version that it returned, whose keys or values differ
abbrev pub no_source_text : ANamedHistory → OpName → List OpName → List ℕ
no_source_text h name holders = said_text h name (codes "no put has that key, value and version\n") ⧺ holders_text h holders

-- a put, and the first operation before it whose version it is not above
abbrev pub not_above_text : ANamedHistory → ANotAbove → List ℕ
not_above_text h fault =
    said_text h fault.op (codes "its version is not above that of what its client did before:\n") ⧺ reported_line h fault.earlier

-- a get, and the newer put that it had to know of
abbrev pub stale_head : ANamedHistory → AStale → List ℕ
stale_head h fault = act_text Readable h fault.op ⧺ codes ", though it had to know of the newer put " ⧺ called h fault.newer ⧺ codes "\n"

-- what a stale get returned
abbrev pub stale_return : Option Operation → List ℕ
stale_return (Some (missed key)) = codes "nothing"
stale_return (Some (read key None version)) = codes "an older deletion"
stale_return _ = codes "an older put"

-- how the client of a stale get knew of the newer put: the put is its own, or it came to know of it by this operation
abbrev pub known_text : ANamedHistory → AStale → OpName → List ℕ
known_text h fault by =
    if fault.newer.client == fault.op.client then codes "the newer put " ⧺ called h fault.newer ⧺ codes " is its client's own\n"
    else codes "its client knew of the newer put by " ⧺ called h by ⧺ codes "\n"

-- the operation to look at, and what it returned
abbrev pub returned_text : ANamedHistory → OpName → List ℕ
returned_text h name = codes "look at: " ⧺ called h name ⧺ codes ", which returned " ⧺ stale_return (op_at h.sessions name) ⧺ codes "; "

-- what it should have returned
abbrev pub right_text : ANamedHistory → OpName → List ℕ
right_text h newer = codes "should have returned: " ⧺ reported_text Readable h newer ⧺ codes ", or a newer put\n"

-- what it should have returned, and where to look: the stale get, what it returned, and how its client knew of the newer put
abbrev pub stale_end : ANamedHistory → AStale → OpName → List ℕ
stale_end h fault by = right_text h fault.newer ⧺ returned_text h fault.op ⧺ known_text h fault by

-- a stale get, with the chain by which the put came to be known
abbrev pub stale_text : ANamedHistory → AStale → List OpName → List ℕ
stale_text h fault chain = stale_head h fault ⧺ chain_text h chain ⧺ stale_end h fault (known_by fault.newer chain)

-- what shows a fault, by its class
abbrev pub Shows : ANamedHistory → Fault → List ℕ → Type 0
Shows h (Doubled name) text = (others : List OpName) × AreOthers h.sessions name others × (text ≡ doubled_text h name others)
Shows h (NoSource name) text = (holders : List OpName) × AreOthers h.sessions name holders × (text ≡ no_source_text h name holders)
Shows h (NotAbove fault) text = text ≡ not_above_text h fault
Shows h (Stale fault) text = (chain : List OpName) × IsFirstChain h.sessions fault.newer fault.op chain × (text ≡ stale_text h fault chain)

-- what usually causes the faults of a class
abbrev pub cause_text : Fault → List ℕ
cause_text (Doubled name) = DOUBLED.now
cause_text (NoSource name) = NO_SOURCE.now
cause_text (NotAbove fault) = NOT_ABOVE.now
cause_text (Stale fault) = STALE.now

-- the paragraph of a fault: its title, what shows it, and what usually causes it
abbrev pub IsParagraph : ANamedHistory → ℕ → Fault → List ℕ → Type 0
IsParagraph h number fault text = (shown : List ℕ) × Shows h fault shown × (text ≡ title h number fault ⧺ shown ⧺ cause_text fault)

-- the text gains what shows a fault
abbrev pub AddsShown : ANamedHistory → Fault → List ℕ → List ℕ → Type 0
AddsShown h fault old new = (shown : List ℕ) × Shows h fault shown × (new ≡ old ++ shown)

-- the text gains the paragraph of one fault
abbrev pub AddsParagraph : ANamedHistory → ℕ → Fault → List ℕ → List ℕ → Type 0
AddsParagraph h number fault old new = (reported : List ℕ) × IsParagraph h number fault reported × (new ≡ old ++ reported)
