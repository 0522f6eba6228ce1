-- The text of a verdict.
use Rattle.std.specs.Prelude.{◌≡◌, ℕ, List, [], ◌∷◌, ◌++◌, length, codes, decimal, Option, Some, None}
use Rattle.std.specs.List.{flat_map}
use Rattle.cops_types.specs.declared.op.OpName.{OpName}
use Rattle.cops_types.specs.Histories.{Sessions, op_at, Operation, write, read, missed}
use Rattle.cops_types.specs.Faults.{HasVersion}
use Rattle.cops_types.specs.Counts.{count_of, put_count}
use Rattle.cops_types.specs.Texts.{◌⧺◌, name_text, version_text}
use Rattle.cops_audit.specs.declared.verdict.Verdict.{Verdict}
use Rattle.cops_audit.specs.declared.verdict.Verdict.TheVariants.{Accepted, Refused}
use Rattle.cops_audit.specs.declared.verdict.Faults.{Faults}
use Rattle.cops_audit.specs.declared.verdict.Faults.TheVariants as class
use Rattle.cops_audit.specs.declared.verdict.NotAbove.{NotAbove}
use Rattle.cops_audit.specs.declared.verdict.Stale.{Stale}
use Rattle.cops_report.specs.Chains.{IsFirstChain}

-- the version of a put or a get, 0 for what has none
abbrev pub op_version : Option Operation → ℕ
op_version (Some (write key value version)) = version
op_version (Some (read key value version)) = version
op_version (Some (missed key)) = 0
op_version None = 0

-- the version of the operation of that name
abbrev pub version_at : Sessions → OpName → ℕ
version_at h name = op_version (op_at h name)

-- a put or a get, which has a version
abbrev pub HasSomeVersion : Sessions → OpName → Type 0
HasSomeVersion h name = (v : ℕ) × HasVersion h name v

-- what a get returned: a version, or nothing
abbrev pub returned_text : Option Operation → List ℕ
returned_text (Some (read key value version)) = version_text version
returned_text _ = codes "nothing"

-- the line of an accepted history
abbrev pub accepted_line : ℕ → ℕ → List ℕ
accepted_line operations puts = codes "accepted: " ⧺ decimal operations ⧺ codes " operations, " ⧺ decimal puts ⧺ codes " puts\n"

-- the first line of a refusal
abbrev pub refused_line : ℕ → ℕ → ℕ → List ℕ
refused_line operations puts faults =
    codes "refused: " ⧺ decimal operations ⧺ codes " operations, " ⧺ decimal puts ⧺ codes " puts, " ⧺ decimal faults ⧺ codes " faults\n"

-- the line of a fault that is reported by a name and its version
abbrev pub named_line : List ℕ → Sessions → OpName → List ℕ
named_line word h name = word ⧺ codes " " ⧺ name_text name ⧺ codes " at " ⧺ version_text (version_at h name) ⧺ codes "\n"

-- a put, and the first earlier operation of its session that it is not above
abbrev pub not_above_line : Sessions → NotAbove → List ℕ
not_above_line h f =
    codes "not above " ⧺ name_text f.op ⧺ codes " at " ⧺ version_text (version_at h f.op)
    ⧺ codes ", earlier " ⧺ name_text f.earlier ⧺ codes " at " ⧺ version_text (version_at h f.earlier) ⧺ codes "\n"

-- the names of a chain, each after a space
abbrev pub chain_text : List OpName → List ℕ
chain_text names = flat_map (λ n. codes " " ++ name_text n) names

-- what a stale get returned, and the newer put
abbrev pub stale_head : Sessions → Stale → List ℕ
stale_head h f =
    codes "stale " ⧺ name_text f.op ⧺ codes " returned " ⧺ returned_text (op_at h f.op)
    ⧺ codes ", newer " ⧺ name_text f.newer ⧺ codes " at " ⧺ version_text (version_at h f.newer) ⧺ codes ", chain"

-- what a stale get returned, the newer put, and the chain from the newer put to the get
abbrev pub stale_line : Sessions → Stale → List OpName → List ℕ
stale_line h f chain = stale_head h f ++ chain_text chain ++ codes "\n"

-- a line for each stale get, with the chain from the newer put to it
abbrev pub AreStaleLines : Sessions → List Stale → List ℕ → Type 0
AreStaleLines h [] text = text ≡ []
AreStaleLines h (f ∷ fs) text = (chain : List OpName) × (rest : List ℕ)
    × IsFirstChain h f.newer f.op chain × (text ≡ stale_line h f chain ++ rest) × AreStaleLines h fs rest

-- the first line of a refusal, and then a line for each fault
abbrev pub refusal : Sessions → ℕ → List ℕ → List ℕ
refusal h faults lines = refused_line (count_of h) (put_count h) faults ++ lines

-- the text of a refusal for stale gets
abbrev pub IsStaleRefusal : Sessions → List Stale → List ℕ → Type 0
IsStaleRefusal h faults text = (lines : List ℕ) × AreStaleLines h faults lines × (text ≡ refusal h (length faults) lines)

-- the text of a refusal, by the class of its faults
abbrev pub IsRefusal : Sessions → Faults → List ℕ → Type 0
IsRefusal h (class.Doubled names) text = text ≡ refusal h (length names.items) (flat_map (named_line (codes "doubled") h) names.items)
IsRefusal h (class.NoSource names) text = text ≡ refusal h (length names.items) (flat_map (named_line (codes "no source") h) names.items)
IsRefusal h (class.NotAbove faults) text = text ≡ refusal h (length faults.items) (flat_map (not_above_line h) faults.items)
IsRefusal h (class.Stale faults) text = IsStaleRefusal h faults.items text

-- the text of the verdict on the history
abbrev pub IsReport : Sessions → Verdict → List ℕ → Type 0
IsReport h (Accepted puts) text = text ≡ accepted_line (count_of h) (put_count h)
IsReport h (Refused faults) text = IsRefusal h faults text
