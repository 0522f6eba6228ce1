-- The puts by their versions.
use Rattle.std.proofs.Common.{◌≡◌, ◌≢◌, ◌+◌, ◌-◌, ◌<◌, ◌≤◌, ℕ, List, Some, sym, subst, arith, inl, inr, get_or, length, drop, ◌∙◌, ap}
use Rattle.std.proofs.lemmas.Bool.{cases_lt}
use Rattle.std.proofs.lemmas.List.{get_or_default, get_or-drop, length-drop}
use Rattle.cops_types.specs.declared.op.OpName.{OpName}
use Rattle.cops_types.specs.Histories.{Sessions, SourceStep, read}
use Rattle.cops_types.specs.Operations.{GetsVersion}
use Rattle.cops_audit.specs.Tables.{IsPutTable}
use Rattle.cops_report.specs.declared.marks.Mark.{Mark}
use Rattle.cops_types.specs.declared.versioned_put.VersionedPut.{VersionedPut}
use Rattle.cops_report.specs.Marks.{Table, Gains, IsMarked}
use Rattle.cops_report.specs.Puts.{HasPut}

abbrev put_of : OpName → ℕ → VersionedPut
put_of n v = record { version = v; name = n }

-- ---- from a version on

-- where all puts before a place are of earlier versions, those of a version are from it on
pub from_all : (puts : List VersionedPut) (v i : ℕ) → ((k : ℕ) (d : VersionedPut) → k < i → (get_or puts k d).version < v) → (n : OpName) → HasPut puts n v → HasPut (drop i puts) n v
from_all puts v i before n has = elim (cases_lt has.0 i) [
  | inl below ↦
      let e : (get_or puts has.0 (put_of n v)).version ≡ v = ap (λ (p : VersionedPut). p.version) has.2 in
      absurd (omega (arith, before has.0 (put_of n v) below, e))
  | inr above ↦
      let k : i + (has.0 - i) ≡ has.0 = omega arith in
      (has.0 - i, omega (arith, length-drop i puts, has.1), get_or-drop i puts (has.0 - i) (put_of n v) ∙ ap (λ (x : ℕ). get_or puts x (put_of n v)) k ∙ has.2)
]

-- ---- sources

-- the first i puts are marked where they are sources
abbrev pub HoldersMarked : Sessions → Table → Mark → List VersionedPut → ℕ → Type 0
HoldersMarked h t mark puts i = (k : ℕ) (d : VersionedPut) → k < i → SourceStep h (get_or puts k d).name mark.next → IsMarked t (get_or puts k d).name

pub holders_more : (h : Sessions) (mark : Mark) (s t : Table) (names more : List OpName) (puts : List VersionedPut) (i : ℕ) (d : VersionedPut) → i < length puts → HoldersMarked h s mark puts i
    → Gains h mark s t names more → (SourceStep h (get_or puts i d).name mark.next → IsMarked t (get_or puts i d).name) → HoldersMarked h t mark puts (i + 1)
holders_more h mark s t names more puts i d lt all g here k e below st = elim (cases_lt k i) [
  | inl low ↦ (let m = all k e low st in (m.0, g.kept (get_or puts k e).name m.0 m.1))
  | inr high ↦
      let same : i ≡ k = omega arith in
      let is : get_or puts i d ≡ get_or puts k e = get_or_default puts i d e lt ∙ ap (λ (x : ℕ). get_or puts x e) same in
      subst (λ (p : VersionedPut). IsMarked t p.name) is (here (subst (λ (p : VersionedPut). SourceStep h p.name mark.next) (sym is) st))
]

-- all sources are marked where those among the first i holders are, and no later holder has the version
pub holders_all : (h : Sessions) (t : Table) (mark : Mark) (puts holders : List VersionedPut) (i v : ℕ) → IsPutTable h puts → GetsVersion h mark.next v
    → ((n : OpName) → HasPut puts n v → HasPut holders n v) → HoldersMarked h t mark holders i
    → ((k : ℕ) (d : VersionedPut) → i ≤ k → k < length holders → (get_or holders k d).version ≢ v) → (n : OpName) → SourceStep h n mark.next → IsMarked t n
holders_all h t mark puts holders i v all got held marked further n s =
    let e : Some (read s.key s.content s.version) ≡ Some (read got.0 got.1 v) = sym s.got ∙ got.2 in
    let same : s.version ≡ v = cc in
    let has = held n (subst (HasPut puts n) same ((all.members (put_of n s.version)).1 (s.key, s.content, s.put))) in
    elim (cases_lt has.0 i) [
      | inl below ↦ subst (λ (p : VersionedPut). IsMarked t p.name) has.2
          (marked has.0 (put_of n v) below (subst (λ (p : VersionedPut). SourceStep h p.name mark.next) (sym has.2) s))
      | inr above ↦ absurd (further has.0 (put_of n v) above has.1 (ap (λ (p : VersionedPut). p.version) has.2))
    ]
