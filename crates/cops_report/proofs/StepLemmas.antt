-- Session steps, by places in a session.
use Rattle.std.proofs.Common.{◌≡◌, ◌∙◌, ◌+◌, ◌≤◌, ℕ, List, [], sym, ap, arith, inl, inr, get_or}
use Rattle.std.proofs.lemmas.Bool.{cases_lt}
use Rattle.cops_types.specs.declared.op.OpName.{OpName}
use Rattle.cops_types.specs.Histories.{Sessions, IsNamed, SessionStep}
use Rattle.cops_report.specs.declared.marks.Mark.{Mark}
use Rattle.cops_report.specs.Marks.{Table, Gains, IsMarked, IsNearer, SessionsMarked}
use Rattle.cops_audit.proofs.Acyclic.{same_name}
use Rattle.cops_audit.proofs.PastOrder.{earlier_there}
use Rattle.cops_report.proofs.GainLemmas.{gains_none}

-- the first operation of a session step is in the history too
pub first_named : (h : Sessions) (a b : OpName) → SessionStep h a b → IsNamed h a
first_named h a b st = rw st.same_client (earlier_there (get_or h b.client []) a.index b.index st.earlier st.is_there)

-- the operations before the name in its session, from this place on, are marked
abbrev pub AreMarkedFrom : Sessions → Table → OpName → ℕ → Type 0
AreMarkedFrom h t name low = (n : OpName) → SessionStep h n name → low ≤ n.index → IsMarked t n

-- one more, going down
pub marked_down : (h : Sessions) (mark : Mark) (s t : Table) (names more : List OpName) (n : OpName) (low : ℕ) → SessionStep h n mark.next → low ≡ n.index + 1 → AreMarkedFrom h s mark.next low
    → Gains h mark s t names more → IsMarked t n → AreMarkedFrom h t mark.next n.index
marked_down h mark s t names more n low own up all g here k st le = elim (cases_lt n.index k.index) [
  | inl above ↦ (let m = all k st (omega arith) in (m.0, g.kept k m.0 m.1))
  | inr same ↦ rw (same_name k n (st.same_client ∙ sym own.same_client) (omega arith)) here
]

-- a name that is marked with fewer steps has all before it marked
pub nearer_marked : (h : Sessions) (mark : Mark) (s t : Table) (names more : List OpName) (n : OpName) (low : ℕ) → SessionStep h n mark.next → low ≡ n.index + 1 → AreMarkedFrom h t mark.next low
    → SessionsMarked h s mark → Gains h mark s t names more → IsNearer t n mark.steps → (k : OpName) → SessionStep h k mark.next → IsMarked t k
nearer_marked h mark s t names more n low own up above sessions g near k st = elim (cases_lt k.index n.index) [
  | inl below ↦
      let before : SessionStep h k n = record { same_client = st.same_client ∙ sym own.same_client; earlier = below; is_there = first_named h n mark.next own } in
      let m = sessions n own was k before in (m.0, g.kept k m.0 m.1)
  | inr high ↦ marked_down h mark t t more more n low own up above (gains_none h mark t more) (near.0, near.1) k st high
]
  where
    was : IsNearer s n mark.steps
    was = elim (g.gained n near.0 near.1) [
      | inl old ↦ (near.0, old, near.2)
      | inr new ↦ (let e : near.0.steps ≡ mark.steps = ap (λ (m : Mark). m.steps) new.1 in absurd (omega (arith, near.2)))
    ]
