-- What a sender read and carried, step by step.
use Rattle.std.proofs.Common.{◌≡◌, ◌==◌, ◌||◌, ◌+◌, ◌≤◌, Bool, true, inl, inr, rules, ℕ, List, [], ◌∷◌, ◌++◌, All, drop, length, map, slice_index, slice_set, append_assoc, ap, refl, sym, ◌∙◌, subst, arith}
use Rattle.std.proofs.lemmas.List.{append-nil}
use Rattle.std.proofs.Common.{replicate}
use Rattle.std.specs.List.{list_any}
use Rattle.std.proofs.Math.Bool.{or-true}
use Rattle.std.proofs.lemmas.Bool.{cases_lt}
use Rattle.std.proofs.lemmas.Grind.{common_steps}
use Rattle.std.proofs.lemmas.List.Concat.{flat_map-append}
use Rattle.std.proofs.lemmas.List.Folds.{list_any-append}
use Rattle.std.proofs.lemmas.List.Elements.{All-append, All-cons}
use Rattle.cops_types.specs.declared.put_record.PutRecord.{PutRecord}
use Rattle.cops_node.specs.Book.{puts_in}
use Rattle.cops_node.specs.declared.entry.Entry.{Entry}
use Rattle.cops_cluster.specs.declared.cluster.Cluster.{Cluster}
use Rattle.cops_cluster.specs.Cluster.{IsNode}
use Rattle.cops_replication.specs.Lanes.{Carried, EachSends, and_due, repeated}
use Rattle.cops_replication.specs.Reading.{Reading, AreReadBelow, is_at, IsReadingAt, puts_read, read_after}
use Rattle.cops_replication.specs.Sending.{Carries, CarriesBelow, lanes}
use Rattle.cops_replication.specs.declared.sender.Sender.{Sender}
use Rattle.cops_replication.proofs.Sends.{carried_refl, carried_trans, carried_more, carried_sent}

read_both : (read : List ℕ) (rs ss : List Reading) → read_after read (rs ++ ss) ≡ read_after (read_after read rs) ss
read_both read [] ss = refl
read_both read (r ∷ rs) ss = read_both (slice_set read r.place (length r.entries)) rs ss

puts_both : (read : List ℕ) (rs ss : List Reading) → puts_read read (rs ++ ss) ≡ puts_read read rs ++ puts_read (read_after read rs) ss
puts_both read [] ss = refl
puts_both read (r ∷ rs) ss =
    let next = slice_set read r.place (length r.entries) in
    let first = puts_in (drop (slice_index read r.place) r.entries) in
    ap (λ (l : List PutRecord). first ++ l) (puts_both next rs ss)
    ∙ sym (append_assoc first (puts_read next rs) (puts_read (read_after next rs) ss))

-- repeating the puts of two lists
repeated_both : (more : ℕ) (xs ys : List PutRecord) → repeated more (xs ++ ys) ≡ repeated more xs ++ repeated more ys
repeated_both more xs ys = flat_map-append (replicate (more + 1)) xs ys

pub carries_refl : (cluster : Cluster) (a : Sender) → Carries cluster a a
carries_refl cluster a = record {
  dc = refl;
  repeat = refl;
  readings = [];
  nodes = λ k d less. absurd (omega (arith, less));
  read = refl;
  carried = carried_refl (lanes a);
}

pub carries_trans : (cluster : Cluster) (a b c : Sender) → Carries cluster a b → Carries cluster b c → Carries cluster a c
carries_trans cluster a b c p q =
    let nodes : All (IsReadingAt cluster a.dc) q.readings = subst (λ (dc : ℕ). All (IsReadingAt cluster dc) q.readings) p.dc q.nodes in
    let puts : puts_read a.read p.readings ++ puts_read b.read q.readings ≡ puts_read a.read (p.readings ++ q.readings) =
    ap (λ (read : List ℕ). puts_read a.read p.readings ++ puts_read read q.readings) p.read ∙ sym (puts_both a.read p.readings q.readings) in
    let first = repeated a.repeat (puts_read a.read p.readings) in
    let all : first ++ repeated b.repeat (puts_read b.read q.readings) ≡ repeated a.repeat (puts_read a.read (p.readings ++ q.readings)) =
    ap (λ (n : ℕ). first ++ repeated n (puts_read b.read q.readings)) p.repeat ∙ sym (repeated_both a.repeat (puts_read a.read p.readings) (puts_read b.read q.readings)) ∙ ap (repeated a.repeat) puts in
    record {
      dc = q.dc ∙ p.dc;
      repeat = q.repeat ∙ p.repeat;
      readings = p.readings ++ q.readings;
      nodes = All-append (IsReadingAt cluster a.dc) p.readings q.readings p.nodes nodes;
      read = q.read ∙ ap (λ (read : List ℕ). read_after read q.readings) p.read ∙ sym (read_both a.read p.readings q.readings);
      carried = subst (λ (l : List PutRecord). Carried l (lanes a) (lanes c)) all (carried_trans first (repeated b.repeat (puts_read b.read q.readings)) (lanes a) (lanes b) (lanes c) p.carried q.carried);
    }

-- reading one log
pub carries_one : (cluster : Cluster) (a b : Sender) (place count : ℕ) (puts : List PutRecord) (entries : List Entry) → b.dc ≡ a.dc → b.repeat ≡ a.repeat → IsReadingAt cluster a.dc (record { place = place; entries = entries }) → count ≡ length entries → b.read ≡ slice_set a.read place count → puts ≡ puts_in (drop (slice_index a.read place) entries) → lanes b ≡ map (and_due (repeated a.repeat puts)) (lanes a) → Carries cluster a b
carries_one cluster a b place count puts entries dc repeat node all read found more =
    let r : Reading = record { place = place; entries = entries } in
    let found_all : puts ≡ puts_read a.read (r ∷ []) = found ∙ sym (append-nil (puts_in (drop (slice_index a.read place) entries))) in
    record {
      dc = dc;
      repeat = repeat;
      readings = r ∷ [];
      nodes = All-cons (IsReadingAt cluster a.dc) r [] node (λ k d less. absurd (omega (arith, less)));
      read = read ∙ ap (slice_set a.read place) all;
      carried = subst (λ (l : List PutRecord). Carried (repeated a.repeat l) (lanes a) (lanes b)) found_all (carried_more (repeated a.repeat puts) (lanes a) (lanes b) more);
    }

-- sending frames
pub carries_sent : (cluster : Cluster) (a b : Sender) → b.dc ≡ a.dc → b.repeat ≡ a.repeat → b.read ≡ a.read → EachSends (lanes a) (lanes b) → Carries cluster a b
carries_sent cluster a b dc repeat read sends = record {
  dc = dc;
  repeat = repeat;
  readings = [];
  nodes = λ k d less. absurd (omega (arith, less));
  read = read;
  carried = carried_sent (lanes a) (lanes b) sends;
}

-- no node is at a place below 0
pub below_none : (cluster : Cluster) (dc : ℕ) (rs : List Reading) → AreReadBelow cluster dc 0 rs
below_none cluster dc rs = λ place less is. absurd (omega (arith, less))

-- what was read stays read when more is read after it
pub below_kept : (cluster : Cluster) (dc end : ℕ) (rs ss : List Reading) → AreReadBelow cluster dc end rs → AreReadBelow cluster dc end (rs ++ ss)
below_kept cluster dc end rs ss all = λ place less is.
    list_any-append (is_at place) rs ss ∙ ap (λ (b : Bool). b || list_any (is_at place) ss) (all place less is)

-- what was read stays read when more is read before it
pub below_after : (cluster : Cluster) (dc end : ℕ) (rs ss : List Reading) → AreReadBelow cluster dc end ss → AreReadBelow cluster dc end (rs ++ ss)
below_after cluster dc end rs ss all = λ place less is.
    list_any-append (is_at place) rs ss ∙ ap (λ (b : Bool). list_any (is_at place) rs || b) (all place less is) ∙ or-true (list_any (is_at place) rs)

same_place : (n : ℕ) → (n == n) ≡ true
same_place n = search rules

here_is : (n : ℕ) (entries : List Entry) → list_any (is_at n) (record { place = n; entries = entries } ∷ []) ≡ true
here_is n entries = grind (arith, common_steps, same_place n)

-- reading one more node
pub below_more : (cluster : Cluster) (dc end : ℕ) (rs : List Reading) (entries : List Entry) → AreReadBelow cluster dc end rs → AreReadBelow cluster dc (end + 1) (rs ++ record { place = end; entries = entries } ∷ [])
below_more cluster dc end rs entries all = λ place less is.
    let r : Reading = record { place = end; entries = entries } in
    elim (cases_lt place end) [
      | inl below ↦ below_kept cluster dc end rs (r ∷ []) all place below is
      | inr above ↦
          let same : end ≡ place = omega (arith, less, above) in
          list_any-append (is_at place) rs (r ∷ []) ∙ ap (λ (b : Bool). list_any (is_at place) rs || b) (subst (λ (n : ℕ). list_any (is_at n) (r ∷ []) ≡ true) same (here_is end entries)) ∙ or-true (list_any (is_at place) rs)
    ]

-- there is no node from this place on
pub below_rest : (cluster : Cluster) (dc end : ℕ) (rs : List Reading) → (IsNode cluster dc end → ⊥) → AreReadBelow cluster dc end rs → AreReadBelow cluster dc 64 rs
below_rest cluster dc end rs none all = λ place less is.
    elim (cases_lt place end) [
      | inl below ↦ all place below is
      | inr above ↦ absurd (none (is.0, omega (arith, above, is.1)))
    ]

pub below_refl : (cluster : Cluster) (a : Sender) → CarriesBelow 0 cluster a a
below_refl cluster a = record { carries = carries_refl cluster a; all = below_none cluster a.dc (carries_refl cluster a).readings }

-- all nodes were read, and then frames were sent
pub below_sent : (end : ℕ) (cluster : Cluster) (a b c : Sender) (p : CarriesBelow end cluster a b) (q : Carries cluster b c) → CarriesBelow end cluster a c
unfolding carries_trans
below_sent end cluster a b c p q = record {
  carries = carries_trans cluster a b c p.carries q;
  all = below_kept cluster a.dc end p.carries.readings q.readings p.all;
}

-- all nodes were read in the end
pub below_at_last : (end : ℕ) (cluster : Cluster) (a b c : Sender) (p : Carries cluster a b) (q : CarriesBelow end cluster b c) → CarriesBelow end cluster a c
unfolding carries_trans
below_at_last end cluster a b c p q = record {
  carries = carries_trans cluster a b c p q.carries;
  all = below_after cluster a.dc end p.readings q.carries.readings (subst (λ (dc : ℕ). AreReadBelow cluster dc end q.carries.readings) p.dc q.all);
}

-- the log at the next place was read
pub below_one : (cluster : Cluster) (start a b : Sender) (place count : ℕ) (puts : List PutRecord) (entries : List Entry) → CarriesBelow place cluster start a → b.dc ≡ a.dc → b.repeat ≡ a.repeat → IsReadingAt cluster a.dc (record { place = place; entries = entries }) → count ≡ length entries → b.read ≡ slice_set a.read place count → puts ≡ puts_in (drop (slice_index a.read place) entries) → lanes b ≡ map (and_due (repeated a.repeat puts)) (lanes a) → CarriesBelow (place + 1) cluster start b
unfolding carries_trans carries_one
below_one cluster start a b place count puts entries p dc repeat node all read found more =
    let one = carries_one cluster a b place count puts entries dc repeat node all read found more in
    record {
      carries = carries_trans cluster start a b p.carries one;
      all = below_more cluster start.dc place p.carries.readings entries p.all;
    }

-- there is no node at the next place
pub below_last : (end : ℕ) (cluster : Cluster) (a b : Sender) (p : CarriesBelow end cluster a b) → (IsNode cluster b.dc end → ⊥) → CarriesBelow 64 cluster a b
below_last end cluster a b p none = record {
  carries = p.carries;
  all = below_rest cluster a.dc end p.carries.readings (subst (λ (dc : ℕ). IsNode cluster dc end → ⊥) p.carries.dc none) p.all;
}

-- there are no more places
pub below_end : (end : ℕ) (cluster : Cluster) (a b : Sender) (p : CarriesBelow end cluster a b) → 64 ≤ end → CarriesBelow 64 cluster a b
below_end end cluster a b p le = record { carries = p.carries; all = λ place less is. p.all place (omega (arith, less, le)) is }
