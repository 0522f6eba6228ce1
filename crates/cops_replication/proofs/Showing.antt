-- Lanes that are represented by how many of the puts were sent on them.
use Rattle.std.proofs.Common.{◌≡◌, ◌↔◌, Bool, IsTrue, ℕ, ◌+◌, ◌-◌, ◌<◌, ◌≤◌, below_more, get_or, set, List, [], ◌∷◌, ◌++◌, All, length, map, drop, refl, sym, ap, subst, ◌∙◌, arith}
use Rattle.std.proofs.lemmas.List.{drop-append-le, drop-drop, drop_all, get_or-set_other, get_or-set_same, length-drop, length-map, map-append, map-set}
use Rattle.std.proofs.lemmas.List.Elements.{All-cons, All-head, All-tail}
use Rattle.cops_types.specs.declared.put_record.PutRecord.{PutRecord}
use Rattle.cops_link.specs.Frame.{encoded}
use Rattle.cops_replication.specs.declared.outbox.Lane.{Lane}
use Rattle.cops_replication.specs.Lanes.{ALane, IsClearOrFull, IsWithin, shown, and_due, counted_from, HasSentAll}

abbrev lane_of : Lane → List (List ℕ) → ALane
lane_of l due = record { link = l.link; due = due }

-- appending puts makes them due on each lane, after all others
pub shown_more : (puts more : List PutRecord) (ls : List Lane) → All (IsWithin puts) ls → map (shown (puts ++ more)) ls ≡ map (and_due more) (map (shown puts) ls)
shown_more puts more [] within = refl
shown_more puts more (l ∷ ls) within =
    let first : map encoded (drop l.next (puts ++ more)) ≡ map encoded (drop l.next puts) ++ map encoded more =
    ap (map encoded) (drop-append-le l.next puts more (All-head (IsWithin puts) l ls within)) ∙ map-append encoded (drop l.next puts) more in
    ap (λ d. lane_of l d ∷ map (shown (puts ++ more)) ls) first
    ∙ ap (λ r. lane_of l (map encoded (drop l.next puts) ++ map encoded more) ∷ r) (shown_more puts more ls (All-tail (IsWithin puts) l ls within))

-- dropping the first puts, which were sent on every lane, changes nothing that is due
pub shown_from : (puts : List PutRecord) (first : ℕ) (ls : List Lane) → All (λ (l : Lane). first ≤ l.next) ls → map (shown (drop first puts)) (map (counted_from first) ls) ≡ map (shown puts) ls
shown_from puts first [] sent = refl
shown_from puts first (l ∷ ls) sent =
    let le : first ≤ l.next = All-head (λ (x : Lane). first ≤ x.next) l ls sent in
    let next : first + (l.next - first) ≡ l.next = omega arith in
    let same : drop (l.next - first) (drop first puts) ≡ drop l.next puts = drop-drop (l.next - first) first puts ∙ ap (λ n. drop n puts) next in
    ap (λ ps. lane_of l (map encoded ps) ∷ map (shown (drop first puts)) (map (counted_from first) ls)) same
    ∙ ap (λ r. shown puts l ∷ r) (shown_from puts first ls (All-tail (λ (x : Lane). first ≤ x.next) l ls sent))

pub within_from : (puts : List PutRecord) (first : ℕ) (ls : List Lane) → All (IsWithin puts) ls → All (IsWithin (drop first puts)) (map (counted_from first) ls)
within_from puts first [] within = λ k d less. absurd (omega (arith, less))
within_from puts first (l ∷ ls) within =
    let le : l.next ≤ length puts = All-head (IsWithin puts) l ls within in
    let here : l.next - first ≤ length (drop first puts) = omega (arith, le, length-drop first puts) in
    All-cons (IsWithin (drop first puts)) (counted_from first l) (map (counted_from first) ls) here (within_from puts first ls (All-tail (IsWithin puts) l ls within))

-- nothing is due on any lane where each was sent all puts
pub due_none : (puts : List PutRecord) (ls : List Lane) → All (λ (l : Lane). length puts ≤ l.next) ls → HasSentAll (map (shown puts) ls)
due_none puts [] sent = λ k d less. absurd (omega (arith, less))
due_none puts (l ∷ ls) sent =
    All-cons (λ (x : ALane). x.due ≡ []) (shown puts l) (map (shown puts) ls)
    (ap (map encoded) (drop_all l.next puts (All-head (λ (x : Lane). length puts ≤ x.next) l ls sent)))
    (due_none puts ls (All-tail (λ (x : Lane). length puts ≤ x.next) l ls sent))

-- each lane was sent all puts where nothing is due on any lane
pub none_due : (puts : List PutRecord) (ls : List Lane) → HasSentAll (map (shown puts) ls) → All (λ (l : Lane). length puts ≤ l.next) ls
none_due puts [] none = λ k d less. absurd (omega (arith, less))
none_due puts (l ∷ ls) none =
    let first : map encoded (drop l.next puts) ≡ [] = All-head (λ (x : ALane). x.due ≡ []) (shown puts l) (map (shown puts) ls) none in
    let count : length puts ≤ l.next = omega (arith, sym (length-map (drop l.next puts) encoded) ∙ ap length first, length-drop l.next puts) in
    All-cons (λ (x : Lane). length puts ≤ x.next) l ls count (none_due puts ls (All-tail (λ (x : ALane). x.due ≡ []) (shown puts l) (map (shown puts) ls) none))

-- how many puts were sent on each lane, in terms of what is due
pub clear_is : (puts : List PutRecord) (ls same : List Lane) (n : ℕ) (all : List ALane) (b : Bool) → same ≡ ls → n ≡ length puts → map (shown puts) ls ≡ all → IsTrue b ↔ All (λ (l : Lane). n ≤ l.next) same → IsTrue b ↔ HasSentAll all
clear_is puts ls same n all b is count view reported =
    let each : IsTrue b ↔ All (λ (l : Lane). length puts ≤ l.next) ls = subst (λ m. IsTrue b ↔ All (λ (l : Lane). m ≤ l.next) ls) count (subst (λ xs. IsTrue b ↔ All (λ (l : Lane). n ≤ l.next) xs) is reported) in
    (λ h. subst HasSentAll view (due_none puts ls (each.0 h)), λ h. each.1 (none_due puts ls (subst HasSentAll (sym view) h)))

-- one more lane has nothing due, or is full
pub filled_more : (puts : List PutRecord) (ls : List Lane) (k : ℕ) (l : Lane) → k < length ls → ((i : ℕ) (d : ALane) → i < k → IsClearOrFull (get_or (map (shown puts) ls) i d)) → IsClearOrFull (shown puts l)
    → (i : ℕ) (d : ALane) → i < k + 1 → IsClearOrFull (get_or (map (shown puts) (set ls k l)) i d)
filled_more puts ls k l inside before here = λ i d less.
    let rows = map (shown puts) ls in
    let is : map (shown puts) (set ls k l) ≡ set rows k (shown puts l) = map-set (shown puts) ls k l in
    let all : (j : ℕ) → j < k + 1 → (e : ALane) → IsClearOrFull (get_or (set rows k (shown puts l)) j e) =
    below_more (λ j. (e : ALane) → IsClearOrFull (get_or (set rows k (shown puts l)) j e)) k
    (λ j below e. subst IsClearOrFull (sym (get_or-set_other rows k j (shown puts l) e (λ same. omega (arith, below, same)))) (before j e below))
    (λ e. subst IsClearOrFull (sym (get_or-set_same rows k (shown puts l) e (omega (arith, inside, length-map ls (shown puts))))) here) in
    subst (λ (r : List ALane). IsClearOrFull (get_or r i d)) (sym is) (all i less d)
