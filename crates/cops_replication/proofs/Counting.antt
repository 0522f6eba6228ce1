-- The number of frames that were sent on links.
use Rattle.std.proofs.Common.{◌≡◌, ℕ, ◌+◌, ◌-◌, ◌<◌, ◌≤◌, List, [], ◌∷◌, get_or, length, map, min, set, ap, refl, sym, ◌∙◌, arith}
use Rattle.std.proofs.Math.ListN.{get_or-map}
use Rattle.std.proofs.lemmas.List.{length-map, map-set}
use Rattle.std.proofs.lemmas.List.Sums.{sum_by-cons, sum_by-set}
use Rattle.cops_types.specs.declared.put_record.PutRecord.{PutRecord}
use Rattle.cops_link.specs.Link.{sent}
use Rattle.cops_replication.specs.declared.outbox.Lane.{Lane}
use Rattle.cops_replication.specs.Lanes.{ALane, and_due, frames, shown}

-- the number of frames that were sent on a lane's link
abbrev pub count_on : ALane → ℕ
count_on l = length (sent l.link)

-- sending on one link changes the total by what was sent on it
pub frames_set : (puts : List PutRecord) (ls : List Lane) (k : ℕ) (b d : Lane) → k < length ls → frames (map (shown puts) (set ls k b)) + length (sent (get_or ls k d).link) ≡ frames (map (shown puts) ls) + length (sent b.link)
frames_set puts ls k b d less =
    let within : k < length (map (shown puts) ls) = omega (arith, less, length-map ls (shown puts)) in
    let all : frames (set (map (shown puts) ls) k (shown puts b)) + count_on (get_or (map (shown puts) ls) k (shown puts d)) ≡ frames (map (shown puts) ls) + length (sent b.link) =
    sum_by-set count_on (map (shown puts) ls) k (shown puts b) (shown puts d) within in
    ap (λ (l : List ALane). frames l + length (sent (get_or ls k d).link)) (map-set (shown puts) ls k b)
    ∙ ap (λ (x : ALane). frames (set (map (shown puts) ls) k (shown puts b)) + count_on x) (sym (get_or-map (shown puts) ls k d))
    ∙ all

-- appending frames that are due sends nothing
pub frames_due : (puts : List PutRecord) (xs : List ALane) → frames (map (and_due puts) xs) ≡ frames xs
frames_due puts [] = refl
frames_due puts (x ∷ xs) =
    sum_by-cons count_on (and_due puts x) (map (and_due puts) xs) ∙ ap (λ n. length (sent x.link) + n) (frames_due puts xs) ∙ sym (sum_by-cons count_on x xs)

-- adding to a count that is capped at the greatest number
pub count_more : (first before after old new more sum count : ℕ) → first ≤ before → after + old ≡ before + new → new ≡ old + more → count ≡ min (before - first) 18446744073709551615 → sum ≡ min (count + more) 18446744073709551615 → sum ≡ min (after - first) 18446744073709551615
count_more first before after old new more sum count le total one counted is = omega arith
