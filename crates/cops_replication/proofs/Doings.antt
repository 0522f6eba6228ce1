-- How much a receiver does, step by step.
use Rattle.std.proofs.Common.{◌≡◌, Bool, true, false, cond, ℕ, ◌+◌, ◌-◌, ◌<◌, ◌≤◌, inl, inr, List, [], ◌∷◌, ◌++◌, get_or, length, min, set, ap, refl, sym, subst, ◌∙◌, arith}
use Rattle.std.specs.List.{count_by, sum_by}
use Rattle.std.proofs.lemmas.Bool.{cases_Bool, cases_lt}
use Rattle.std.proofs.lemmas.List.{get_or-set_other, get_or-set_same, length-append}
use Rattle.std.proofs.lemmas.List.Sums.{sum_by-set, sum_by_push}
use Rattle.cops_node.specs.declared.event.NodeEvent.{NodeEvent}
use Rattle.cops_node.specs.declared.event.NodeEvent.TheVariants.{Put, Mark, Settle}
use Rattle.cops_node.specs.declared.outcome.Outcome.{Outcome}
use Rattle.cops_node.specs.declared.outcome.Outcome.TheVariants.{Marked, Settled, Refused}
use Rattle.cops_types.specs.declared.refusal.Refusal.{Refusal}
use Rattle.cops_types.specs.declared.refusal.Refusal.TheVariants.{NotHeld, UnknownDc}
use Rattle.cops_node.specs.Book.{entry}
use Rattle.cops_cluster.specs.Cluster.{IsNode}
use Rattle.cops_cluster.specs.Shares.{Adds, AddsEntry, is_of_node, made}
use Rattle.cops_cluster.specs.declared.cluster.Cluster.{Cluster}
use Rattle.cops_cluster.specs.declared.share.Made.{Made}
use Rattle.cops_cluster.specs.declared.share.Share.{Share}
use Rattle.cops_link.specs.Link.{seen, taken}
use Rattle.cops_link.specs.declared.ends.LinkOut.{LinkOut}
use Rattle.cops_replication.specs.Answers.{answer_to}
use Rattle.cops_replication.specs.Doing.{advances, frames_taken, is_advance}
use Rattle.cops_replication.specs.declared.arrival.NodeAnswer.TheVariants.{Marked as WasMarked, Settled as WasSettled}

-- ---- entries that count

-- appending one entry
one_more : (a b : Share) (node : ℕ) (event : NodeEvent) (outcome : Outcome) → AddsEntry a.entries.items b.entries.items node event outcome → advances b ≡ advances a + cond (is_advance event outcome) 1 0
one_more a b node event outcome adds =
    let count : Made → ℕ = λ (m : Made). cond (is_advance m.entry.event m.entry.outcome) 1 0 in
    ap (λ (l : List Made). sum_by count l) adds.1 ∙ sum_by_push count a.entries.items (made node (entry adds.0 event outcome))

same_entries : (a b : Share) → b.entries.items ≡ a.entries.items → advances b ≡ advances a
same_entries a b same = ap (λ (l : List Made). count_by (λ (m : Made). is_advance m.entry.event m.entry.outcome) l) same

-- a refusal does not count
refused_none : (event : NodeEvent) (refusal : Refusal) → is_advance event (Refused refusal) ≡ false
refused_none (Put client key value deps) refusal = refl
refused_none event refusal = refl

-- neither does an outcome that is not a node's own
not_of_node : (event : NodeEvent) (outcome : Outcome) → is_of_node outcome ≡ false → is_advance event outcome ≡ false
not_of_node event (Refused refusal) is = refused_none event refusal
not_of_node event outcome is = absurd cc

reported_one : (a b : Share) (node : ℕ) (event : NodeEvent) (outcome : Outcome) → Adds a.entries.items b.entries.items node event outcome → advances b ≡ advances a + cond (is_advance event outcome) 1 0
reported_one a b node event outcome adds =
    elim (cases_Bool (is_of_node outcome)) [
      | inl answers ↦ one_more a b node event outcome (adds.0 answers)
      | inr none ↦ same_entries a b (adds.1 none) ∙ omega arith ∙ ap (λ (x : Bool). advances a + cond x 1 0) (sym (not_of_node event outcome none))
    ]

-- a step that did not happen, with a refusal
refused_one : (a b : Share) (event : NodeEvent) (outcome : Outcome) (refusal : Refusal) → b.entries.items ≡ a.entries.items → outcome ≡ Refused refusal → advances b ≡ advances a + cond (is_advance event outcome) 1 0
refused_one a b event outcome refusal same is =
    same_entries a b same ∙ omega arith ∙ ap (λ (x : Bool). advances a + cond x 1 0) (sym (ap (is_advance event) is ∙ refused_none event refusal))

-- a step at the node of a version, if there is one
pub advances_reported : (c : Cluster) (dc place node : ℕ) (a b : Share) (event : NodeEvent) (outcome : Outcome)
    → (IsNode c dc place → Adds a.entries.items b.entries.items node event outcome) → ((IsNode c dc place → ⊥) → b.entries.items ≡ a.entries.items)
    → (c.place.dcs ≤ dc → outcome ≡ Refused UnknownDc) → (dc < c.place.dcs → length c.place.splits < place → outcome ≡ Refused NotHeld)
    → advances b ≡ advances a + cond (is_advance event outcome) 1 0
advances_reported c dc place node a b event outcome reported none unknown not_held =
    elim (cases_lt dc c.place.dcs) [
      | inr above ↦ refused_one a b event outcome UnknownDc (none (λ node. absurd (omega (arith, above, node.0)))) (unknown above)
      | inl below ↦
          elim (cases_lt (length c.place.splits) place) [
            | inl far ↦ refused_one a b event outcome NotHeld (none (λ node. absurd (omega (arith, far, node.1)))) (not_held below far)
            | inr near ↦ reported_one a b node event outcome (reported (below, omega (arith, near)))
          ]
    ]

-- ---- what a receiver makes of it

pub marked_is : (version dep : ℕ) (outcome : Outcome) → answer_to outcome ≡ WasMarked → is_advance (Mark version dep) outcome ≡ true
marked_is version dep Marked is = refl
marked_is version dep outcome is = absurd cc

pub unmarked_is : (version dep : ℕ) (outcome : Outcome) → (answer_to outcome ≡ WasMarked → ⊥) → is_advance (Mark version dep) outcome ≡ false
unmarked_is version dep Marked other = absurd (other refl)
unmarked_is version dep outcome other = refl

pub settled_is : (version : ℕ) (outcome : Outcome) → answer_to outcome ≡ WasSettled → is_advance (Settle version) outcome ≡ true
settled_is version Settled is = refl
settled_is version outcome is = absurd cc

pub unsettled_is : (version : ℕ) (outcome : Outcome) → (answer_to outcome ≡ WasSettled → ⊥) → is_advance (Settle version) outcome ≡ false
unsettled_is version Settled other = absurd (other refl)
unsettled_is version outcome other = refl

-- ---- shares that gain

-- ---- links

pub frames_step : (ls : List LinkOut) (k : ℕ) (old new : LinkOut) → k < length ls → old ≡ get_or ls k old → frames_taken (set ls k new) + length (taken old) ≡ frames_taken ls + length (taken new)
frames_step ls k old new less is =
    ap (λ (l : LinkOut). frames_taken (set ls k new) + length (taken l)) is ∙ sum_by-set (λ (l : LinkOut). length (taken l)) ls k new old less

-- nothing was taken from the link
pub none_taken : (ls : List LinkOut) (k : ℕ) (old new : LinkOut) → k < length ls → old ≡ get_or ls k old → taken new ≡ taken old → frames_taken (set ls k new) ≡ frames_taken ls
none_taken ls k old new less is same = omega (arith, frames_step ls k old new less is, ap (λ (l : List (List ℕ)). length l) same)

-- one frame was taken from the link
pub one_taken : (ls : List LinkOut) (k : ℕ) (old new : LinkOut) (frame : List ℕ) → k < length ls → old ≡ get_or ls k old → taken new ≡ taken old ++ frame ∷ [] → frames_taken (set ls k new) ≡ frames_taken ls + 1
one_taken ls k old new frame less is more =
    omega (arith, frames_step ls k old new less is, ap (λ (l : List (List ℕ)). length l) more, length-append (taken old) (frame ∷ []))

-- the link has no more frames
pub empty_more : (ls : List LinkOut) (k : ℕ) (new : LinkOut) → k < length ls → seen new ≡ [] → ((j : ℕ) (d : LinkOut) → j < k → seen (get_or ls j d) ≡ [])
    → (j : ℕ) (d : LinkOut) → j < k + 1 → seen (get_or (set ls k new) j d) ≡ []
empty_more ls k new within none before j d less =
    elim (cases_lt j k) [
      | inl below ↦ subst (λ (l : LinkOut). seen l ≡ []) (sym (get_or-set_other ls k j new d (λ same. absurd (omega (arith, below, same))))) (before j d below)
      | inr above ↦
          let here : k ≡ j = omega (arith, less, above) in
          subst (λ (n : ℕ). seen (get_or (set ls k new) n d) ≡ []) here (subst (λ (l : LinkOut). seen l ≡ []) (sym (get_or-set_same ls k new d within)) none)
    ]

-- one more put was delivered, with counts that are capped at the greatest number
pub count_one : (first before after hand more old sum : ℕ) → first ≤ before → after ≡ before + 1 → more ≡ 1 → old ≡ min (before + hand - first) 18446744073709551615 → sum ≡ min (more + old) 18446744073709551615 → sum ≡ min (after + hand - first) 18446744073709551615
count_one first before after hand more old sum le next one counted is = omega arith
