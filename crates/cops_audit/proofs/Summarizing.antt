-- Causal summaries of a session, one operation after the other.
use Rattle.std.proofs.Common.{rules, ◌≡◌, ◌<◌, ◌≤◌, ◌+◌, ◌-◌, ℕ, List, [], ◌∷◌, ◌++◌, length, get_or, length-append, Some, refl, sym, ◌∙◌, subst, inl, inr, arith, max, slice_get, slice_index_or}
use Rattle.std.proofs.lemmas.Bool.{cases_lt}
use Rattle.std.proofs.lemmas.List.{get_or_append_left, get_or-append_right}
use Rattle.std.proofs.lemmas.Option.{slice_get_within}
use Rattle.std.proofs.lemmas.Grind.{common_steps}
use Rattle.cops_types.specs.declared.op.OpName.{OpName}
use Rattle.cops_types.specs.Histories.{Sessions, IsNamed}
use Rattle.cops_types.specs.declared.versioned_put.VersionedPut.{VersionedPut}
use Rattle.cops_audit.specs.declared.summaries.Summary.{Summary}
use Rattle.cops_audit.specs.declared.summaries.OpPlace.{OpPlace}
use Rattle.cops_audit.specs.declared.summaries.OpPlace.TheVariants.{Put, Got, Missed, Sourceless}
use Rattle.cops_audit.specs.Tables.{IsVersionTable}
use Rattle.cops_audit.specs.Summaries.{above, AreSummarized, IsMark, IsSummarized, IsSeen, IsSessionSummarized, summary_at}
use Rattle.cops_audit.proofs.Listing.{in_lists, named_client, named_index, slice_get_there}
use Rattle.cops_audit.proofs.Places.{inside_table}
use Rattle.cops_audit.proofs.Marks.{mark_kept, mark_more, slice_get_push}

-- places are below the greatest number of puts
pub few_places : (h : Sessions) (table : List VersionedPut) → IsVersionTable h table → (name : OpName) (seen : OpPlace) → IsSeen h table name seen → above seen ≤ length table
few_places h table t name (Put place) s = let l : place < length table = inside_table table place name s.0 s.2 in omega (arith, l)
few_places h table t name (Got place) s = let l : place < length table = inside_table table place s.0 s.1 s.2 in omega (arith, l)
few_places h table t name Missed s = omega arith
few_places h table t name (Sourceless place) s = s.1.inside

-- the summaries so far, which are `count`, with the mark
pub record Summarized (h : Sessions) (table : List VersionedPut) (client : ℕ) (session : List Summary) (count mark : ℕ) : Type 0 where
  pub whole : length session ≡ count
  pub up_to : IsMark session count mark
  pub seen : (i : ℕ) (summary : Summary) → slice_get session i ≡ Some summary → IsSeen h table (record { client = client; index = i }) summary.seen
  pub marks : (i : ℕ) (summary : Summary) → slice_get session i ≡ Some summary → IsMark session (i + 1) summary.mark

pub one_summary_more : (h : Sessions) (table : List VersionedPut) (client : ℕ) (session : List Summary) (count mark : ℕ) (summary : Summary) → Summarized h table client session count mark
    → IsSeen h table (record { client = client; index = count }) summary.seen → IsMark (session ++ summary ∷ []) (count + 1) summary.mark → Summarized h table client (session ++ summary ∷ []) (count + 1) summary.mark
one_summary_more h table client session count mark summary n seen new = record {
  whole = omega (arith, length-append session (summary ∷ []), n.whole);
  up_to = new;
  seen = λ i x at. elim (slice_get_push session summary x i at) [
    | inl old ↦ n.seen i x old
    | inr last ↦ subst (λ (y : Summary). IsSeen h table (record { client = client; index = i }) y.seen) last.1
        (subst (λ (j : ℕ). IsSeen h table (record { client = client; index = j }) summary.seen) (sym (last.0 ∙ n.whole)) seen)
  ];
  marks = λ i x at. elim (slice_get_push session summary x i at) [
    | inl old ↦ mark_kept session summary (i + 1) x.mark (let l : i < length session = slice_get_within session i x old in omega (arith, l)) (n.marks i x old)
    | inr last ↦ subst (λ (y : Summary). IsMark (session ++ summary ∷ []) (i + 1) y.mark) last.1
        (subst (λ (j : ℕ). IsMark (session ++ summary ∷ []) (j + 1) summary.mark) (sym (last.0 ∙ n.whole)) new)
  ];
}

module _ (h : Sessions) (table : List VersionedPut) (client : ℕ) (session : List Summary) (count mark : ℕ) (seen : OpPlace) (n : Summarized h table client session count mark) (is : IsSeen h table (record { client = client; index = count }) seen) where
  -- a place above the mark raises it, and any other leaves it
  pub raised_summary : (m : ℕ) → m ≡ max mark (above seen) → Summarized h table client (session ++ record { seen = seen; mark = m } ∷ []) (count + 1) m
  raised_summary m is_max =
      one_summary_more h table client session count mark (record { seen = seen; mark = m }) n is
      (subst (IsMark (session ++ record { seen = seen; mark = m } ∷ []) (count + 1)) (sym is_max) (mark_more session (record { seen = seen; mark = m }) count mark n.whole n.up_to))

-- the summary of an operation, and the session that it is in
pub session_of : (h : Sessions) (table : List VersionedPut) (summaries : List (List Summary)) → IsSummarized h table summaries → (name : OpName) (summary : Summary) → summary_at summaries name ≡ Some summary
    → IsSessionSummarized h table name.client (slice_index_or summaries name.client [])
session_of h table summaries summarized name summary at = summarized.sessions name.client (omega (arith, summarized.clients, in_lists summaries name.client name.index summary at))

-- each operation has a summary
pub summary_there : (h : Sessions) (table : List VersionedPut) (summaries : List (List Summary)) → IsSummarized h table summaries → (name : OpName) → IsNamed h name → (summary : Summary) × (summary_at summaries name ≡ Some summary)
summary_there h table summaries summarized name named =
    let session = summarized.sessions name.client (named_client h name named) in
    slice_get_there (slice_index_or summaries name.client []) name.index (omega (arith, session.whole, named_index h name named))

-- the summaries of the sessions of all clients
pub summarized_all : (h : Sessions) (table : List VersionedPut) (first end : ℕ) (summaries : List (List Summary)) → first ≡ 0 → end ≡ length h → AreSummarized h table first end summaries → IsSummarized h table summaries
summarized_all h table first end summaries from to n = search rules

-- the summaries of the clients below one, and those of the others
pub summarized_joined : (h : Sessions) (table : List VersionedPut) (first mid end : ℕ) (low high : List (List Summary)) → AreSummarized h table first mid low → AreSummarized h table mid end high
    → AreSummarized h table first end (low ++ high)
summarized_joined h table first mid end low high a b = record {
  clients = omega (arith, length-append low high, a.clients, b.clients);
  sessions = λ k less. elim (cases_lt k (length low)) [
    | inl l ↦ subst (IsSessionSummarized h table (first + k)) (sym (get_or_append_left low high [] k l)) (a.sessions k l)
    | inr le ↦ above k less le
  ];
}
  where
    above : (k : ℕ) → k < length (low ++ high) → length low ≤ k → IsSessionSummarized h table (first + k) (get_or (low ++ high) k [])
    above k less le =
        let j = k - length low in
        let client : mid + j ≡ first + k = omega (arith, le, a.clients) in
        subst (IsSessionSummarized h table (first + k)) (sym (get_or-append_right low high (length low) k [] refl le))
        (subst (λ (n : ℕ). IsSessionSummarized h table n (get_or high j [])) client (b.sessions j (omega (arith, less, le, length-append low high))))

pub summarized_one : (h : Sessions) (table : List VersionedPut) (client : ℕ) (session : List Summary) → IsSessionSummarized h table client session → AreSummarized h table client (client + 1) (session ∷ [])
summarized_one h table client session summarized = grind (arith, common_steps)
