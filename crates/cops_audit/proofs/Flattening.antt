-- Causal summaries, session by session in one list.
use Rattle.std.proofs.Common.{◌≡◌, ℕ, suc, List, [], ◌∷◌, ◌++◌, length, map, All, refl, arith}
use Rattle.std.proofs.lemmas.Grind.{common_steps}
use Rattle.cops_audit.specs.declared.flat.Span.{Span}
use Rattle.cops_audit.specs.declared.summaries.Summary.{Summary}
use Rattle.cops_audit.specs.Summaries.{IsWithin, span_of}

module _ (summaries session : List Summary) where
  -- a span of the summaries stays as it is where more follow
  span_kept : (span : Span) → IsWithin summaries span → span_of (summaries ++ session) span ≡ span_of summaries span
  span_kept span within = grind (arith, common_steps)

  spans_kept : (spans : List Span) → All (IsWithin summaries) spans → map (span_of (summaries ++ session)) spans ≡ map (span_of summaries) spans
  spans_kept [] within = refl
  spans_kept (span ∷ spans) within =
      let head = span_kept span (within 0 span (omega arith)) in
      let tail = spans_kept spans (λ k d inside. within (suc k) d (omega (arith, inside))) in
      cc

  -- one more session
  module _ (spans : List Span) (from to : ℕ) (starts : length summaries ≡ from) (ends : length (summaries ++ session) ≡ to) (within : All (IsWithin summaries) spans) where
    whole : span_of (summaries ++ session) (record { from = from; to = to }) ≡ session
    whole = grind (arith, common_steps)

    pub sessions_more : map (span_of (summaries ++ session)) (spans ++ record { from = from; to = to } ∷ []) ≡ map (span_of summaries) spans ++ session ∷ []
    sessions_more = grind (arith, common_steps, spans_kept spans within, whole)

    pub within_more : All (IsWithin (summaries ++ session)) (spans ++ record { from = from; to = to } ∷ [])
    within_more = grind (arith, common_steps)
