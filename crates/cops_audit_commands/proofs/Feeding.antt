-- An auditor that takes operations.
use Rattle.std.proofs.Common.{◌≡◌, ℕ, List, [], replicate, sym, ap, ◌∙◌}
use Rattle.cops_types.specs.Histories.{Operation, Sessions, with_op}
use Rattle.cops_trace.specs.Text.{ATrace, sessions_of}
use Rattle.cops_trace.specs.Kept.{grown}
use Rattle.cops_trace.proofs.Keeping.{after_push}

-- the sessions of a trace that has one more record
pub fed_more : (h : Sessions) (t : ATrace) (client : ℕ) (op : Operation) → h ≡ sessions_of t → with_op h client op ≡ sessions_of (grown t (record { client = client; op = op }))
fed_more h t client op fed = ap (λ (g : Sessions). with_op g client op) fed ∙ sym (after_push (replicate {A = List Operation} t.clients []) t.records (record { client = client; op = op }))
