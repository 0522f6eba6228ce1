-- Contexts and contents stay of the format, and sessions stay within their limits.
use Rattle.std.proofs.Common.{◌≡◌, ℕ, ◌<◌, ◌⊎◌, inl, inr, List, [], ◌∷◌, ◌++◌, Bool, true, false, cond, Contains, length, slice_index_or, slice_set, refl, sym, ap, ◌∙◌, arith, subst, get_or-set_same, get_or-set_other, nat_lt}
use Rattle.std.specs.List.{IsDistinct}
use Rattle.std.proofs.lemmas.Bool.{cases_eq, and_parts, ltb-true}
use Rattle.cops_types.specs.declared.limits.TheConstants.{MAX_CLIENT_OPS, MAX_OPS}
use Rattle.cops_types.specs.declared.dep.Dep.{Dep}
use Rattle.cops_types.specs.declared.format.Format.{Format}
use Rattle.cops_types.specs.declared.put_record.PutRecord.{PutRecord}
use Rattle.cops_types.specs.Format.{most_deps, Fits}
use Rattle.cops_types.specs.Recorded.{IsWithinLimits}
use Rattle.cops_types.specs.Counts.{count_of}
use Rattle.cops_types.specs.Histories.{with_op, Operation}
use Rattle.cops_types.proofs.Sessions.{within_with_op}
use Rattle.cops_context.specs.Context.{has_pair, with_pair}
use Rattle.cops_context.specs.Kept.{IsContext}
use Rattle.cops_context.proofs.PairLists.{context_push, deps_within}
use Rattle.cops_core.specs.World.{Setting, World, context_in, has_room}

-- contexts and contents are of the format, and sessions are within their limits
pub record IsBounded (s : Setting) (w : World) : Type 0 where
  pub contexts : (client : ℕ) → IsContext (most_deps s.format) (context_in w client)
  pub limits : IsWithinLimits w.sessions
  pub fits : (p : PutRecord) → Contains w.issued p → Fits s.format p.value

pub no_pairs : (most : ℕ) → IsContext most []
unfolding IsDistinct
no_pairs most = record { few = omega arith; distinct = tt }

pub one_pair : (format : Format) (pair : Dep) → IsContext (most_deps format) (pair ∷ [])
one_pair format pair = context_push (most_deps format) [] pair (no_pairs (most_deps format)) refl (deps_within format).0

pub context_gains : (most : ℕ) (pairs : List Dep) (pair : Dep) → IsContext most pairs → length pairs < most → IsContext most (with_pair pairs pair)
context_gains most pairs pair h few = go (has_pair pairs pair) refl
  where
    go : (b : Bool) → has_pair pairs pair ≡ b → IsContext most (cond b pairs (pairs ++ pair ∷ []))
    go true e = h
    go false e = context_push most pairs pair h e few

-- recording a client's operation
pub bounded_answered : (s : Setting) (old new : World) (client : ℕ) (op : Operation) (context : List Dep) → IsBounded s old → client < length old.sessions → client < length old.contexts → has_room old client ≡ true
    → new.contexts ≡ slice_set old.contexts client context → new.sessions ≡ with_op old.sessions client op → IsContext (most_deps s.format) context → ((p : PutRecord) → Contains new.issued p → Fits s.format p.value) → IsBounded s new
bounded_answered s old new client op context b known there room contexts sessions is fits = record {
  contexts = λ c. cases c (cases_eq c client);
  limits = subst IsWithinLimits (sym sessions) (within_with_op old.sessions client op (known, ltb-true (length (slice_index_or old.sessions client [])) MAX_CLIENT_OPS parts.0, ltb-true (count_of old.sessions) MAX_OPS parts.1) b.limits);
  fits = fits;
}
  where
    parts : (nat_lt (length (slice_index_or old.sessions client [])) MAX_CLIENT_OPS ≡ true) × (nat_lt (count_of old.sessions) MAX_OPS ≡ true)
    parts = and_parts (nat_lt (length (slice_index_or old.sessions client [])) MAX_CLIENT_OPS) (nat_lt (count_of old.sessions) MAX_OPS) room

    cases : (c : ℕ) → (c ≡ client) ⊎ (c ≡ client → ⊥) → IsContext (most_deps s.format) (context_in new c)
    cases c (inl e) =
        subst (λ x. IsContext (most_deps s.format) (slice_index_or new.contexts x [])) (sym e)
        (subst (IsContext (most_deps s.format)) (sym (ap (λ (x : List (List Dep)). slice_index_or x client []) contexts ∙ get_or-set_same old.contexts client context [] there)) is)
    cases c (inr ne) =
        subst (IsContext (most_deps s.format)) (sym (ap (λ (x : List (List Dep)). slice_index_or x c []) contexts ∙ get_or-set_other old.contexts client c context [] ne)) (b.contexts c)

pub bounded_stays : (s : Setting) (old new : World) → IsBounded s old → new.contexts ≡ old.contexts → new.sessions ≡ old.sessions → new.issued ≡ old.issued → IsBounded s new
bounded_stays s old new b contexts sessions issued = record {
  contexts = λ c. subst (IsContext (most_deps s.format)) (sym (ap (λ (x : List (List Dep)). slice_index_or x c []) contexts)) (b.contexts c);
  limits = subst IsWithinLimits (sym sessions) b.limits;
  fits = λ p h. b.fits p (subst (λ (x : List PutRecord). Contains x p) issued h);
}
