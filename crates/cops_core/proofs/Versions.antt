-- Puts stored under their versions.
use Rattle.std.proofs.Common.{◌≡◌, ℕ, List, [], ◌∷◌, ◌++◌, Bool, true, false, cond, ◌==◌, None, Some, Contains, refl, sym, ap, ◌∙◌, eqb-true}
use Rattle.std.specs.Map.{lookup, values_of}
use Rattle.cops_types.specs.declared.put_record.PutRecord.{PutRecord}
use Rattle.cops_core.specs.World.{sent}
use Rattle.cops_core.specs.Parts.{AreByVersion}
use Rattle.cops_core.proofs.Lists.{contains_tail, contains_head}

pub sent_lookup : (version : ℕ) (es : List (ℕ × PutRecord)) → AreByVersion es → lookup (λ k. version == k) es ≡ sent (values_of es) version
sent_lookup version [] h = refl
sent_lookup version (e ∷ es) h =
    ap (λ k. cond (version == k) (Some e.1) (lookup (λ k. version == k) es)) (sym h.0)
    ∙ ap (λ r. cond (version == e.1.version) (Some e.1) r) (sent_lookup version es h.1)

pub by_version_more : (es : List (ℕ × PutRecord)) (put : PutRecord) → AreByVersion es → AreByVersion (es ++ (put.version, put) ∷ [])
by_version_more [] put h = (refl, tt)
by_version_more (e ∷ es) put h = (h.0, by_version_more es put h.1)

pub values_more : (es : List (ℕ × PutRecord)) (put : PutRecord) → values_of (es ++ (put.version, put) ∷ []) ≡ values_of es ++ put ∷ []
values_more [] put = refl
values_more (e ∷ es) put = ap (λ r. e.1 ∷ r) (values_more es put)

-- a version that no put has was not sent
pub not_sent : (puts : List PutRecord) (version : ℕ) → ((p : PutRecord) → Contains puts p → p.version ≡ version → ⊥) → sent puts version ≡ None
not_sent [] version h = refl
not_sent (p ∷ puts) version h = go (version == p.version) refl (not_sent puts version (λ q c. h q (contains_tail p puts q c)))
  where
    go : (b : Bool) → (version == p.version) ≡ b → sent puts version ≡ None → cond b (Some p) (sent puts version) ≡ None
    go true e rest = absurd (h p (contains_head p puts) (sym (eqb-true version p.version e)))
    go false e rest = rest
