-- An importer that has taken one line more.
use Rattle.std.proofs.Common.{◌≡◌, ◌⊎◌, ℕ, true, false, List, [], ◌∷◌, ◌++◌, sym, ap, subst, ◌∙◌, inl, inr, arith, get_or}
use Rattle.std.specs.Prelude.{Option, Some}
use Rattle.std.specs.List.{All, list_any}
use Rattle.std.proofs.lemmas.List.{map-append}
use Rattle.std.proofs.lemmas.List.Elements.{All-append}
use Rattle.cops_types.specs.Format.{Fits}
use Rattle.cops_types.specs.Histories.{Operation}
use Rattle.cops_types.specs.Operations.{operation_of}
use Rattle.cops_types.specs.declared.counted.Counted.{Counted}
use Rattle.cops_types.specs.declared.format.Format.{Format}
use Rattle.cops_outcomes.specs.Outcomes.{same_write}
use Rattle.cops_outcomes.specs.Sightings.{IsSighted}
use Rattle.cops_outcomes.specs.declared.write.Write.{Write}
use Rattle.cops_import.specs.Line.{LineGives}
use Rattle.cops_import.specs.Lines.{operations_of, ops_of, unknown_of}
use Rattle.cops_import.specs.Underway.{HasOps, HasTaken, IsListed, IsStopAt, format_of}
use Rattle.cops_import.specs.declared.fault.ImportFault.{ImportFault}
use Rattle.cops_import.specs.declared.fault.ImportFault.TheVariants.{Memory, Changed}
use Rattle.cops_import.specs.declared.importer.Importer.{Importer}
use Rattle.cops_import.specs.declared.reported.LineOp.{LineOp}
use Rattle.cops_import.specs.declared.reported.Reported.TheVariants.{Known, Unknown}
use Rattle.cops_import.specs.declared.reported.Reported.{Reported}
use Rattle.cops_import.specs.declared.reported.UnknownPut.{UnknownPut}
use Rattle.cops_import.specs.declared.rules.Expected.{Expected}
use Rattle.cops_import.specs.declared.rules.Rules.{Rules}
use Rattle.cops_import.proofs.Given.{ops-known, ops-unknown, unknown-known, unknown-unknown}

module _ {W : Type 0} (contents : W → Option (List ℕ)) (from : Counted W) where
  -- an operation with a known outcome was written and seen
  pub known_taken : (given : List Reported) (reported : LineOp) (old new : Importer W) → HasTaken contents from given old → HasOps contents from (ops_of given ++ reported ∷ []) new
      → IsSighted new.sightings (operations_of (ops_of given) ++ operation_of reported.op ∷ []) → new.unknown ≡ old.unknown → new.sightings.writes ≡ old.sightings.writes → format_of new ≡ format_of old
      → HasTaken contents from (given ++ Known reported ∷ []) new
  known_taken given reported old new h ops sighted unknown writes format =
      let all : operations_of (ops_of given) ++ operation_of reported.op ∷ [] ≡ operations_of (ops_of (given ++ Known reported ∷ [])) =
      sym (map-append (λ (r : LineOp). operation_of r.op) (ops_of given) (reported ∷ [])) ∙ ap operations_of (sym (ops-known given reported)) in
      record {
        ops = subst (λ (os : List LineOp). HasOps contents from os new) (sym (ops-known given reported)) ops;
        sighted = subst (λ (os : List Operation). IsSighted new.sightings os) all sighted;
        unknown = ap (λ u. u.items) unknown ∙ h.unknown ∙ sym (unknown-known given reported);
        listed = subst (λ (ps : List UnknownPut). All (IsListed (format_of new) new.sightings.writes) ps) (sym (unknown-known given reported))
            (subst (λ (ws : List Write). All (IsListed (format_of new) ws) (unknown_of given)) (sym writes)
            (subst (λ (f : Format). All (IsListed f old.sightings.writes) (unknown_of given)) (sym format) h.listed));
      }

  -- a put of unknown outcome is kept
  pub unknown_taken : (given : List Reported) (put : UnknownPut) (old new : Importer W) → HasTaken contents from given old → HasOps contents from (ops_of given) new → new.sightings ≡ old.sightings
      → new.unknown.items ≡ old.unknown.items ++ put ∷ [] → list_any (same_write put.write) old.sightings.writes ≡ true → Fits (format_of old) put.write.content → format_of new ≡ format_of old
      → HasTaken contents from (given ++ Unknown put ∷ []) new
  unknown_taken given put old new h ops sightings unknown listed fits format =
      let own : All (IsListed (format_of old) old.sightings.writes) (put ∷ []) =
      λ k d inside. let first : k ≡ 0 = omega (arith, inside) in
      subst (λ (n : ℕ). IsListed (format_of old) old.sightings.writes (get_or (put ∷ []) n d)) (sym first) (listed, fits) in
      let all : All (IsListed (format_of old) old.sightings.writes) (unknown_of given ++ put ∷ []) = All-append (IsListed (format_of old) old.sightings.writes) (unknown_of given) (put ∷ []) h.listed own in
      record {
        ops = subst (λ (os : List LineOp). HasOps contents from os new) (sym (ops-unknown given put)) ops;
        sighted = subst (λ (os : List LineOp). IsSighted new.sightings (operations_of os)) (sym (ops-unknown given put))
            (rw sightings h.sighted);
        unknown = unknown ∙ ap (λ (ps : List UnknownPut). ps ++ put ∷ []) h.unknown ∙ sym (unknown-unknown given put);
        listed = subst (λ (ps : List UnknownPut). All (IsListed (format_of new) new.sightings.writes) ps) (sym (unknown-unknown given put))
            (rw (sightings, format) all);
      }

-- a fault that stops at a put of unknown outcome stops at its line
pub unknown_stop : (rules : Rules) (expected : Expected) (number : ℕ) (given : List Reported) (line : List ℕ) (put : UnknownPut) (e : ImportFault) → LineGives rules number line (Some (Unknown put)) → (e ≡ Memory) ⊎ (e ≡ Changed)
    → (e ≡ Changed → list_any (same_write put.write) expected.unknown ≡ false) → IsStopAt rules expected number given line e
unknown_stop rules expected number given line put e reports (inl is) changed = rw is tt
unknown_stop rules expected number given line put e reports (inr is) changed = rw is (inr (inr (put, reports, changed is)))
