-- The end of an import, after all lines.
use Rattle.std.proofs.Common.{◌≡◌, ◌+◌, ℕ, List, [], ◌∷◌, length, refl, sym, ap, subst, ◌∙◌, arith}
use Rattle.std.specs.Prelude.{Option, Some, None}
use Rattle.std.specs.List.{All}
use Rattle.cops_types.specs.Histories.{Operation}
use Rattle.cops_types.specs.declared.counted.Counted.{Counted}
use Rattle.cops_types.specs.declared.format.Format.{Format}
use Rattle.cops_outcomes.specs.Sightings.{AnOutcomes, IsAfter, IsSighted}
use Rattle.cops_outcomes.specs.declared.write.Write.{Write}
use Rattle.cops_import.specs.Lines.{operations_of, ops_of, returned_in, unknown_of, versions_in, with_versions}
use Rattle.cops_import.specs.Outcomes.{each_outcome, outcomes_in, took_effect}
use Rattle.cops_import.specs.Underway.{HasEnded, HasEndedWith, HasTaken, IsBegun, IsListed, format_of}
use Rattle.cops_import.specs.declared.ending.Ending.{Ending}
use Rattle.cops_import.specs.declared.imported.Imported.{Imported}
use Rattle.cops_import.specs.declared.importer.Importer.{Importer}
use Rattle.cops_import.specs.declared.outcome.Outcome.{Outcome}
use Rattle.cops_import.specs.declared.reported.Reported.{Reported}
use Rattle.cops_import.specs.declared.reported.UnknownPut.{UnknownPut}
use Rattle.cops_import.proofs.Own.{own_none}

-- those that took effect are those with a version
length-took : (puts : List UnknownPut) (versions : List (Option ℕ)) → length (took_effect (each_outcome puts versions)) ≡ length (with_versions puts versions)
length-took [] versions = refl
length-took (p ∷ puts) [] = refl
length-took (p ∷ puts) (Some v ∷ versions) = omega (arith, length-took puts versions)
length-took (p ∷ puts) (None ∷ versions) = length-took puts versions

module _ {W : Type 0} (contents : W → Option (List ℕ)) (from : Counted W) where
  abbrev ending_of : Importer W → Ending W
  ending_of i = record { writer = i.writer; clients = i.clients; client = length i.names }

  -- the outcomes can be asked for
  pub begins : (given : List Reported) (i : Importer W) (e : Ending W) (o : AnOutcomes) → HasTaken contents from given i → e ≡ record { writer = i.writer; clients = i.clients; client = length i.names } → o.writes ≡ i.sightings.writes
      → ((ops : List Operation) → IsSighted i.sightings ops → IsAfter o ops []) → IsBegun contents from (ops_of given) i.unknown.items o e
  begins given i e o h is writes after =
      subst (λ (x : Ending W). IsBegun contents from (ops_of given) i.unknown.items o x) (sym is)
      (record {
        own = own_none contents from (ops_of given) (ending_of i) (format_of i) refl h.ops.wrote (ap length h.ops.names) h.ops.few;
        listed = subst (λ (ps : List UnknownPut). All (IsListed (format_of i) o.writes) ps) (sym h.unknown)
            (subst (λ (ws : List Write). All (IsListed (format_of i) ws) (unknown_of given)) (sym writes) h.listed);
        asked = after (operations_of (ops_of given)) h.sighted;
      })

  -- the end was written after all records
  pub ended_all : (given : List Reported) (format format' : Format) (clients clients' : ℕ) (puts : List UnknownPut) (unknown : List Outcome) (done : Imported W)
      → HasEndedWith contents from format' clients' (ops_of given) (returned_in (operations_of (ops_of given)) puts) unknown done → format' ≡ format → clients' ≡ clients → puts ≡ unknown_of given
      → unknown ≡ outcomes_in (operations_of (ops_of given)) puts → HasEnded contents from format clients given done
  ended_all given format format' clients clients' puts unknown done h same many are outcomes_are =
      let all = operations_of (ops_of given) in
      let at = rw (same, many, are) at h in
      record {
        clients_are = at.clients_are;
        summary = record {
          names_are = at.names;
          unknown_are = at.unknown ∙ outcomes_are ∙ ap (λ (ps : List UnknownPut). outcomes_in all ps) are;
          counted = at.operations;
        };
        is_trace = at.is_trace;
        written = at.written;
        heard = at.heard;
      }

  -- there are as many clients as were expected
  pub ended_clients : (format : Format) (clients : ℕ) (given : List Reported) (done : Imported W) → HasEnded contents from format clients given done → length done.names + length (took_effect done.unknown.items) ≡ clients
  ended_clients format clients given done h =
      let took = ap (λ (os : List Outcome). length (took_effect os)) h.summary.unknown_are ∙ length-took (unknown_of given) (versions_in (operations_of (ops_of given)) (unknown_of given)) in
      omega (arith, ap length h.summary.names_are, took, h.clients_are)
