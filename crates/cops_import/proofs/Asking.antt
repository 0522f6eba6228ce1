-- The outcomes of puts, asked for one after another.
use Rattle.std.proofs.Common.{◌≡◌, ◌+◌, ◌<◌, ℕ, List, [], ◌∷◌, ◌++◌, drop, get_or, length, map, take, refl, sym, ap, subst, ◌∙◌, append_assoc, arith}
use Rattle.std.specs.Prelude.{Option, Some, None}
use Rattle.std.proofs.lemmas.List.{append-nil, length-append, map-append, take-append-drop, take_more}
use Rattle.cops_types.specs.Histories.{Operation}
use Rattle.cops_types.specs.declared.counted.Counted.{Counted}
use Rattle.cops_outcomes.specs.Outcomes.{outcome, outcomes}
use Rattle.cops_outcomes.specs.Sightings.{AnOutcomes, IsAfter}
use Rattle.cops_outcomes.specs.declared.write.Write.{Write}
use Rattle.cops_import.specs.Lines.{AReturned, operations_of, returned_in, versions_in, with_versions}
use Rattle.cops_import.specs.Outcomes.{each_outcome, outcome_of, outcomes_in}
use Rattle.cops_import.specs.Underway.{HasEnding, HasOwn, IsStopAtEnd, IsStopOfNext}
use Rattle.cops_import.specs.declared.ending.Ending.{Ending}
use Rattle.cops_import.specs.declared.fault.ImportFault.{ImportFault}
use Rattle.cops_import.specs.declared.fault.ImportFault.TheVariants.{Memory, ReadFailed, WriteFailed, Line, Changed, Endless}
use Rattle.cops_import.specs.declared.outcome.Outcome.{Outcome}
use Rattle.cops_import.specs.declared.reported.LineOp.{LineOp}
use Rattle.cops_import.specs.declared.reported.UnknownPut.{UnknownPut}

abbrev pub writes_of : List UnknownPut → List Write
writes_of puts = map (λ (p : UnknownPut). p.write) puts

-- the version of one put more
abbrev pub next_version : List Operation → List UnknownPut → UnknownPut → Option ℕ
next_version ops puts put = outcome ops (writes_of puts) put.write

outcomes-append : (ops : List Operation) (earlier ws vs : List Write) → outcomes ops earlier (ws ++ vs) ≡ outcomes ops earlier ws ++ outcomes ops (earlier ++ ws) vs
outcomes-append ops earlier [] vs = ap (λ (e : List Write). outcomes ops e vs) (sym (append-nil earlier))
outcomes-append ops earlier (w ∷ ws) vs =
    ap (λ (os : List (Option ℕ)). outcome ops earlier w ∷ os)
    (outcomes-append ops (earlier ++ w ∷ []) ws vs ∙ ap (λ (e : List Write). outcomes ops (earlier ++ w ∷ []) ws ++ outcomes ops e vs) (append_assoc earlier (w ∷ []) ws))

-- the versions of further puts
later_versions : List Operation → List UnknownPut → UnknownPut → List UnknownPut → List (Option ℕ)
later_versions ops puts put after = outcomes ops (writes_of puts ++ put.write ∷ []) (writes_of after)

versions-at : (ops : List Operation) (puts : List UnknownPut) (put : UnknownPut) (after : List UnknownPut)
    → versions_in ops (puts ++ put ∷ after) ≡ versions_in ops puts ++ next_version ops puts put ∷ later_versions ops puts put after
unfolding later_versions
versions-at ops puts put after =
    ap (λ (ws : List Write). outcomes ops [] ws) (map-append (λ (p : UnknownPut). p.write) puts (put ∷ after)) ∙ outcomes-append ops [] (writes_of puts) (writes_of (put ∷ after))

with-first : (p : UnknownPut) (v : Option ℕ) (ps qs : List UnknownPut) (vs ws : List (Option ℕ)) (rest : List AReturned) → with_versions ps vs ≡ with_versions qs ws ++ rest
    → with_versions (p ∷ ps) (v ∷ vs) ≡ with_versions (p ∷ qs) (v ∷ ws) ++ rest
with-first p (Some version) ps qs vs ws rest h = ap (λ (rs : List AReturned). record { put = p; version = version } ∷ rs) h
with-first p None ps qs vs ws rest h = h

with-more : (ops : List Operation) (earlier : List Write) (puts all : List UnknownPut) (versions : List (Option ℕ)) → with_versions (puts ++ all) (outcomes ops earlier (writes_of puts) ++ versions)
    ≡ with_versions puts (outcomes ops earlier (writes_of puts)) ++ with_versions all versions
with-more ops earlier [] all versions = refl
with-more ops earlier (p ∷ puts) all versions =
    with-first p (outcome ops earlier p.write) (puts ++ all) puts (outcomes ops (earlier ++ p.write ∷ []) (writes_of puts) ++ versions) (outcomes ops (earlier ++ p.write ∷ []) (writes_of puts)) (with_versions all versions)
    (with-more ops (earlier ++ p.write ∷ []) puts all versions)

each-more : (ops : List Operation) (earlier : List Write) (puts all : List UnknownPut) (versions : List (Option ℕ)) → each_outcome (puts ++ all) (outcomes ops earlier (writes_of puts) ++ versions)
    ≡ each_outcome puts (outcomes ops earlier (writes_of puts)) ++ each_outcome all versions
each-more ops earlier [] all versions = refl
each-more ops earlier (p ∷ puts) all versions =
    ap (λ (os : List Outcome). outcome_of p (outcome ops earlier p.write) ∷ os) (each-more ops (earlier ++ p.write ∷ []) puts all versions)

returned-at : (ops : List Operation) (puts : List UnknownPut) (put : UnknownPut) (after : List UnknownPut)
    → returned_in ops (puts ++ put ∷ after) ≡ returned_in ops puts ++ with_versions (put ∷ after) (next_version ops puts put ∷ later_versions ops puts put after)
returned-at ops puts put after =
    ap (λ (vs : List (Option ℕ)). with_versions (puts ++ put ∷ after) vs) (versions-at ops puts put after)
    ∙ with-more ops [] puts (put ∷ after) (next_version ops puts put ∷ later_versions ops puts put after)

-- with no further put
last-versions : (put : UnknownPut) (v : Option ℕ) (vs : List (Option ℕ)) → with_versions (put ∷ []) (v ∷ vs) ≡ with_versions (put ∷ []) (v ∷ [])
last-versions put (Some version) vs = refl
last-versions put None vs = refl

returned-more : (ops : List Operation) (puts : List UnknownPut) (put : UnknownPut) → returned_in ops (puts ++ put ∷ []) ≡ returned_in ops puts ++ with_versions (put ∷ []) (next_version ops puts put ∷ [])
returned-more ops puts put =
    returned-at ops puts put [] ∙ ap (λ (rs : List AReturned). returned_in ops puts ++ rs) (last-versions put (next_version ops puts put) (later_versions ops puts put []))

outcomes_in-more : (ops : List Operation) (puts : List UnknownPut) (put : UnknownPut) → outcomes_in ops (puts ++ put ∷ []) ≡ outcomes_in ops puts ++ outcome_of put (next_version ops puts put) ∷ []
outcomes_in-more ops puts put =
    ap (λ (vs : List (Option ℕ)). each_outcome (puts ++ put ∷ []) vs) (versions-at ops puts put []) ∙ each-more ops [] puts (put ∷ []) (next_version ops puts put ∷ later_versions ops puts put [])

-- the outcomes of these puts were asked for, and the records of those that took effect were written
pub record IsPartly {W : Type 0} (contents : W → Option (List ℕ)) (from : Counted W) (ops : List LineOp) (puts : List UnknownPut) (outcomes : AnOutcomes) (done : List Outcome) (e : Ending W) : Type 0 where
  pub ending : HasEnding contents from ops puts done e
  pub asked : IsAfter outcomes (operations_of ops) (writes_of puts)

-- one put more
pub partly_more : {W : Type 0} (contents : W → Option (List ℕ)) (from : Counted W) (ops : List LineOp) (puts : List UnknownPut) (put : UnknownPut) (version : Option ℕ) (outcome : Outcome) (old_asked new_asked : AnOutcomes)
    (done : List Outcome) (old new : Ending W) → IsPartly contents from ops puts old_asked done old → version ≡ next_version (operations_of ops) puts put → IsAfter new_asked (operations_of ops) (writes_of puts ++ put.write ∷ [])
    → outcome ≡ outcome_of put version → HasOwn contents from ops (returned_in (operations_of ops) puts ++ with_versions (put ∷ []) (version ∷ [])) new → IsPartly contents from ops (puts ++ put ∷ []) new_asked (done ++ outcome ∷ []) new
partly_more contents from ops puts put version outcome old_asked new_asked done old new h is asked its own =
    let all = operations_of ops in
    let returned : returned_in all puts ++ with_versions (put ∷ []) (version ∷ []) ≡ returned_in all (puts ++ put ∷ []) =
    ap (λ (v : Option ℕ). returned_in all puts ++ with_versions (put ∷ []) (v ∷ [])) is ∙ sym (returned-more all puts put) in
    let outcomes_are : done ++ outcome ∷ [] ≡ outcomes_in all (puts ++ put ∷ []) =
    ap (λ (os : List Outcome). os ++ outcome ∷ []) h.ending.unknown_are ∙ ap (λ (o : Outcome). outcomes_in all puts ++ o ∷ []) (its ∙ ap (λ (v : Option ℕ). outcome_of put v) is)
    ∙ sym (outcomes_in-more all puts put) in
    record {
      ending = record { own = subst (λ (rs : List AReturned). HasOwn contents from ops rs new) returned own; unknown_are = outcomes_are };
      asked = subst (λ (ws : List Write). IsAfter new_asked all ws) (sym (map-append (λ (p : UnknownPut). p.write) puts (put ∷ []))) asked;
    }

stop_at : (clients : ℕ) (ops : List LineOp) (put : UnknownPut) (after : List UnknownPut) (v : Option ℕ) (vs : List (Option ℕ)) (before all : List AReturned) (e : ImportFault) → all ≡ before ++ with_versions (put ∷ after) (v ∷ vs)
    → IsStopOfNext clients ops before put v e → IsStopAtEnd clients ops all e
stop_at clients ops put after v vs before all Memory split stop = tt
stop_at clients ops put after v vs before all ReadFailed split stop = tt
stop_at clients ops put after v vs before all (WriteFailed written) split stop = tt
stop_at clients ops put after (Some version) vs before all (Line n fault) split stop =
    (before, record { returned = record { put = put; version = version }; after = with_versions after vs; split = split; its_line = stop.0 }, stop.1)
stop_at clients ops put after (Some version) vs before all Changed split stop =
    let first : AReturned = record { put = put; version = version } in
    λ is. omega (arith, is, stop, ap length split, length-append before (first ∷ with_versions after vs))
stop_at clients ops put after (Some version) vs before all Endless split stop = absurd stop
stop_at clients ops put after None vs before all (Line n fault) split stop = let no : ⊥ = cc in absurd no
stop_at clients ops put after None vs before all Changed split stop = let no : ⊥ = cc in absurd no
stop_at clients ops put after None vs before all Endless split stop = let no : ⊥ = cc in absurd no

-- a fault that stops at a put stops at the end
pub stops_at_end : (clients : ℕ) (ops : List LineOp) (puts : List UnknownPut) (i : ℕ) (put : UnknownPut) (version : Option ℕ) (e : ImportFault) → i < length puts → put ≡ get_or puts i put
    → version ≡ next_version (operations_of ops) (take i puts) put → IsStopOfNext clients ops (returned_in (operations_of ops) (take i puts)) put version e
    → IsStopAtEnd clients ops (returned_in (operations_of ops) puts) e
stops_at_end clients ops puts i put version e inside at is stop =
    let all = operations_of ops in
    let after = drop (i + 1) puts in
    let cut : puts ≡ take i puts ++ put ∷ after =
    sym (take-append-drop (i + 1) puts) ∙ ap (λ (l : List UnknownPut). l ++ after) (take_more puts i put inside)
    ∙ append_assoc (take i puts) (get_or puts i put ∷ []) after ∙ ap (λ (p : UnknownPut). take i puts ++ p ∷ after) (sym at) in
    stop_at clients ops put after (next_version all (take i puts) put) (later_versions all (take i puts) put after) (returned_in all (take i puts)) (returned_in all puts) e
    (ap (λ (l : List UnknownPut). returned_in all l) cut ∙ returned-at all (take i puts) put after)
    (subst (λ (v : Option ℕ). IsStopOfNext clients ops (returned_in all (take i puts)) put v e) is stop)
