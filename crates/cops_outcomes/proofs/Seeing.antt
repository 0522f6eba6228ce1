-- What is seen of one more operation.
use Rattle.std.proofs.Common.{◌≡◌, ◌≢◌, ◌<◌, ℕ, Bool, true, false, cond, ◌||◌, nat_eq, List, [], ◌∷◌, ◌++◌, length, map, replicate, set, get_or, Option, None, Some, Result, Ok, Err, OnOk, ◌⊎◌, inl, inr, refl, sym, ap, ◌∙◌, arith}
use Rattle.std.specs.List.{IsDistinct, list_any, position}
use Rattle.indexmap.specs.IndexSet.{insert_key}
use Rattle.std.specs.Cmp.{nat_eq_equiv}
use Rattle.std.proofs.lemmas.List.{append-nil, get_or-map, length-map, map-set}
use Rattle.std.proofs.lemmas.List.Folds.{list_any-append}
use Rattle.std.proofs.lemmas.List.Sums.{fold-append}
use Rattle.cops_types.specs.Histories.{Operation, write, read, missed}
use Rattle.cops_types.specs.Operations.{operation_of}
use Rattle.cops_types.specs.declared.op.Op.{Op}
use Rattle.cops_types.specs.declared.op.Op.TheVariants.{Put, Del}
use Rattle.cops_outcomes.specs.Outcomes.{put_versions, returned_versions, same_write, with_returned, with_version}
use Rattle.cops_outcomes.specs.Sightings.{ASightings, IsSighted}
use Rattle.cops_outcomes.specs.declared.write.Write.{Write}
use Rattle.cops_outcomes.proofs.Places.{map_absent, map_agree, map_changed, there, within, writes_equiv}

abbrev pub seen : List Write → List (List ℕ) → List ℕ → ASightings
seen ws rs ps = record { writes = ws; returned = rs; puts = ps }

returned_more : (ops : List Operation) (op : Operation) (w : Write) → returned_versions (ops ++ op ∷ []) w ≡ with_returned w (returned_versions ops w) op
returned_more ops op w = fold-append (with_returned w) [] ops (op ∷ [])

put_more : (ops : List Operation) (op : Operation) → put_versions (ops ++ op ∷ []) ≡ put_versions ops ++ put_versions (op ∷ [])
put_more [] op = refl
put_more (write key content version ∷ ops) op = ap (λ (vs : List ℕ). version ∷ vs) (put_more ops op)
put_more (read key content version ∷ ops) op = put_more ops op
put_more (missed key ∷ ops) op = put_more ops op

-- whether a put has this version, after one more put
any_more : (q version : ℕ) (ps ps' vs : List ℕ) → list_any (nat_eq q) ps' ≡ cond (nat_eq version q) true (list_any (nat_eq q) ps) → list_any (nat_eq q) ps ≡ list_any (nat_eq q) vs
    → list_any (nat_eq q) ps' ≡ list_any (nat_eq q) (vs ++ version ∷ [])
any_more q version ps ps' vs new old =
    let added = list_any-append (nat_eq q) vs (version ∷ []) in
    let flip : nat_eq version q ≡ nat_eq q version = nat_eq_equiv.symm version q in
    new ∙ ap (λ (b : Bool). cond b true (list_any (nat_eq q) ps)) flip ∙ ap (λ (b : Bool). cond (nat_eq q version) true b) old ∙ go (nat_eq q version) (list_any (nat_eq q) vs) ∙ sym added
  where
    go : (a b : Bool) → cond a true b ≡ (b || (a || false))
    go true true = refl
    go true false = refl
    go false true = refl
    go false false = refl

module _ (ws : List Write) (rs : List (List ℕ)) (ps : List ℕ) (ops : List Operation) (h : IsSighted (seen ws rs ps) ops) where
  pub sighted_put : (ps' : List ℕ) (key : List ℕ) (content : Option (List ℕ)) (version : ℕ) → ((q : ℕ) → list_any (nat_eq q) ps' ≡ cond (nat_eq version q) true (list_any (nat_eq q) ps))
      → IsSighted (seen ws rs ps') (ops ++ write key content version ∷ [])
  sighted_put ps' key content version new = record {
    returned = h.returned ∙ sym (map_agree (returned_versions ops) (returned_versions (ops ++ write key content version ∷ [])) (returned_more ops (write key content version)) ws);
    puts = λ some q. any_more q version ps ps' (put_versions ops) (new q) (h.puts some q) ∙ ap (list_any (nat_eq q)) (sym (put_more ops (write key content version)));
  }

  no_put : (op : Operation) → put_versions (op ∷ []) ≡ [] → ws ≢ [] → (q : ℕ) → list_any (nat_eq q) ps ≡ list_any (nat_eq q) (put_versions (ops ++ op ∷ []))
  no_put op none some q =
      let e : put_versions (ops ++ op ∷ []) ≡ put_versions ops = put_more ops op ∙ ap (λ (vs : List ℕ). put_versions ops ++ vs) none ∙ append-nil (put_versions ops) in
      h.puts some q ∙ ap (list_any (nat_eq q)) (sym e)

  pub sighted_miss : (key : List ℕ) → IsSighted (seen ws rs ps) (ops ++ missed key ∷ [])
  sighted_miss key = record {
    returned = h.returned ∙ sym (map_agree (returned_versions ops) (returned_versions (ops ++ missed key ∷ [])) (returned_more ops (missed key)) ws);
    puts = no_put (missed key) refl;
  }

  module _ (w : Write) (version : ℕ) where
    abbrev got : Operation
    got = read w.key w.content version

    kept : (x : Write) → same_write w x ≡ false → returned_versions (ops ++ got ∷ []) x ≡ returned_versions ops x
    kept x apart =
        let other : same_write x w ≡ false = writes_equiv.symm x w ∙ apart in
        returned_more ops got x ∙ ap (λ (b : Bool). cond b (with_version (returned_versions ops x) version) (returned_versions ops x)) other

    own : returned_versions (ops ++ got ∷ []) w ≡ with_version (returned_versions ops w) version
    own = returned_more ops got w ∙ ap (λ (b : Bool). cond b (with_version (returned_versions ops w) version) (returned_versions ops w)) (writes_equiv.refl w)

    -- no put of unknown outcome writes what this get returned
    pub sighted_other : None ≡ position (same_write w) ws → IsSighted (seen ws rs ps) (ops ++ read w.key w.content version ∷ [])
    sighted_other none = record {
      returned = h.returned ∙ sym (map_absent (returned_versions ops) (returned_versions (ops ++ got ∷ [])) w kept ws none);
      puts = no_put got refl;
    }

    inside : (i : ℕ) → Some i ≡ position (same_write w) ws → i < length rs
    inside i e =
        let long : length rs ≡ length ws = ap length h.returned ∙ length-map ws (returned_versions ops) in
        let l = within w ws i e in
        omega (arith, long, l)

    sighted_get : (rs' : List (List ℕ)) (i : ℕ) (d : List ℕ) → IsDistinct same_write ws → Some i ≡ position (same_write w) ws → rs' ≡ set rs i (insert_key nat_eq (get_or rs i d) version)
        → IsSighted (seen ws rs' ps) (ops ++ read w.key w.content version ∷ [])
    sighted_get rs' i d distinct e new =
        let was : get_or rs i d ≡ returned_versions ops w = ap (λ (l : List (List ℕ)). get_or l i d) h.returned ∙ there (returned_versions ops) w ws i d e in
        let is : insert_key nat_eq (get_or rs i d) version ≡ returned_versions (ops ++ got ∷ []) w = ap (λ (l : List ℕ). with_version l version) was ∙ sym own in
        let all = map_changed (returned_versions ops) (returned_versions (ops ++ got ∷ [])) w kept ws i distinct e in
        record {
          returned = new ∙ ap (λ (v : List ℕ). set rs i v) is ∙ ap (λ (l : List (List ℕ)). set l i (returned_versions (ops ++ got ∷ []) w)) h.returned ∙ sym all;
          puts = no_put got refl;
        }

    -- `sets` hold the versions with which gets returned each of the writes, as `keys` shows them
    module _ {S : Type 0} (keys : S → List ℕ) (sets : List S) (same : rs ≡ map keys sets) (i : ℕ) (e : Some i ≡ position (same_write w) ws) (s : S) (is : s ≡ get_or sets i s) where
      pub get_is : (t : S) → IsDistinct same_write ws → keys t ≡ insert_key nat_eq (keys s) version → IsSighted (seen ws (map keys (set sets i t)) ps) (ops ++ read w.key w.content version ∷ [])
      get_is t distinct new =
          let l = inside i e in
          let long : length rs ≡ length sets = ap length same ∙ length-map sets keys in
          let within : i < length sets = omega (arith, l, long) in
          let held : get_or rs i (keys s) ≡ keys s = ap (λ (l : List (List ℕ)). get_or l i (keys s)) same ∙ get_or-map keys sets i s (keys s) within ∙ ap keys (sym is) in
          let after : map keys (set sets i t) ≡ set rs i (insert_key nat_eq (get_or rs i (keys s)) version) =
          map-set keys sets i t ∙ ap (λ (l : List (List ℕ)). set l i (keys t)) (sym same) ∙ ap (λ (l : List ℕ). set rs i l) (new ∙ ap (λ (l : List ℕ). insert_key nat_eq l version) (sym held)) in
          sighted_get (map keys (set sets i t)) i (keys s) distinct e after

-- what is seen of a put is seen of this operation, a put or a deletion
pub sighted_op : {T E : Type 0} (r : Result T E) (op : Op) (version : ℕ) (old new : ASightings)
    → ((key : List ℕ) × (value : List ℕ) × (op ≡ Put key value version)) ⊎ ((key : List ℕ) × (op ≡ Del key version))
    → OnOk r ((ops : List Operation) (key : List ℕ) (content : Option (List ℕ)) → IsSighted old ops → IsSighted new (ops ++ write key content version ∷ []))
    → OnOk r ((ops : List Operation) → IsSighted old ops → IsSighted new (ops ++ operation_of op ∷ []))
sighted_op (Ok x) op version old new (inl put) seen = λ ops h. rw put.2 (seen ops put.0 (Some put.1) h)
sighted_op (Ok x) op version old new (inr del) seen = λ ops h. rw del.1 (seen ops del.0 None h)
sighted_op (Err e) op version old new which seen = tt

none_each : (ws : List Write) → replicate (length ws) [] ≡ map (returned_versions []) ws
none_each [] = refl
none_each (w ∷ ws) = ap (λ (l : List (List ℕ)). [] ∷ l) (none_each ws)

pub nothing_seen : (ws : List Write) (rs : List (List ℕ)) (ps : List ℕ) (count : ℕ) → rs ≡ replicate count [] → count ≡ length ws → ps ≡ [] → IsSighted (seen ws rs ps) []
nothing_seen ws rs ps count sets all none = record {
  returned = sets ∙ ap (λ n. replicate n []) all ∙ none_each ws;
  puts = λ some q. ap (list_any (nat_eq q)) none;
}
