-- Histories that differ only in values and have one verdict have one report.
use Rattle.std.proofs.Common.{IfOk, Result, Ok, Err, ◌≡◌, ◌≢◌, ◌+◌, ◌⊎◌, ℕ, List, [], ◌∷◌, ◌++◌, length, map, flat_map, Option, Some, None, option_map, refl, sym, ◌∙◌, ap, ap₂, inl, inr, slice_get, slice_index_or}
use Rattle.std.specs.Prelude.{bytes_eq, codes, count_by, cond}
use Rattle.std.proofs.Math.ListN.{get_or-map}
use Rattle.std.proofs.lemmas.Bool.{cases_Bool}
use Rattle.std.proofs.lemmas.Slice.Eq.{bytes_eq-Decides}
use Rattle.std.proofs.lemmas.List.{length-map}
use Rattle.std.proofs.lemmas.List.Sums.{sum_by-cons}
use Rattle.std.proofs.lemmas.Option.{slice_get-map}
use Rattle.cops_types.specs.declared.op.OpName.{OpName}
use Rattle.cops_types.specs.Counts.{count_of, is_put, put_count}
use Rattle.cops_types.specs.Histories.{Sessions, op_at, IsGot, IsNamed, IsPut, SourceStep, Operation, write, read, missed}
use Rattle.cops_types.specs.Past.{Step}
use Rattle.cops_types.specs.Verdicts.{AllHaveSources}
use Rattle.cops_types.specs.VersionOrder.{NoneDoubled}
use Rattle.cops_audit.specs.Judged.{AJudged, IsJudged, without_value, without_values}
use Rattle.cops_audit.specs.Verdicts.{IsVerdict}
use Rattle.cops_audit.specs.declared.verdict.Verdict.{Verdict}
use Rattle.cops_audit.specs.declared.verdict.Verdict.TheVariants.{Accepted, Refused}
use Rattle.cops_audit.specs.declared.verdict.Faults.TheVariants as class
use Rattle.cops_audit.specs.declared.verdict.NotAbove.{NotAbove}
use Rattle.cops_audit.specs.declared.verdict.Stale.{Stale}
use Rattle.cops_report.specs.Chains.{IsChain, IsFirstChain, LeadsTo}
use Rattle.cops_report.specs.Reports.{AreStaleLines, IsReport, accepted_line, named_line, not_above_line, op_version, refused_line, returned_text, stale_line, version_at}
use Rattle.cops_audit.proofs.Differing.{name_cases}

-- ---- what is left where the values are left out

session_left : (h : Sessions) (c : ℕ) → slice_index_or (without_values h) c [] ≡ map without_value (slice_index_or h c [])
session_left h c = get_or-map (map without_value) h c []

op_left : (h : Sessions) (n : OpName) → op_at (without_values h) n ≡ option_map without_value (op_at h n)
op_left h n = ap (λ (s : List Operation). slice_get s n.index) (session_left h n.client) ∙ slice_get-map without_value (slice_index_or h n.client []) n.index

count_left : (h : Sessions) → count_of (without_values h) ≡ count_of h
count_left [] = refl
count_left (s ∷ h) = sum_by-cons length (map without_value s) (without_values h) ∙ ap₂ (λ (a b : ℕ). a + b) (length-map s without_value) (count_left h) ∙ sym (sum_by-cons length s h)

put_left : (op : Operation) → is_put (without_value op) ≡ is_put op
put_left (write key value version) = refl
put_left (read key value version) = refl
put_left (missed key) = refl

puts_left : (s : List Operation) → count_by is_put (map without_value s) ≡ count_by is_put s
puts_left [] = refl
puts_left (op ∷ s) =
    let one = λ (o : Operation). cond (is_put o) 1 0 in
    sum_by-cons one (without_value op) (map without_value s) ∙ ap₂ (λ (a b : ℕ). a + b) (ap (λ b. cond b 1 0) (put_left op)) (puts_left s) ∙ sym (sum_by-cons one op s)

put_count_left : (h : Sessions) → put_count (without_values h) ≡ put_count h
put_count_left [] = refl
put_count_left (s ∷ h) =
    sum_by-cons (count_by is_put) (map without_value s) (without_values h) ∙ ap₂ (λ (a b : ℕ). a + b) (puts_left s) (put_count_left h) ∙ sym (sum_by-cons (count_by is_put) s h)

version_left : (o : Option Operation) → op_version (option_map without_value o) ≡ op_version o
version_left None = refl
version_left (Some (write key value version)) = refl
version_left (Some (read key value version)) = refl
version_left (Some (missed key)) = refl

returned_left : (o : Option Operation) → returned_text (option_map without_value o) ≡ returned_text o
returned_left None = refl
returned_left (Some (write key value version)) = refl
returned_left (Some (read key value version)) = refl
returned_left (Some (missed key)) = refl

named_left : (o : Option Operation) (x : Operation) → option_map without_value o ≡ Some x → (op : Operation) × (o ≡ Some op)
named_left None x e = absurd cc
named_left (Some op) x e = (op, refl)

put_of : (o : Option Operation) (key : List ℕ) (left : Option (List ℕ)) (version : ℕ) → option_map without_value o ≡ Some (write key left version) → (content : Option (List ℕ)) × (o ≡ Some (write key content version))
put_of None key left version e = absurd cc
put_of (Some (write k v w)) key left version e = (v, let a : k ≡ key = cc in let b : w ≡ version = cc in cc)
put_of (Some (read k v w)) key left version e = absurd cc
put_of (Some (missed k)) key left version e = absurd cc

got_of : (o : Option Operation) (key : List ℕ) (left : Option (List ℕ)) (version : ℕ) → option_map without_value o ≡ Some (read key left version) → (content : Option (List ℕ)) × (o ≡ Some (read key content version))
got_of None key left version e = absurd cc
got_of (Some (write k v w)) key left version e = absurd cc
got_of (Some (read k v w)) key left version e = (v, let a : k ≡ key = cc in let b : w ≡ version = cc in cc)
got_of (Some (missed k)) key left version e = absurd cc

-- ---- values that have to be the same

content_cases : (x y : Option (List ℕ)) → (x ≡ y) ⊎ (x ≢ y)
content_cases None None = inl refl
content_cases None (Some ys) = inr (λ e. absurd cc)
content_cases (Some xs) None = inr (λ e. absurd cc)
content_cases (Some xs) (Some ys) = elim (cases_Bool (bytes_eq xs ys)) [
  | inl e ↦ inl (ap Some ((bytes_eq-Decides xs ys).0 e))
  | inr e ↦ inr (λ is. let same : xs ≡ ys = cc in absurd (let f = (bytes_eq-Decides xs ys).1 same in cc))
]

-- a put with the key and the version of a get has its content
one_value : (h : Sessions) → NoneDoubled h → AllHaveSources h → (put got : OpName) (key : List ℕ) (v w : Option (List ℕ)) (version : ℕ) → IsPut h put key v version → IsGot h got key w version → v ≡ w
one_value h single sources put got key v w version p g = elim (content_cases v w) [
  | inl same ↦ same
  | inr differs ↦ absurd (sources got (record {
    key = key;
    content = w;
    version = version;
    got = g;
    none = λ q s. no_source q s differs;
  }))
]
  where
    no_source : (q : OpName) → SourceStep h q got → v ≢ w → ⊥
    no_source q s differs =
        let is : Some (read s.key s.content s.version) ≡ Some (read key w version) = sym s.got ∙ g in
        let value : s.content ≡ w = cc in
        let has_version : s.version ≡ version = cc in
        elim (name_cases q put) [
          | inl same ↦
              let at : Some (write s.key s.content s.version) ≡ Some (write key v version) = sym s.put ∙ ap (op_at h) same ∙ p in
              let own : s.content ≡ v = cc in
              differs (sym own ∙ value)
          | inr other ↦ single put (record {
            version = version;
            put = (key, v, p);
            other = q;
            other_put = (s.key, s.content, rw has_version at s.put);
            differs = other;
          })
        ]

-- ---- two histories that are the same where their values are left out

module _ (h k : Sessions) (same : without_values h ≡ without_values k) where
  same_op : (n : OpName) → option_map without_value (op_at h n) ≡ option_map without_value (op_at k n)
  same_op n = sym (op_left h n) ∙ ap (λ (s : Sessions). op_at s n) same ∙ op_left k n

  same_count : count_of h ≡ count_of k
  same_count = sym (count_left h) ∙ ap count_of same ∙ count_left k

  same_puts : put_count h ≡ put_count k
  same_puts = sym (put_count_left h) ∙ ap put_count same ∙ put_count_left k

  same_version : (n : OpName) → version_at h n ≡ version_at k n
  same_version n = sym (version_left (op_at h n)) ∙ ap op_version (same_op n) ∙ version_left (op_at k n)

  same_returned : (n : OpName) → returned_text (op_at h n) ≡ returned_text (op_at k n)
  same_returned n = sym (returned_left (op_at h n)) ∙ ap returned_text (same_op n) ∙ returned_left (op_at k n)

  named_too : (n : OpName) → IsNamed h n → IsNamed k n
  named_too n there = named_left (op_at k n) (without_value there.0) (sym (same_op n) ∙ ap (option_map without_value) there.1)

  step_too : NoneDoubled k → AllHaveSources k → (from to : OpName) → Step h from to → Step k from to
  step_too single sources from to (inl s) = inl (record { same_client = s.same_client; earlier = s.earlier; is_there = named_too to s.is_there })
  step_too single sources from to (inr s) =
      let put = put_of (op_at k from) s.key _ s.version (sym (same_op from) ∙ ap (option_map without_value) s.put) in
      let got = got_of (op_at k to) s.key _ s.version (sym (same_op to) ∙ ap (option_map without_value) s.got) in
      let value = one_value k single sources from to s.key put.0 got.0 s.version put.1 got.1 in
      inr (record { key = s.key; content = put.0; version = s.version; put = put.1; got = rw (sym value) at got.1 })

  leads_too : NoneDoubled k → AllHaveSources k → (to from : OpName) (names : List OpName) → LeadsTo h to from names → LeadsTo k to from names
  leads_too single sources to from [] leads = leads
  leads_too single sources to from (next ∷ rest) leads = (step_too single sources from next leads.0, leads_too single sources to next rest leads.1)

  chain_too : NoneDoubled k → AllHaveSources k → (from to : OpName) (names : List OpName) → IsChain h from to names → IsChain k from to names
  chain_too single sources from to [] chain = chain
  chain_too single sources from to (name ∷ rest) chain = (chain.0, named_too name chain.1, leads_too single sources to name rest chain.2)

-- the texts of lines
same_lines : {A : Type 0} (f g : A → List ℕ) → ((x : A) → f x ≡ g x) → (xs : List A) → flat_map f xs ≡ flat_map g xs
same_lines f g each [] = refl
same_lines f g each (x ∷ xs) = ap₂ (λ (a b : List ℕ). a ++ b) (each x) (same_lines f g each xs)

module _ (h k : Sessions) (same : without_values h ≡ without_values k) where
  same_refused : (faults : ℕ) → refused_line (count_of h) (put_count h) faults ≡ refused_line (count_of k) (put_count k) faults
  same_refused faults = ap₂ (λ (a b : ℕ). refused_line a b faults) (same_count h k same) (same_puts h k same)

  same_named : (word : List ℕ) (n : OpName) → named_line word h n ≡ named_line word k n
  same_named word n = rw (same_version h k same n) refl

  same_not_above : (f : NotAbove) → not_above_line h f ≡ not_above_line k f
  same_not_above f = rw (same_version h k same f.op) (rw (same_version h k same f.earlier) refl)

  same_stale : (f : Stale) (chain : List OpName) → stale_line h f chain ≡ stale_line k f chain
  same_stale f chain = rw (same_returned h k same f.op) (rw (same_version h k same f.newer) refl)

  module _ (single : NoneDoubled h) (sources : AllHaveSources h) (single_too : NoneDoubled k) (sources_too : AllHaveSources k) where
    first_too : (from to : OpName) (names : List OpName) → IsFirstChain h from to names → IsFirstChain k from to names
    first_too from to names p = record {
      chain = chain_too h k same single_too sources_too from to names p.chain;
      shortest = λ others c. p.shortest others (chain_too k h (sym same) single sources from to others c);
      first = λ others c e. p.first others (chain_too k h (sym same) single sources from to others c) e;
    }

    stale_too : (faults : List Stale) (text : List ℕ) → AreStaleLines h faults text → AreStaleLines k faults text
    stale_too [] text lines = lines
    stale_too (f ∷ fs) text lines = (
      lines.0,
      lines.1,
      first_too f.newer f.op lines.0 lines.2,
      lines.3 ∙ ap (λ (l : List ℕ). l ++ lines.1) (same_stale f lines.0),
      stale_too fs lines.1 lines.4,
    )

  report_too : (verdict : Verdict) → IsVerdict h verdict → IsVerdict k verdict → (text : List ℕ) → IsReport h verdict text → IsReport k verdict text
  report_too (Accepted puts) own other text is = is ∙ ap₂ accepted_line (same_count h k same) (same_puts h k same)
  report_too (Refused (class.Doubled names)) own other text is =
      is ∙ ap₂ (λ (a b : List ℕ). a ++ b) (same_refused (length names.items)) (same_lines _ _ (same_named (codes "doubled")) names.items)
  report_too (Refused (class.NoSource names)) own other text is =
      is ∙ ap₂ (λ (a b : List ℕ). a ++ b) (same_refused (length names.items)) (same_lines _ _ (same_named (codes "no source")) names.items)
  report_too (Refused (class.NotAbove faults)) own other text is =
      is ∙ ap₂ (λ (a b : List ℕ). a ++ b) (same_refused (length faults.items)) (same_lines _ _ same_not_above faults.items)
  report_too (Refused (class.Stale faults)) own other text is = (
    is.0,
    stale_too own.0 own.1 other.0 other.1 faults.items is.0 is.1,
    is.2 ∙ ap (λ (l : List ℕ). l ++ is.0) (same_refused (length faults.items)),
  )

-- a report on one history that was judged is the report on each with the same verdict and sessions up to values
pub one_report : (h k : Sessions) (judged : AJudged) → IsJudged h judged → IsJudged k judged → (text : List ℕ) → IsReport h judged.verdict text → IsReport k judged.verdict text
one_report h k judged own other text is = report_too h k (sym own.sessions ∙ other.sessions) judged.verdict own.verdict other.verdict text is

-- an implication carries over to the result of a call
pub ok_too : {A E : Type 0} (P Q : A → Type 0) → ((a : A) → P a → Q a) → (r : Result A E) → IfOk r P → IfOk r Q
ok_too P Q on (Ok a) p = on a p
ok_too P Q on (Err e) p = tt
