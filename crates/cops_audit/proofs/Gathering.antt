-- A loop over names that collects the suspects.
use Rattle.std.proofs.Common.{◌≡◌, ◌≤◌, ℕ, List, [], ◌∷◌, ◌++◌, length, get_or, sym, ◌∙◌, ap, subst, inl, inr, arith, Contains, AllPairs, length-append}
use Rattle.std.proofs.lemmas.List.Quantifiers.{all_pairs_push}
use Rattle.std.proofs.lemmas.List.Elements.{Contains-append_left, Contains-push, Contains-push_cases, Contains-get_or}
use Rattle.cops_types.specs.declared.op.OpName.{OpName}
use Rattle.cops_types.specs.Histories.{Sessions}
use Rattle.cops_types.specs.Faults.{IsBefore, IsNewer}
use Rattle.cops_types.specs.declared.versioned_put.VersionedPut.{VersionedPut}
use Rattle.cops_audit.specs.declared.window.Suspect.{Suspect}
use Rattle.cops_audit.specs.Windows.{AreSuspects, IsSuspect}
use Rattle.cops_audit.proofs.Collect.{before_next, next_split}

module _ (h : Sessions) (table : List VersionedPut) where
  pub skipped : (names : List OpName) (n : OpName) (suspects : List Suspect) → AreSuspects h table names suspects → ((newer : OpName) (version : ℕ) → ¬ IsNewer h n newer version) → AreSuspects h table (names ++ n ∷ []) suspects
  skipped names n suspects are none = record {
    each = λ s at. let o = are.each s at in (o.0, Contains-append_left names (n ∷ []) s.op o.1);
    others = λ name newer version at f. elim (Contains-push_cases names n name at) [
      | inl old ↦ are.others name newer version old f
      | inr same ↦ absurd (none newer version (subst (λ m. IsNewer h m newer version) (sym same) f))
    ];
    in_order = are.in_order;
  }

  pub push_one : (names : List OpName) (n : OpName) (suspects : List Suspect) (y : Suspect) → AreSuspects h table names suspects → y.op ≡ n → IsSuspect h table y
      → ((m : OpName) → Contains names m → IsBefore m n) → AreSuspects h table (names ++ n ∷ []) (suspects ++ y ∷ [])
  push_one names n suspects y are same is before = record {
    each = λ s at. elim (Contains-push_cases suspects y s at) [
      | inl old ↦ let o = are.each s old in (o.0, Contains-append_left names (n ∷ []) s.op o.1)
      | inr new ↦ (subst (IsSuspect h table) new is, subst (Contains (names ++ n ∷ [])) (sym same ∙ ap (λ (s : Suspect). s.op) new) (Contains-push names n))
    ];
    others = λ name newer version at f. elim (Contains-push_cases names n name at) [
      | inl old ↦ let o = are.others name newer version old f in (o.0, o.1, Contains-append_left suspects (y ∷ []) o.0 o.2)
      | inr here ↦ (y, same ∙ here, Contains-push suspects y)
    ];
    in_order = all_pairs_push (λ s t. IsBefore s.op t.op) suspects y are.in_order
        (λ k d inside. subst (IsBefore (get_or suspects k d).op) (sym same) (before (get_or suspects k d).op (are.each (get_or suspects k d) (Contains-get_or suspects k d inside)).1));
  }

-- a loop over names: those that it has seen, those that are left, and the suspects among those that it has seen
pub record Gathered (h : Sessions) (table : List VersionedPut) (names yielded left : List OpName) (suspects : List Suspect) : Type 0 where
  pub split : names ≡ yielded ++ left
  pub are : AreSuspects h table yielded suspects
  pub few : length suspects ≤ length yielded

module _ {h : Sessions} {table : List VersionedPut} where
  pub gather_skip : {names yielded left rest : List OpName} {n : OpName} {suspects : List Suspect} → Gathered h table names yielded left suspects → left ≡ n ∷ rest
      → ((newer : OpName) (version : ℕ) → ¬ IsNewer h n newer version) → Gathered h table names (yielded ++ n ∷ []) rest suspects
  gather_skip {names} {yielded} {left} {rest} {n} {suspects} so_far first none = record {
    split = next_split names yielded left rest n so_far.split first;
    are = skipped h table yielded n suspects so_far.are none;
    few = omega (arith, length-append yielded (n ∷ []), so_far.few);
  }

  pub gather_push : {names yielded left rest : List OpName} {n : OpName} {suspects pushed : List Suspect} (y : Suspect) → AllPairs IsBefore names → Gathered h table names yielded left suspects → left ≡ n ∷ rest
      → pushed ≡ suspects ++ y ∷ [] → y.op ≡ n → IsSuspect h table y → Gathered h table names (yielded ++ n ∷ []) rest pushed
  gather_push {names} {yielded} {left} {rest} {n} {suspects} {pushed} y in_order so_far first is same fault = record {
    split = next_split names yielded left rest n so_far.split first;
    are = subst (AreSuspects h table (yielded ++ n ∷ [])) (sym is)
        (push_one h table yielded n suspects y so_far.are same fault (before_next names yielded rest n in_order (so_far.split ∙ ap (λ ns. yielded ++ ns) first)));
    few = omega (arith, length-append yielded (n ∷ []), length-append suspects (y ∷ []), ap length is, so_far.few);
  }
