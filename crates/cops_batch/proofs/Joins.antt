-- The faults of the pieces, one after the other.
use Rattle.std.proofs.Common.{◌≡◌, ℕ, zero, suc, ◌+◌, ◌-◌, ◌<◌, ◌≤◌, List, [], ◌∷◌, ◌++◌, length, length-append, refl, sym, ◌∙◌, ap, inl, inr, arith, subst, get_or, take, drop, flat_map, slice_range, Contains, AllPairs}
use Rattle.std.proofs.lemmas.Bool.{cases_lt}
use Rattle.std.proofs.lemmas.List.{take-append-drop, drop_all, get_or_append_left, get_or-append-add}
use Rattle.std.proofs.lemmas.List.Elements.{Contains-append_left, Contains-append_right, Contains-append_cases, Contains-get_or}
use Rattle.std.proofs.lemmas.List.Folds.{drop_split}
use Rattle.cops_types.specs.declared.op.OpName.{OpName}
use Rattle.cops_types.specs.Faults.{IsBefore}
use Rattle.cops_audit.specs.Names.{ListsAmong}
use Rattle.cops_batch.specs.declared.pieces.Piece.{Piece}
use Rattle.cops_batch.specs.declared.pieces.PieceState.TheVariants.{Fine}
use Rattle.cops_batch.specs.Pieces.{ArePieces, Each, IsCut, names_of}
use Rattle.cops_audit.proofs.Collect.{get_or-default}

module _ {A : Type 0} (R : A → A → Type 0) (xs ys : List A) where
  pairs_back : AllPairs R (xs ++ ys) → AllPairs R ys
  pairs_back all i j d less inside =
      rw (get_or-append-add xs ys i d, get_or-append-add xs ys j d) at
      (all (length xs + i) (length xs + j) d (omega (arith, less)) (omega (arith, inside, length-append xs ys)))

  pairs_across : AllPairs R (xs ++ ys) → (x y : A) → Contains xs x → Contains ys y → R x y
  pairs_across all x y at_x at_y =
      let first : get_or (xs ++ ys) at_x.0 x ≡ x = get_or_append_left xs ys x at_x.0 at_x.1 ∙ at_x.2 in
      let second : get_or (xs ++ ys) (length xs + at_y.0) x ≡ y = get_or-append-add xs ys at_y.0 x ∙ get_or-default ys at_y.0 x y at_y.1 ∙ at_y.2 in
      subst (λ z. R x z) second (subst (λ z. R z (get_or (xs ++ ys) (length xs + at_y.0) x)) first
      (all at_x.0 (length xs + at_y.0) x (omega (arith, at_x.1)) (omega (arith, at_y.1, length-append xs ys))))

  pairs_append : AllPairs R xs → AllPairs R ys → ((x y : A) → Contains xs x → Contains ys y → R x y) → AllPairs R (xs ++ ys)
  pairs_append front back across i j d less inside = elim (cases_lt j (length xs)) [
    | inl j_prefix ↦ rw (get_or_append_left xs ys d i (omega (arith, less, j_prefix)), get_or_append_left xs ys d j j_prefix) (front i j d less j_prefix)
    | inr j_back ↦
        let y : get_or (xs ++ ys) j d ≡ get_or ys (j - length xs) d = at_back j d j_back in
        let y_in : j - length xs < length ys = omega (arith, inside, j_back, length-append xs ys) in
        elim (cases_lt i (length xs)) [
          | inl i_prefix ↦ rw (get_or_append_left xs ys d i i_prefix, y) (across _ _ (Contains-get_or xs i d i_prefix) (Contains-get_or ys (j - length xs) d y_in))
          | inr i_back ↦ rw (at_back i d i_back, y) (back (i - length xs) (j - length xs) d (omega (arith, less, i_back)) y_in)
        ]
  ]
    where
      at_back : (k : ℕ) (d : A) → length xs ≤ k → get_or (xs ++ ys) k d ≡ get_or ys (k - length xs) d
      at_back k d back =
          let e : length xs + (k - length xs) ≡ k = omega (arith, back) in
          ap (λ m. get_or (xs ++ ys) m d) (sym e) ∙ get_or-append-add xs ys (k - length xs) d

module _ {A : Type 0} (name_of : A → OpName) (F : A → Type 0) where
  among_none : ListsAmong name_of F [] []
  among_none = record {
    members = λ x. ((λ at. absurd (omega (arith, at.1))), (λ w. absurd (omega (arith, w.1.1))));
    in_order = λ i j d less inside. absurd (omega (arith, inside));
  }

  among_append : (ns ms : List OpName) (xs ys : List A) → AllPairs IsBefore (ns ++ ms) → ListsAmong name_of F ns xs → ListsAmong name_of F ms ys → ListsAmong name_of F (ns ++ ms) (xs ++ ys)
  among_append ns ms xs ys in_order front back = record {
    members = λ x. (
      (λ at. elim (Contains-append_cases xs ys x at) [
        | inl l ↦ let o = (front.members x).0 l in (o.0, Contains-append_left ns ms (name_of x) o.1)
        | inr r ↦ let o = (back.members x).0 r in (o.0, Contains-append_right ns ms (name_of x) o.1)
      ]),
      (λ w. elim (Contains-append_cases ns ms (name_of x) w.1) [
        | inl l ↦ Contains-append_left xs ys x ((front.members x).1 (w.0, l))
        | inr r ↦ Contains-append_right xs ys x ((back.members x).1 (w.0, r))
      ]),
    );
    in_order = pairs_append (λ x y. IsBefore (name_of x) (name_of y)) xs ys front.in_order back.in_order
        (λ x y at_x at_y. pairs_across IsBefore ns ms in_order (name_of x) (name_of y) ((front.members x).0 at_x).1 ((back.members y).0 at_y).1);
  }

pairs_drop : (names : List OpName) (a : ℕ) → AllPairs IsBefore names → AllPairs IsBefore (drop a names)
pairs_drop names a in_order = pairs_back IsBefore (take a names) (drop a names) (subst (AllPairs IsBefore) (sym (take-append-drop a names)) in_order)

module _ {A : Type 0} (name_of : A → OpName) (F : A → Type 0) (list_of : Piece → List A) (names : List OpName) where
  -- the faults of the pieces from a on
  joined_from : AllPairs IsBefore names → (i a b : ℕ) (ps : List Piece) → IsCut i a ps b → b ≡ length names → Each (λ p. ListsAmong name_of F (names_of names p) (list_of p)) ps
      → ListsAmong name_of F (drop a names) (flat_map list_of ps)
  joined_from in_order i a b [] cut end lists =
      subst (λ ns. ListsAmong name_of F ns []) (sym (drop_all a names (omega (arith, cut, end)))) (among_none name_of F)
  joined_from in_order i a b (p ∷ ps) cut end lists =
      let split : drop a names ≡ slice_range names a (a + p.len) ++ drop (a + p.len) names = drop_split names a (a + p.len) (omega arith) in
      let here : ListsAmong name_of F (slice_range names a (a + p.len)) (list_of p) =
      subst (λ k. ListsAmong name_of F (slice_range names k (k + p.len)) (list_of p)) cut.1 (lists zero p (omega arith)) in
      let rest = joined_from in_order (i + 1) (a + p.len) b ps cut.2 end (λ k d below. lists (suc k) d (omega (arith, below))) in
      subst (λ ns. ListsAmong name_of F ns (list_of p ++ flat_map list_of ps)) (sym split)
      (among_append name_of F (slice_range names a (a + p.len)) (drop (a + p.len) names) (list_of p) (flat_map list_of ps)
      (subst (AllPairs IsBefore) split (pairs_drop names a in_order)) here rest)

  -- what the pieces found together is all faults
  pub joined_all : (ps : List Piece) (xs : List A) → ArePieces names ps → Each (λ p. p.state ≡ Fine) ps
      → Each (λ p. p.state ≡ Fine → ListsAmong name_of F (names_of names p) (list_of p)) ps → xs ≡ flat_map list_of ps → ListsAmong name_of F names xs
  joined_all ps xs pieces fine lists are =
      subst (ListsAmong name_of F names) (sym are)
      (joined_from pieces.in_order 0 0 (length names) ps pieces.cut refl (λ k d below. lists k d below (fine k d below)))
