-- Fields in a row: they are read as they were encoded, up to the first that cannot be read.
use Rattle.std.proofs.Common.{◌≡◌, ℕ, ◌+◌, ◌*◌, ◌≤◌, Bool, true, false, cond, leb, eqb, List, [], ◌∷◌, ◌++◌, length, Option, Some, None, Result, Ok, Err, ◌⊎◌, refl, sym, ap, subst, ◌∙◌, append_assoc, arith, inl, inr}
use Rattle.std.specs.Prelude.{IsTrue, is_some}
use Rattle.std.specs.List.{flat_map, AllByRecursion}
use Rattle.std.proofs.lemmas.Bool.{leb-true, and_parts, or_cases}
use Rattle.std.proofs.lemmas.List.{length-append}
use Rattle.std.proofs.lemmas.List.Concat.{flat_map-cons}
use Rattle.std.proofs.Math.Nat.{mul-le-mul_right}
use Rattle.cops_types.specs.declared.dep.Dep.{Dep}
use Rattle.cops_types.specs.Deps.{IsDep}
use Rattle.cops_wire.specs.Grammar.{row_of}
use Rattle.cops_wire.specs.Lengths.{most_len, most_len_all, all_fit}
use Rattle.cops_wire.specs.declared.reading.ReadFault.{ReadFault}
use Rattle.cops_wire.specs.declared.reading.ReadFault.TheVariants.{BadField, UnknownKind}
use Rattle.cops_wire.specs.Field.{u8, u16, u64, Field, number, number_in, string, version, pairs, Content, of_number, of_bytes, of_pairs, encoded_number, encoded_string, encoded_pair, encoded, encoded_all}
use Rattle.cops_wire.specs.Answer.{IsBytes}
use Rattle.cops_wire.specs.Memory.{takes_memory, first_part}
use Rattle.cops_wire.specs.Legal.{IsLegal, AllLegal}
use Rattle.cops_wire.specs.Reading.{put_first, field_at, then_read, fields_at, then_comes, takes_at, comes_to_memory}
use Rattle.cops_wire.proofs.Fields.{wide, Takes, Takes-then, field_takes, field_again}

abbrev pub Row : Type 0
Row = List Content × List ℕ

abbrev pub Read : Type 0
Read = Result Row ReadFault

put_ok : (c : Content) (r : Read) (x : Row) → put_first c r ≡ Ok x → (z : Row) × (r ≡ Ok z) × ((c ∷ z.0, z.1) ≡ x)
put_ok c (Ok z) x e = (z, refl, cc)
put_ok c (Err d) x e = absurd cc

put_err : (c : Content) (r : Read) (d : ReadFault) → put_first c r ≡ Err d → r ≡ Err d
put_err c (Ok z) d e = absurd cc
put_err c (Err d') d e = e

then_ok : (left : ℕ) (r : Option (Content × List ℕ)) (read : List ℕ → Read) (x : Row) → then_read left r read ≡ Ok x
    → (y : Content × List ℕ) × (r ≡ Some y) × ((z : Row) × (read y.1 ≡ Ok z) × ((y.0 ∷ z.0, z.1) ≡ x))
then_ok left None read x e = absurd cc
then_ok left (Some y) read x e = (y, refl, put_ok y.0 (read y.1) x e)

then_err : (left : ℕ) (r : Option (Content × List ℕ)) (read : List ℕ → Read) (d : ReadFault) → then_read left r read ≡ Err d
    → ((r ≡ None) × (d ≡ BadField left)) ⊎ ((y : Content × List ℕ) × (r ≡ Some y) × (read y.1 ≡ Err d))
then_err left None read d e = inl (refl, cc)
then_err left (Some y) read d e = inr (y, refl, put_err y.0 (read y.1) d e)

row_is : (x y : Row) → (let r : Read = Ok x in r) ≡ Ok y → x ≡ y
row_is x y e = cc

chosen : {A : Type 0} (b : Bool) (x y z : A) → cond b x y ≡ z → (x ≡ z) ⊎ (y ≡ z)
chosen true x y z e = inl e
chosen false x y z e = inr e

pub fields_take : (fs : List Field) (bytes : List ℕ) (x : Row) → IsBytes bytes → fields_at fs bytes ≡ Ok x → Takes bytes (encoded_all fs x.0) x.1 × AllLegal fs x.0
fields_take [] bytes x fits e =
    subst (λ (y : Row). Takes bytes (encoded_all [] y.0) y.1 × AllLegal [] y.0) (row_is ([], bytes) x e) (record { parts = refl; rest_fits = fits }, tt)
fields_take (f ∷ fs) bytes x fits e =
    let a = then_ok (length bytes) (field_at f bytes) (fields_at fs) x e in
    let first = field_takes f bytes a.0 fits a.1 in
    let b = a.2 in
    let second = fields_take fs a.0.1 b.0 first.0.rest_fits b.1 in
    let both = Takes-then bytes (encoded f a.0.0) a.0.1 (encoded_all fs b.0.0) b.0.1 first.0 second.0 in
    subst (λ (y : Row). Takes bytes (encoded_all (f ∷ fs) y.0) y.1 × AllLegal (f ∷ fs) y.0) b.2 (both, (first.1, second.1))

pub fields_again : (fs : List Field) (cs : List Content) (rest : List ℕ) → AllLegal fs cs → fields_at fs (encoded_all fs cs ++ rest) ≡ Ok (cs, rest)
fields_again [] [] rest h = refl
fields_again (f ∷ fs) (c ∷ cs) rest h =
    let regrouped : encoded_all (f ∷ fs) (c ∷ cs) ++ rest ≡ encoded f c ++ (encoded_all fs cs ++ rest) = append_assoc (encoded f c) (encoded_all fs cs) rest in
    let first : field_at f (encoded_all (f ∷ fs) (c ∷ cs) ++ rest) ≡ Some (c, encoded_all fs cs ++ rest) = ap (field_at f) regrouped ∙ field_again f c (encoded_all fs cs ++ rest) h.0 in
    ap (λ (r : Option (Content × List ℕ)). then_read (length (encoded_all (f ∷ fs) (c ∷ cs) ++ rest)) r (fields_at fs)) first
    ∙ ap (put_first c) (fields_again fs cs rest h.1)
fields_again _ _ rest h = absurd h

-- Reading the fields of a row never gives an unknown kind.
pub never_unknown : (fs : List Field) (bytes : List ℕ) → fields_at fs bytes ≡ Err UnknownKind → ⊥
never_unknown [] bytes e = absurd cc
never_unknown (f ∷ fs) bytes e =
    elim (then_err (length bytes) (field_at f bytes) (fields_at fs) UnknownKind e) [
      | inl a ↦ let same = a.1 in absurd cc
      | inr a ↦ never_unknown fs a.0.1 a.2
    ]

-- the first field that cannot be read
pub record StopsAt (fs : List Field) (bytes : List ℕ) (fault : ReadFault) : Type 0 where
  pub before : List Field
  pub field : Field
  pub after : List Field
  pub types : fs ≡ before ++ field ∷ after
  pub contents : List Content
  pub legal : AllLegal before contents
  pub rest : List ℕ
  pub split : bytes ≡ encoded_all before contents ++ rest
  pub none : field_at field rest ≡ None
  pub fault_is : fault ≡ BadField (length rest)

pub fields_stop : (fs : List Field) (bytes : List ℕ) (d : ReadFault) → IsBytes bytes → fields_at fs bytes ≡ Err d → StopsAt fs bytes d
fields_stop [] bytes d fits e = absurd cc
fields_stop (f ∷ fs) bytes d fits e =
    elim (then_err (length bytes) (field_at f bytes) (fields_at fs) d e) [
      | inl a ↦ record { before = []; field = f; after = fs; types = refl; contents = []; legal = tt; rest = bytes; split = refl; none = a.0; fault_is = a.1 }
      | inr a ↦
          let first = field_takes f bytes a.0 fits a.1 in
          let s = fields_stop fs a.0.1 d first.0.rest_fits a.2 in
          record {
            before = f ∷ s.before;
            field = s.field;
            after = s.after;
            types = ap (λ (t : List Field). f ∷ t) s.types;
            contents = a.0.0 ∷ s.contents;
            legal = (first.1, s.legal);
            rest = s.rest;
            split = first.0.parts ∙ ap (λ (t : List ℕ). encoded f a.0.0 ++ t) s.split ∙ sym (append_assoc (encoded f a.0.0) (encoded_all s.before s.contents) s.rest);
            none = s.none;
            fault_is = s.fault_is;
          }
    ]

pub fields_stop_again : (before : List Field) (field : Field) (after : List Field) (cs : List Content) (rest : List ℕ) → AllLegal before cs → field_at field rest ≡ None
    → fields_at (before ++ field ∷ after) (encoded_all before cs ++ rest) ≡ Err (BadField (length rest))
fields_stop_again [] field after [] rest h none = ap (λ (r : Option (Content × List ℕ)). then_read (length rest) r (fields_at after)) none
fields_stop_again (f ∷ fs) field after (c ∷ cs) rest h none =
    let regrouped : encoded_all (f ∷ fs) (c ∷ cs) ++ rest ≡ encoded f c ++ (encoded_all fs cs ++ rest) = append_assoc (encoded f c) (encoded_all fs cs) rest in
    let first : field_at f (encoded_all (f ∷ fs) (c ∷ cs) ++ rest) ≡ Some (c, encoded_all fs cs ++ rest) = ap (field_at f) regrouped ∙ field_again f c (encoded_all fs cs ++ rest) h.0 in
    ap (λ (r : Option (Content × List ℕ)). then_read (length (encoded_all (f ∷ fs) (c ∷ cs) ++ rest)) r (fields_at (fs ++ field ∷ after))) first
    ∙ ap (put_first c) (fields_stop_again fs field after cs rest h.1 none)
fields_stop_again _ field after _ rest h none = absurd h

-- reading comes to a field whose reading allocates
pub record ComesTo (fs : List Field) (bytes : List ℕ) : Type 0 where
  pub before : List Field
  pub field : Field
  pub after : List Field
  pub types : fs ≡ before ++ field ∷ after
  pub takes : IsTrue (takes_memory field)
  pub contents : List Content
  pub legal : AllLegal before contents
  pub rest : List ℕ
  pub split : bytes ≡ encoded_all before contents ++ rest
  pub part : Content
  pub part_legal : IsLegal (first_part field) part
  pub more : List ℕ
  pub begins : rest ≡ encoded (first_part field) part ++ more

some_is : {A : Type 0} (o : Option A) → is_some o ≡ true → (x : A) × (o ≡ Some x)
some_is None e = absurd cc
some_is (Some x) e = (x, refl)

comes_behind : (r : Option (Content × List ℕ)) (comes : List ℕ → Bool) → IsTrue (then_comes r comes) → (y : Content × List ℕ) × (r ≡ Some y) × IsTrue (comes y.1)
comes_behind None comes h = absurd cc
comes_behind (Some y) comes h = (y, refl, h)

pub fields_come : (fs : List Field) (bytes : List ℕ) → IsBytes bytes → IsTrue (comes_to_memory fs bytes) → ComesTo fs bytes
fields_come [] bytes fits h = absurd cc
fields_come (f ∷ fs) bytes fits h =
    elim (or_cases (takes_at f bytes) (then_comes (field_at f bytes) (comes_to_memory fs)) h) [
      | inl t ↦
          let both = and_parts (takes_memory f) (is_some (field_at (first_part f) bytes)) t in
          let x = some_is (field_at (first_part f) bytes) both.1 in
          let first = field_takes (first_part f) bytes x.0 fits x.1 in
          record {
            before = [];
            field = f;
            after = fs;
            types = refl;
            takes = both.0;
            contents = [];
            legal = tt;
            rest = bytes;
            split = refl;
            part = x.0.0;
            part_legal = first.1;
            more = x.0.1;
            begins = first.0.parts;
          }
      | inr t ↦
          let a = comes_behind (field_at f bytes) (comes_to_memory fs) t in
          let first = field_takes f bytes a.0 fits a.1 in
          let s = fields_come fs a.0.1 first.0.rest_fits a.2 in
          record {
            before = f ∷ s.before;
            field = s.field;
            after = s.after;
            types = ap (λ (t : List Field). f ∷ t) s.types;
            takes = s.takes;
            contents = a.0.0 ∷ s.contents;
            legal = (first.1, s.legal);
            rest = s.rest;
            split = first.0.parts ∙ ap (λ (t : List ℕ). encoded f a.0.0 ++ t) s.split ∙ sym (append_assoc (encoded f a.0.0) (encoded_all s.before s.contents) s.rest);
            part = s.part;
            part_legal = s.part_legal;
            more = s.more;
            begins = s.begins;
          }
    ]

-- ---- no legal field is longer than the greatest length

pairs_len : (ds : List Dep) → AllByRecursion IsDep ds → length (flat_map encoded_pair ds) ≤ length ds * 73
pairs_len [] h = omega arith
pairs_len (d ∷ ds) h =
    let key : length (encoded_string u8 d.key) ≡ length (encoded_number u8 (length d.key)) + length d.key = length-append (encoded_number u8 (length d.key)) d.key in
    let pair : length (encoded_pair d) ≡ length (encoded_string u8 d.key) + length (encoded_number u64 d.version) = length-append (encoded_string u8 d.key) (encoded_number u64 d.version) in
    let all : length (flat_map encoded_pair (d ∷ ds)) ≡ length (encoded_pair d) + length (flat_map encoded_pair ds) = ap length (flat_map-cons encoded_pair d ds) ∙ length-append (encoded_pair d) (flat_map encoded_pair ds) in
    omega (arith, key, pair, all, (wide u8).len (length d.key), (wide u64).len d.version, h.0.0.1, pairs_len ds h.1)

pub length-encoded : (f : Field) (c : Content) → IsLegal f c → length (encoded f c) ≤ most_len f
length-encoded (number s) (of_number n) h = omega (arith, (wide s).len n)
length-encoded (number_in s least greatest) (of_number n) h = omega (arith, (wide s).len n)
length-encoded (string s least greatest) (of_bytes text) h = omega (arith, length-append (encoded_number s (length text)) text, (wide s).len (length text), h.2)
length-encoded version (of_number n) h = omega (arith, (wide u64).len n)
length-encoded (pairs most) (of_pairs ds) h = omega (arith, length-append (encoded_number u16 (length ds)) (flat_map encoded_pair ds), (wide u16).len (length ds), pairs_len ds h.2.1, mul-le-mul_right 73 h.1)
length-encoded _ _ h = absurd h

pub length-encoded_all : (fs : List Field) (cs : List Content) → AllLegal fs cs → length (encoded_all fs cs) ≤ most_len_all fs
length-encoded_all [] [] h = omega arith
length-encoded_all (f ∷ fs) (c ∷ cs) h = omega (arith, length-append (encoded f c) (encoded_all fs cs), length-encoded f c h.0, length-encoded_all fs cs h.1)
length-encoded_all _ _ h = absurd h

pub row_fits : (longest kind : ℕ) (rows : List (ℕ × List Field)) (fs : List Field) → IsTrue (all_fit longest rows) → row_of kind rows ≡ Some fs → 1 + most_len_all fs ≤ longest
row_fits longest kind [] fs ok e = absurd cc
row_fits longest kind (row ∷ rows) fs ok e =
    let both = and_parts (leb (1 + most_len_all row.1) longest) (all_fit longest rows) ok in
    elim (chosen (eqb kind row.0) (Some row.1) (row_of kind rows) (Some fs) e) [
      | inl h ↦ let same : row.1 ≡ fs = let s = h in cc in subst (λ (g : List Field). 1 + most_len_all g ≤ longest) same (leb-true _ _ both.0)
      | inr h ↦ row_fits longest kind rows fs both.1 h
    ]
