-- The invariant of a history, as clients reserve room and use it.
use Rattle.std.proofs.Common.{◌≡◌, ◌≢◌, ℕ, ◌+◌, ◌-◌, ◌<◌, ◌≤◌, Bool, true, false, List, [], ◌∷◌, map, length, length-append, get_or, slice_get, replicate, sum_by, Some, None, ◌++◌, refl, sym, ap, ◌∙◌, subst, arith, get_or-set_same, get_or-set_other, inl, inr}
use Rattle.std.proofs.Math.ListN.{set, length-set}
use Rattle.std.proofs.lemmas.List.{length-replicate, length-map}
use Rattle.std.proofs.lemmas.List.Sums.{sum_by-le, sum_by-set}
use Rattle.std.proofs.lemmas.List.Folds.{sum_by-replicate}
use Rattle.cops_types.specs.declared.entry.StoredOp.{StoredOp}
use Rattle.cops_types.specs.Counts.{count_of, is_put, put_count}
use Rattle.cops_types.specs.Entries.{EntryLists, KeptEntries, KeepsEntries, GainsEntry, IsSound, AreSound, reported, reported_by, key_number_of, puts_in}
use Rattle.cops_types.specs.declared.entry.StoredOp.TheVariants.{Put, Got, Sourced, Missed}
use Rattle.cops_types.specs.Lists.{item_at, with_item}
use Rattle.cops_types.specs.Histories.{Sessions, with_op, Operation}
use Rattle.cops_types.specs.Maxima.{AreSessionMaxima}
use Rattle.cops_types.specs.declared.maxima.Maxima.{Maxima}
use Rattle.cops_types.specs.Keeping.{IsKept, flag_count}
use Rattle.cops_types.specs.KeySets.{AreDistinct, GainsKey, KeptKeys}
use Rattle.cops_types.specs.Recorded.{IsWithinLimits}
use Rattle.cops_types.proofs.Sessions.{at_or_other, default_of, count-with_op, within_with_op, none_of, none_within, count-none, puts-none, puts-with_op}
use Rattle.cops_types.proofs.Showing.{map-none, slice_get-end}
use Rattle.cops_types.proofs.Reporting.{reported_by-with_item, sound-with_item}

-- ---- puts

flag-le : (b : Bool) → flag_count b ≤ 1
flag-le true = omega arith
flag-le false = omega arith

-- an entry counts as a put exactly if its operation is one
puts-reported : (keys : List (List ℕ)) (all : EntryLists) (e : StoredOp) → puts_in e ≡ flag_count (is_put (reported keys all e))
puts-reported keys all (Put key value version) = refl
puts-reported keys all (Got key value version) = refl
puts-reported keys all (Sourced key put version) = refl
puts-reported keys all (Missed key) = refl

-- ---- flags

-- no more flags are set than there are
pub flags-le : (flags : List Bool) → sum_by flag_count flags ≤ length flags
flags-le flags = omega (arith, sum_by-le flag_count 1 flags (λ i b inside. flag-le (get_or flags i b)))

pub set_flag : (flags : List Bool) (i : ℕ) → i < length flags → get_or flags i false ≡ false → sum_by flag_count (set flags i true) ≡ sum_by flag_count flags + 1
set_flag flags i inside was = omega (arith, sum_by-set flag_count flags i true false inside, ap flag_count was)

pub clear_flag : (flags : List Bool) (i : ℕ) → i < length flags → get_or flags i false ≡ true → sum_by flag_count (set flags i false) + 1 ≡ sum_by flag_count flags
clear_flag flags i inside was = omega (arith, sum_by-set flag_count flags i false false inside, ap flag_count was)

-- ---- a history with no operation

pub new_kept : (keys : KeptKeys) (entries : KeptEntries) (maxima : Maxima) (n : ℕ) → n ≤ 65535 → keys.keys ≡ [] → entries.all ≡ replicate n [] → entries.names ≡ [] → entries.gets ≡ []
    → AreSessionMaxima (replicate n []) maxima → IsKept keys entries maxima (replicate n false) 0 0
new_kept keys entries maxima n le no_keys no_entries no_names no_gets low =
    let none : reported_by keys.keys entries.all ≡ replicate n [] = ap (λ (all : EntryLists). map (map (reported keys.keys entries.all)) all) no_entries ∙ map-none (reported keys.keys entries.all) n in
    record {
      limits = subst IsWithinLimits (sym none) (none_within n le);
      count = sym (ap count_of none ∙ count-none n);
      counted = ap length no_names ∙ sym (ap put_count none ∙ puts-none n);
      sound = λ name e at. let gone : None ≡ Some e = ap (λ (s : List StoredOp). slice_get s name.index) (sym (none_of n name.client)) ∙ ap (λ (all : EntryLists). item_at all name) (sym no_entries) ∙ at in cc;
      distinct = λ i j key at also. let gone : None ≡ Some key = ap (λ (k : List (List ℕ)). slice_get k i) (sym no_keys) ∙ at in cc;
      few = omega (arith, ap length no_keys);
      flags = length-replicate n false ∙ sym (ap length no_entries ∙ length-replicate n []);
      room = λ client flag. let gone : true ≡ false = sym flag ∙ default_of false n client in cc;
      held = omega (arith, sum_by-replicate flag_count n false);
      places = omega arith;
      put_places = omega arith;
      get_places = omega arith;
      few_names = omega (arith, ap length no_names);
      few_gets = omega (arith, ap length no_gets);
      get_keys = λ number e at. let gone : None ≡ Some e = ap (λ (s : List StoredOp). slice_get s number) (sym no_gets) ∙ at in cc;
      session_maxima = subst (λ (h : Sessions). AreSessionMaxima h maxima) (sym none) low;
    }

-- ---- reserved room

module _ (k k' : KeptKeys) (e e' : KeptEntries) (maxima : Maxima) (reserved : List Bool) (reservations len : ℕ) (keys : k'.keys ≡ k.keys) (spare : k.spare ≤ k'.spare) (keeps : KeepsEntries e e')
    (kept : IsKept k e maxima reserved reservations len) where
  abbrev all : e'.all ≡ e.all
  all = keeps.all

  pub same_reported : reported_by k'.keys e'.all ≡ reported_by k.keys e.all
  same_reported = λ j. reported_by (keys j) (all j)

  -- the invariant with other reservations
  reserved_kept : (flags : List Bool) (number : ℕ) → length flags ≡ length reserved → ((c : ℕ) → get_or flags c false ≡ true → get_or e'.room c false ≡ true) → number ≡ sum_by flag_count flags
      → number ≤ k'.spare → number ≤ e'.more_puts → number ≤ e'.more_gets → IsKept k' e' maxima flags number len
  reserved_kept flags number as_many room held places put_places get_places = record {
    limits = subst IsWithinLimits (sym same_reported) kept.limits;
    count = kept.count ∙ ap count_of (sym same_reported);
    counted = ap length keeps.names ∙ kept.counted ∙ ap put_count (sym same_reported);
    sound = subst (λ (ks : List (List ℕ)). AreSound ks e'.all) (sym keys) (subst (AreSound k.keys) (sym all) kept.sound);
    distinct = subst AreDistinct (sym keys) kept.distinct;
    few = omega (arith, ap length keys, kept.few);
    flags = as_many ∙ kept.flags ∙ ap length (sym all);
    room = room;
    held = held;
    places = places;
    put_places = put_places;
    get_places = get_places;
    few_names = omega (arith, kept.few_names, ap length keeps.names);
    few_gets = omega (arith, kept.few_gets, ap length keeps.gets);
    get_keys = λ number x at. omega (arith, kept.get_keys number x (sym (ap (λ (s : List StoredOp). slice_get s number) keeps.gets) ∙ at), ap length keys);
    session_maxima = subst (λ (h : Sessions). AreSessionMaxima h maxima) (sym same_reported) kept.session_maxima;
  }

  -- more room keeps the invariant
  pub room_kept : IsKept k' e' maxima reserved reservations len
  room_kept =
      reserved_kept reserved reservations refl (λ c flag. keeps.others c (kept.room c flag)) kept.held
      (omega (arith, kept.places)) (omega (arith, kept.put_places, keeps.more_puts)) (omega (arith, kept.get_places, keeps.more_gets))

  -- one more reservation
  pub flag_kept : (client : ℕ) → client < length (reported_by k.keys e.all) → get_or reserved client false ≡ false → get_or e'.room client false ≡ true → reservations + 1 ≤ k'.spare → reservations + 1 ≤ e'.more_puts → reservations + 1 ≤ e'.more_gets
      → IsKept k' e' maxima (set reserved client true) (reservations + 1) len
  flag_kept client inside was has =
      reserved_kept (set reserved client true) (reservations + 1) (length-set reserved client true)
      (λ c flag. elim (at_or_other client c) [
        | inl p ↦ subst (λ (d : ℕ). get_or e'.room d false ≡ true) p has
        | inr p ↦ keeps.others c (kept.room c (sym (get_or-set_other reserved client c true false p) ∙ flag))
      ])
      (omega (arith, kept.held, set_flag reserved client (omega (arith, inside, kept.flags, length-map e.all (map (reported k.keys e.all)))) was))

-- ---- one more operation

module _ (k k' : KeptKeys) (e e' : KeptEntries) (maxima : Maxima) (reserved : List Bool) (reservations len client : ℕ) (entry : StoredOp) (op : Operation) (inside : client < length (reported_by k.keys e.all)) (kept : IsKept k e maxima reserved reservations len)
    (gains : GainsKey k k') (fits : IsSound k'.keys e.all entry) (is : reported k'.keys e.all entry ≡ op) (all : e'.all ≡ with_item e.all client entry) (more : GainsEntry entry e e') where
  there : client < length e.all
  there = omega (arith, inside, length-map e.all (map (reported k.keys e.all)))

  pub put_reported : reported_by k'.keys e'.all ≡ with_op (reported_by k.keys e.all) client op
  put_reported = ap (reported_by k'.keys) all ∙ reported_by-with_item k.keys k'.keys gains.places e.all client entry there kept.sound fits op is

  -- the keys of the gets stored with what they returned
  gets_keyed : (number : ℕ) (x : StoredOp) → slice_get e'.gets number ≡ Some x → key_number_of x < length k'.keys
  gets_keyed number x at = elim more.gets [
    | inl same ↦ omega (arith, kept.get_keys number x (sym (ap (λ (s : List StoredOp). slice_get s number) same) ∙ at), gains.places.longer)
    | inr grown ↦ elim (slice_get-end e.gets entry number x (sym (ap (λ (s : List StoredOp). slice_get s number) grown) ∙ at)) [
      | inl was ↦ omega (arith, kept.get_keys number x was, gains.places.longer)
      | inr new ↦ subst (λ (y : StoredOp). key_number_of y < length k'.keys) new.1 fits.key
    ]
  ]

  -- at most one such get is added
  gets_more : length e'.gets ≤ length e.gets + 1
  gets_more = elim more.gets [
    | inl same ↦ omega (arith, ap length same)
    | inr grown ↦ omega (arith, ap length grown, length-append e.gets (entry ∷ []))
  ]

  pub put_kept : (maxima' : Maxima) → (AreSessionMaxima (reported_by k.keys e.all) maxima → AreSessionMaxima (with_op (reported_by k.keys e.all) client op) maxima') → get_or reserved client false ≡ true → ((c : ℕ) → c ≢ client → get_or e.room c false ≡ true → get_or e'.room c false ≡ true)
      → length (get_or (reported_by k.keys e.all) client []) < 1000000 → count_of (reported_by k.keys e.all) < 16000000
      → IsKept k' e' maxima' (set reserved client false) (reservations - 1) (len + 1)
  put_kept maxima' takes flag room session most =
      let h = reported_by k.keys e.all in
      let flags : client < length reserved = omega (arith, there, kept.flags) in
      record {
        limits = subst IsWithinLimits (sym put_reported) (within_with_op h client op (inside, session, most) kept.limits);
        count = omega (arith, kept.count, ap count_of put_reported, count-with_op h client op inside);
        counted = omega (arith, more.names, kept.counted, puts-with_op h client op inside, ap put_count put_reported, puts-reported k'.keys e.all entry, ap (λ (o : Operation). flag_count (is_put o)) is);
        sound = subst (AreSound k'.keys) (sym all) (sound-with_item k.keys k'.keys gains.places e.all client entry there kept.sound fits);
        distinct = gains.distinct;
        few = omega (arith, gains.few, kept.few);
        flags = length-set reserved client false ∙ kept.flags ∙ sym (ap length all ∙ length-set e.all client (get_or e.all client [] ++ entry ∷ []));
        room = λ c set_there. elim (at_or_other client c) [
          | inl p ↦
              let gone : false ≡ true = sym (get_or-set_same reserved client false false flags) ∙ ap (λ (d : ℕ). get_or (set reserved client false) d false) p ∙ set_there in cc
          | inr p ↦ room c p (kept.room c (sym (get_or-set_other reserved client c false false p) ∙ set_there))
        ];
        held = omega (arith, kept.held, clear_flag reserved client flags flag);
        places = omega (arith, kept.held, kept.places, gains.spare, clear_flag reserved client flags flag);
        put_places = omega (arith, kept.held, kept.put_places, more.more_puts, clear_flag reserved client flags flag);
        get_places = omega (arith, kept.held, kept.get_places, more.more_gets, clear_flag reserved client flags flag);
        few_names = omega (arith, kept.few_names, more.names, puts-reported k'.keys e.all entry, flag-le (is_put (reported k'.keys e.all entry)));
        few_gets = omega (arith, kept.few_gets, gets_more);
        get_keys = gets_keyed;
        session_maxima = subst (λ (h : Sessions). AreSessionMaxima h maxima') (sym put_reported) (takes kept.session_maxima);
      }
