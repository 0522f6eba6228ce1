-- Making the senders, the receivers and the links between them, one after the other.
use Rattle.std.proofs.Common.{◌≡◌, ◌≢◌, ℕ, zero, suc, ◌+◌, ◌-◌, ◌<◌, ◌≤◌, inl, inr, List, [], ◌∷◌, ◌++◌, All, Option, Some, None, get_or, length, map, set, slice_get, slice_index_or, append_assoc, ap, refl, rules, sym, subst, ◌∙◌, arith}
use Rattle.std.proofs.lemmas.Bool.{cases_lt, cases_eq}
use Rattle.std.proofs.lemmas.List.{append-nil, get_or-map, get_or-set_same, get_or-set_other, get_or_append_left, get_or_push, length-append, length-map, length_push, map-id, map-set, map_push, nil_from_length}
use Rattle.std.proofs.lemmas.List.Elements.{All-head, All-tail, All-push, All-map, All-weaker}
use Rattle.std.proofs.lemmas.List.FromFn.{length-range_with_len, map-range_with_len_more}
use Rattle.std.proofs.lemmas.Option.{slice_get-map}
use Rattle.std.specs.Option.{option_map}
use Rattle.std.specs.Global.{Vec}
use Rattle.cops_cluster.specs.declared.share.Share.{Share}
use Rattle.cops_link.specs.Link.{known_room, sent, taken, IsLink}
use Rattle.cops_link.specs.declared.ends.LinkIn.{LinkIn}
use Rattle.cops_link.specs.declared.ends.LinkOut.{LinkOut}
use Rattle.cops_replication.specs.Lanes.{ALane, idle}
use Rattle.cops_replication.specs.Reading.{unread}
use Rattle.cops_replication.specs.Receiving.{ends}
use Rattle.cops_replication.specs.Sending.{lanes}
use Rattle.cops_replication.specs.Making.{AreEnds, ArePaired, GainsEnd, GainsEnds, rows}
use Rattle.cops_replication.specs.Wiring.{AreOfOneLink, AreSenders, IsFreshIn, IsFreshLane, IsFreshOut, IsFreshReceiver, IsFreshSender, for_other, numbers, place_beside}
use Rattle.cops_replication.specs.declared.receiver.Receiver.{Receiver}
use Rattle.cops_replication.specs.declared.sender.Sender.{Sender}

-- ---- the place of another data centre

place_low : (own other : ℕ) → other ≤ own → place_beside own other ≡ other
place_low own other le = search rules

place_high : (own other : ℕ) → own < other → place_beside own other ≡ other - 1
place_high own other lt = search rules

place_next : (own other : ℕ) → other ≢ own → place_beside own (other + 1) ≡ place_beside own other + 1
place_next own other ne =
    elim (cases_lt own other) [
      | inl above ↦ place_high own (other + 1) (omega (arith, above)) ∙ omega (arith, above, place_high own other above)
      | inr below ↦ place_low own (other + 1) (omega (arith, ne, below)) ∙ omega (arith, place_low own other below)
    ]

place_own : (own : ℕ) → place_beside own (own + 1) ≡ place_beside own own
place_own own = place_high own (own + 1) (omega arith) ∙ omega (arith, place_low own own (omega arith))

-- a lesser data centre has a lesser place
place_less : (own other next : ℕ) → other < next → other ≢ own → place_beside own other < place_beside own next
place_less own other next less ne =
    elim (cases_lt own other) [
      | inl above ↦ omega (arith, less, above, place_high own other above, place_high own next (omega (arith, above, less)))
      | inr below ↦
          elim (cases_lt own next) [
            | inl high ↦ omega (arith, ne, below, high, place_low own other below, place_high own next high)
            | inr low ↦ omega (arith, less, place_low own other below, place_low own next low)
          ]
    ]

place_all : (own dcs : ℕ) → own < dcs → place_beside own dcs ≡ dcs - 1
place_all own dcs less = place_high own dcs less

-- ---- lists that gain an element

get_below : {X : Type 0} (xs : List X) (k : ℕ) (x : X) → k < length xs → slice_get (xs ++ x ∷ []) k ≡ slice_get xs k
get_below [] k x less = absurd (omega (arith, less))
get_below (y ∷ xs) zero x less = refl
get_below (y ∷ xs) (suc k) x less = get_below xs k x (omega (arith, less))

get_last : {X : Type 0} (xs : List X) (k : ℕ) (x : X) → length xs ≡ k → slice_get (xs ++ x ∷ []) k ≡ Some x
get_last [] zero x is = refl
get_last [] (suc k) x is = absurd (omega (arith, is))
get_last (y ∷ xs) zero x is = absurd (omega (arith, is))
get_last (y ∷ xs) (suc k) x is = get_last xs k x (omega (arith, is))

numbers_next : (n : ℕ) → numbers n ++ n ∷ [] ≡ numbers (n + 1)
numbers_next n = ap (λ (l : List ℕ). l ++ n ∷ []) (sym (map-id (numbers n))) ∙ sym (map-range_with_len_more (λ (x : ℕ). x) 0 n n (omega arith)) ∙ map-id (numbers (n + 1))

-- ---- rows of ends

row_set_same : (outs : List (Vec LinkOut)) (k : ℕ) (v : Vec LinkOut) → k < length outs → slice_index_or (rows (set outs k v)) k [] ≡ v.items
row_set_same outs k v less =
    ap (λ (l : List (List LinkOut)). get_or l k []) (map-set (λ (w : Vec LinkOut). w.items) outs k v)
    ∙ get_or-set_same (rows outs) k v.items [] (omega (arith, less, length-map outs (λ (w : Vec LinkOut). w.items)))

row_set_other : (outs : List (Vec LinkOut)) (k j : ℕ) (v : Vec LinkOut) → j ≢ k → slice_index_or (rows (set outs k v)) j [] ≡ slice_index_or (rows outs) j []
row_set_other outs k j v ne =
    ap (λ (l : List (List LinkOut)). get_or l j []) (map-set (λ (w : Vec LinkOut). w.items) outs k v)
    ∙ get_or-set_other (rows outs) k j v.items [] ne

row_is : (outs : List (Vec LinkOut)) (k : ℕ) (d : Vec LinkOut) → k < length outs → slice_index_or (rows outs) k [] ≡ (get_or outs k d).items
row_is outs k d less = get_or-map (λ (w : Vec LinkOut). w.items) outs k d [] less

-- ---- the links from one data centre

-- the links to the data centres below this one are made
pub record MadeBelow (below from capacity : ℕ) (ins : List LinkIn) (before after : List (List LinkOut)) : Type 0 where
  pub len : length ins ≡ place_beside from below
  pub fresh : All (IsFreshIn capacity) ins
  pub own : slice_index_or after from [] ≡ slice_index_or before from []
  pub done : (to : ℕ) → to < below → to ≢ from → GainsEnd (slice_get ins (place_beside from to)) (slice_index_or before to []) (slice_index_or after to [])
  pub rest : (to : ℕ) → below ≤ to → slice_index_or after to [] ≡ slice_index_or before to []

pub made_one : (to from capacity : ℕ) (ins : List LinkIn) (i : LinkIn) (o : LinkOut) (before : List (List LinkOut)) (outs : List (Vec LinkOut)) (d new : Vec LinkOut)
    → to < length outs → to ≢ from → MadeBelow to from capacity ins before (rows outs) → new.items ≡ (get_or outs to d).items ++ o ∷ []
    → IsLink i o × (sent i ≡ []) × (taken o ≡ []) × (known_room i ≡ capacity)
    → MadeBelow (to + 1) from capacity (ins ++ i ∷ []) before (rows (set outs to new))
made_one to from capacity ins i o before outs d new within ne p more link =
    let later : List LinkIn = ins ++ i ∷ [] in
    let after : List (List LinkOut) = rows (set outs to new) in
    let this : slice_index_or before to [] ≡ (get_or outs to d).items = sym (p.rest to (omega arith)) ∙ row_is outs to d within in
    let last : slice_index_or after to [] ≡ slice_index_or before to [] ++ o ∷ [] =
    row_set_same outs to new within ∙ more ∙ ap (λ (l : List LinkOut). l ++ o ∷ []) (sym this) in
    let here : GainsEnd (slice_get later (place_beside from to)) (slice_index_or before to []) (slice_index_or after to []) =
    subst (λ (x : Option LinkIn). GainsEnd x (slice_index_or before to []) (slice_index_or after to [])) (sym (get_last ins (place_beside from to) i p.len)) (o, last, link.0, link.2) in
    record {
      len = length_push ins i ∙ ap (λ (n : ℕ). n + 1) p.len ∙ sym (place_next from to ne);
      fresh = All-push (IsFreshIn capacity) ins i p.fresh (link.1, link.3);
      own = row_set_other outs to from new (λ e. ne (sym e)) ∙ p.own;
      done = λ k less other.
          elim (cases_lt k to) [
            | inl below ↦
                subst (λ (x : Option LinkIn). GainsEnd x (slice_index_or before k []) (slice_index_or after k []))
                (sym (get_below ins (place_beside from k) i (omega (arith, p.len, place_less from k to below other))))
                (subst (λ (l : List LinkOut). GainsEnd (slice_get ins (place_beside from k)) (slice_index_or before k []) l)
                (sym (row_set_other outs to k new (λ e. absurd (omega (arith, e, below))))) (p.done k below other))
            | inr above ↦
                let same : to ≡ k = omega (arith, less, above) in
                subst (λ (n : ℕ). GainsEnd (slice_get later (place_beside from n)) (slice_index_or before n []) (slice_index_or after n [])) same here
          ];
      rest = λ k le. row_set_other outs to k new (λ e. absurd (omega (arith, e, le))) ∙ p.rest k (omega (arith, le));
    }

-- ---- the senders

gains_end : (x : Option LinkIn) (before after : List LinkOut) → GainsEnd x before after
    → (i : LinkIn) × (x ≡ Some i) × ((o : LinkOut) × (after ≡ before ++ o ∷ []) × IsLink i o × IsFreshOut o)
gains_end None before after p = absurd p
gains_end (Some i) before after p = (i, refl, p)

-- the senders of the data centres below this one are made
pub record JoinedBelow (below dcs capacity : ℕ) (made : List Sender) (outs : List (List LinkOut)) : Type 0 where
  pub senders : AreSenders below (dcs - 1) capacity made
  pub count : length outs ≡ dcs
  pub ends : AreEnds dcs below outs
  pub joined : (from to : ℕ) → from < below → to < dcs → from ≢ to → AreOfOneLink (for_other (map lanes made) from to) (for_other outs to from)

no_row : (vs : List (Vec LinkOut)) (k : ℕ) → All (λ (v : Vec LinkOut). v.items ≡ []) vs → get_or (rows vs) k [] ≡ []
no_row [] k all = refl
no_row (v ∷ vs) zero all = All-head (λ (w : Vec LinkOut). w.items ≡ []) v vs all
no_row (v ∷ vs) (suc k) all = no_row vs k (All-tail (λ (w : Vec LinkOut). w.items ≡ []) v vs all)

pub joined_none : (dcs capacity : ℕ) (outs : List (Vec LinkOut)) → length outs ≡ dcs → All (λ (v : Vec LinkOut). v.items ≡ []) outs → JoinedBelow 0 dcs capacity [] (rows outs)
joined_none dcs capacity outs count none = record {
  senders = (refl, λ k d less. absurd (omega (arith, less)));
  count = length-map outs (λ (v : Vec LinkOut). v.items) ∙ count;
  ends = λ to less.
      let empty : slice_index_or (rows outs) to [] ≡ [] = no_row outs to none in
      (ap (λ (l : List LinkOut). length l) empty ∙ sym (place_low to 0 (omega arith)), subst (λ (l : List LinkOut). All IsFreshOut l) (sym empty) (λ k d lt. absurd (omega (arith, lt))));
  joined = λ from to less. absurd (omega (arith, less));
}

fresh_sender : (dcs capacity n : ℕ) (s : Sender) (ins : List LinkIn) (count : ℕ) → n < dcs → count ≡ dcs → s.read ≡ unread → lanes s ≡ map idle ins → length ins ≡ place_beside n count
    → All (IsFreshIn capacity) ins → IsFreshSender (dcs - 1) capacity s
fresh_sender dcs capacity n s ins count less is read links len fresh = (
  read,
  ap (λ (l : List ALane). length l) links ∙ length-map ins idle ∙ len ∙ ap (place_beside n) is ∙ place_all n dcs less,
  subst (λ (l : List ALane). All (IsFreshLane capacity) l) (sym links)
      (All-map (IsFreshLane capacity) idle ins (All-weaker (IsFreshIn capacity) (λ (i : LinkIn). IsFreshLane capacity (idle i)) (λ i p. (p, refl)) ins fresh)),
)

ends_more : (n dcs : ℕ) (ins : List LinkIn) (before after : List (List LinkOut)) → length before ≡ dcs → AreEnds dcs n before → GainsEnds n ins before after → AreEnds dcs (n + 1) after
ends_more n dcs ins before after count p gains = λ to less.
    elim (cases_eq to n) [
      | inl is ↦
          let old = p to less in
          let same : slice_index_or after to [] ≡ slice_index_or before to [] = subst (λ (k : ℕ). slice_index_or after k [] ≡ slice_index_or before k []) (sym is) gains.own in
          let place : place_beside to n ≡ place_beside to (n + 1) = subst (λ (k : ℕ). place_beside to k ≡ place_beside to (k + 1)) is (sym (place_own to)) in
          (ap (λ (l : List LinkOut). length l) same ∙ old.0 ∙ place, subst (λ (l : List LinkOut). All IsFreshOut l) (sym same) old.1)
      | inr ne ↦
          let old = p to less in
          let g = gains_end (slice_get ins (place_beside n to)) (slice_index_or before to []) (slice_index_or after to []) (gains.others to (omega (arith, less, count)) ne) in
          let o = g.2 in (
            ap (λ (l : List LinkOut). length l) o.1 ∙ length_push (slice_index_or before to []) o.0 ∙ ap (λ (k : ℕ). k + 1) old.0 ∙ sym (place_next to n (λ e. ne (sym e))),
            subst (λ (l : List LinkOut). All IsFreshOut l) (sym o.1) (All-push IsFreshOut (slice_index_or before to []) o.0 old.1 o.3),
          )
    ]

-- the end that a data centre has for an earlier one does not change
end_kept : (n dcs from to : ℕ) (ins : List LinkIn) (before after : List (List LinkOut)) → length before ≡ dcs → AreEnds dcs n before → GainsEnds n ins before after
    → from < n → to < dcs → from ≢ to → for_other after to from ≡ for_other before to from
end_kept n dcs from to ins before after count p gains less within other =
    elim (cases_eq to n) [
      | inl is ↦
          ap (λ (l : List LinkOut). slice_get l (place_beside to from)) (subst (λ (k : ℕ). slice_index_or after k [] ≡ slice_index_or before k []) (sym is) gains.own)
      | inr ne ↦
          let g = gains_end (slice_get ins (place_beside n to)) (slice_index_or before to []) (slice_index_or after to []) (gains.others to (omega (arith, within, count)) ne) in
          let o = g.2 in
          let there : place_beside to from < length (slice_index_or before to []) = omega (arith, place_less to from n less other, (p to within).0) in
          ap (λ (l : List LinkOut). slice_get l (place_beside to from)) o.1 ∙ get_below (slice_index_or before to []) (place_beside to from) o.0 there
    ]

-- the new ends belong to one link
end_new : (n dcs to : ℕ) (ins : List LinkIn) (before after : List (List LinkOut)) → length before ≡ dcs → AreEnds dcs n before → GainsEnds n ins before after
    → to < dcs → n ≢ to → AreOfOneLink (slice_get (map idle ins) (place_beside n to)) (for_other after to n)
end_new n dcs to ins before after count p gains within other =
    let g = gains_end (slice_get ins (place_beside n to)) (slice_index_or before to []) (slice_index_or after to []) (gains.others to (omega (arith, within, count)) (λ e. other (sym e))) in
    let o = g.2 in
    let lane : slice_get (map idle ins) (place_beside n to) ≡ Some (idle g.0) = slice_get-map idle ins (place_beside n to) ∙ ap (option_map idle) g.1 in
    let end : for_other after to n ≡ Some o.0 =
    ap (λ (l : List LinkOut). slice_get l (place_beside to n)) o.1 ∙ get_last (slice_index_or before to []) (place_beside to n) o.0 (p to within).0 in
    subst (λ (x : Option ALane). AreOfOneLink x (for_other after to n)) (sym lane) (subst (λ (x : Option LinkOut). AreOfOneLink (Some (idle g.0)) x) (sym end) o.2)

lanes_below : (senders : List Sender) (s : Sender) (from to : ℕ) → from < length senders → for_other (map lanes (senders ++ s ∷ [])) from to ≡ for_other (map lanes senders) from to
lanes_below senders s from to less =
    ap (λ (rs : List (List ALane)). slice_get (slice_index_or rs from []) (place_beside from to)) (map_push lanes senders s)
    ∙ ap (λ (r : List ALane). slice_get r (place_beside from to)) (get_or_append_left (map lanes senders) (lanes s ∷ []) [] from (omega (arith, less, length-map senders lanes)))

lanes_last : (senders : List Sender) (s : Sender) (from to : ℕ) → length senders ≡ from → for_other (map lanes (senders ++ s ∷ [])) from to ≡ slice_get (lanes s) (place_beside from to)
lanes_last senders s from to is =
    ap (λ (rs : List (List ALane)). slice_get (slice_index_or rs from []) (place_beside from to)) (map_push lanes senders s)
    ∙ ap (λ (r : List ALane). slice_get r (place_beside from to)) (get_or_push (map lanes senders) (lanes s) [] from (length-map senders lanes ∙ is))

count_of : (count links capacity : ℕ) (senders : List Sender) → AreSenders count links capacity senders → length senders ≡ count
count_of count links capacity senders p =
    sym (length-map senders (λ (s : Sender). s.dc)) ∙ ap (λ (l : List ℕ). length l) p.0 ∙ length-range_with_len 0 count

pub joined_one : (n dcs capacity : ℕ) (senders : List Sender) (s : Sender) (ins : List LinkIn) (before after : List (List LinkOut)) → n < dcs → JoinedBelow n dcs capacity senders before
    → s.dc ≡ n → s.read ≡ unread → lanes s ≡ map idle ins → length ins ≡ place_beside n (length before) → All (IsFreshIn capacity) ins → GainsEnds n ins before after → length after ≡ length before
    → JoinedBelow (n + 1) dcs capacity (senders ++ s ∷ []) after
joined_one n dcs capacity senders s ins before after less p dc read links len fresh gains same =
    let count : length senders ≡ n = count_of n (dcs - 1) capacity senders p.senders in
    record {
      senders = (
        map_push (λ (x : Sender). x.dc) senders s ∙ ap (λ (l : List ℕ). l ++ s.dc ∷ []) p.senders.0 ∙ ap (λ (k : ℕ). numbers n ++ k ∷ []) dc ∙ numbers_next n,
        All-push (IsFreshSender (dcs - 1) capacity) senders s p.senders.1 (fresh_sender dcs capacity n s ins (length before) less p.count read links len fresh),
      );
      count = same ∙ p.count;
      ends = ends_more n dcs ins before after p.count p.ends gains;
      joined = λ from to below within other.
          elim (cases_lt from n) [
            | inl earlier ↦
                subst (λ (x : Option ALane). AreOfOneLink x (for_other after to from)) (sym (lanes_below senders s from to (omega (arith, earlier, count))))
                (subst (λ (x : Option LinkOut). AreOfOneLink (for_other (map lanes senders) from to) x) (sym (end_kept n dcs from to ins before after p.count p.ends gains earlier within other))
                (p.joined from to earlier within other))
            | inr last ↦
                let is : n ≡ from = omega (arith, below, last) in
                let here : n ≢ to = λ e. other (sym is ∙ e) in
                let lane : for_other (map lanes (senders ++ s ∷ [])) n to ≡ slice_get (map idle ins) (place_beside n to) =
                lanes_last senders s n to count ∙ ap (λ (l : List ALane). slice_get l (place_beside n to)) links in
                subst (λ (k : ℕ). AreOfOneLink (for_other (map lanes (senders ++ s ∷ [])) k to) (for_other after to k)) is
                (subst (λ (x : Option ALane). AreOfOneLink x (for_other after to n)) (sym lane) (end_new n dcs to ins before after p.count p.ends gains within here))
          ];
    }

-- one more sender, in terms of the loop's invariants
pub joined_next : (n dcs capacity : ℕ) (senders more : List Sender) (s : Sender) (ins : List LinkIn) (before after : List (Vec LinkOut)) → n < dcs → JoinedBelow n dcs capacity senders (rows before)
    → s.dc ≡ n → s.read ≡ unread → lanes s ≡ map idle ins → length ins ≡ place_beside n (length before) → All (IsFreshIn capacity) ins → GainsEnds n ins (rows before) (rows after)
    → length after ≡ length before → more ≡ senders ++ s ∷ [] → JoinedBelow (n + 1) dcs capacity more (rows after)
joined_next n dcs capacity senders more s ins before after less p dc read links len fresh gains same is =
    let items : Vec LinkOut → List LinkOut = λ v. v.items in
    subst (λ (l : List Sender). JoinedBelow (n + 1) dcs capacity l (rows after)) (sym is)
    (joined_one n dcs capacity senders s ins (rows before) (rows after) less p dc read links (len ∙ ap (place_beside n) (sym (length-map before items))) fresh gains
    (length-map after items ∙ same ∙ sym (length-map before items)))

-- ---- the receivers

pub one_more : {X Y : Type 0} (f : X → Y) (xs more : List X) (x : X) (y : Y) (ys zs rest : List Y) → map f xs ++ ys ≡ zs → ys ≡ y ∷ rest → f x ≡ y → more ≡ xs ++ x ∷ [] → map f more ++ rest ≡ zs
one_more {Y = Y} f xs more x y ys zs rest all next is pushed =
    ap (λ l. map f l ++ rest) pushed ∙ ap (λ (l : List Y). l ++ rest) (map_push f xs x) ∙ append_assoc (map f xs) (f x ∷ []) rest ∙ ap (λ (l : List Y). map f xs ++ l) (ap (λ (z : Y). z ∷ rest) is ∙ sym next) ∙ all

pub fresh_receivers : (dcs : ℕ) (outs : List (List LinkOut)) (receivers : List Receiver) → length outs ≡ dcs → AreEnds dcs dcs outs → map ends receivers ≡ outs → All (IsFreshReceiver (dcs - 1)) receivers
fresh_receivers dcs outs receivers count p is = λ k d less.
    let within : k < dcs = omega (arith, less, count, ap (λ (l : List (List LinkOut)). length l) is, length-map receivers ends) in
    let row : slice_index_or outs k [] ≡ ends (get_or receivers k d) = ap (λ (l : List (List LinkOut)). get_or l k []) (sym is) ∙ get_or-map ends receivers k d [] less in
    let old = p k within in (
      ap (λ (l : List LinkOut). length l) (sym row) ∙ old.0 ∙ place_all k dcs within,
      subst (λ (l : List LinkOut). All IsFreshOut l) row old.1,
    )

-- nothing is left where as many elements were taken as there were
pub all_taken : {X Y : Type 0} (f : X → Y) (xs : List X) (rest zs : List Y) → map f xs ++ rest ≡ zs → length zs ≡ length xs → map f xs ≡ zs
all_taken f xs rest zs all count =
    let none : rest ≡ [] = nil_from_length rest (omega (arith, count, ap length all, length-append (map f xs) rest, length-map xs f)) in
    sym (append-nil (map f xs)) ∙ ap (λ l. map f xs ++ l) (sym none) ∙ all

-- as many elements were taken as there were, where nothing is left
pub none_left : {X Y : Type 0} (f : X → Y) (xs : List X) (rest zs : List Y) → map f xs ++ rest ≡ zs → length rest ≡ 0 → length zs ≡ length xs
none_left f xs rest zs all none = omega (arith, none, ap length all, length-append (map f xs) rest, length-map xs f)

pub made_so_many : (n : ℕ) (receivers : List Receiver) → map (λ (r : Receiver). r.dc) receivers ≡ numbers n → length receivers ≡ n
made_so_many n receivers is = sym (length-map receivers (λ (r : Receiver). r.dc)) ∙ ap (λ (l : List ℕ). length l) is ∙ length-range_with_len 0 n

pub paired_all : (n dcs : ℕ) (outs : List (Vec LinkOut)) (left : List (Vec LinkOut)) (shares rest : List Share) (receivers : List Receiver) → n ≡ dcs → length outs ≡ dcs → length shares ≡ dcs
    → map (λ (r : Receiver). r.dc) receivers ≡ numbers n → map ends receivers ++ rows left ≡ rows outs → map (λ (r : Receiver). r.share) receivers ++ rest ≡ shares
    → ArePaired dcs (rows outs) shares receivers
paired_all n dcs outs left shares rest receivers all count enough are links given =
    let made : length receivers ≡ dcs = made_so_many n receivers are ∙ all in
    record {
      dcs_are = are ∙ ap numbers all;
      links_are = all_taken ends receivers (rows left) (rows outs) links (length-map outs (λ (v : Vec LinkOut). v.items) ∙ count ∙ sym made);
      shares_are = all_taken (λ (r : Receiver). r.share) receivers rest shares given (enough ∙ sym made);
    }

pub receiver_more : (n : ℕ) (receivers more : List Receiver) (r : Receiver) → map (λ (x : Receiver). x.dc) receivers ≡ numbers n → r.dc ≡ n → more ≡ receivers ++ r ∷ []
    → map (λ (x : Receiver). x.dc) more ≡ numbers (n + 1)
receiver_more n receivers more r are is all =
    ap (map (λ (x : Receiver). x.dc)) all ∙ map_push (λ (x : Receiver). x.dc) receivers r ∙ ap (λ (l : List ℕ). l ++ r.dc ∷ []) are ∙ ap (λ (k : ℕ). numbers n ++ k ∷ []) is ∙ numbers_next n
