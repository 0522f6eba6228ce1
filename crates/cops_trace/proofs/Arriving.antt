-- The trace of a history and of the order in which its operations arrived.
use Rattle.std.proofs.Common.{◌≡◌, ℕ, zero, suc, ◌+◌, ◌^◌, ◌<◌, ◌≤◌, List, [], ◌∷◌, ◌++◌, length, take, drop, get_or, replicate, slice_get, Some, None, refl, sym, ap, subst, ◌∙◌, append_assoc, arith, inl, inr, take-suc, get_or-set_same, get_or-set_other}
use Rattle.std.proofs.Math.ListN.{set, length-set}
use Rattle.std.proofs.lemmas.Bool.{eqb-false}
use Rattle.std.proofs.lemmas.List.{length-append, length-drop, length-replicate, length-take-le, append-nil}
use Rattle.std.proofs.lemmas.List.Sums.{sum_by-cons, sum_by-set}
use Rattle.cops_types.specs.declared.format.Format.{Format}
use Rattle.cops_types.specs.declared.limits.TheConstants.{MAX_CLIENT_OPS}
use Rattle.cops_types.specs.Format.{AreInFormat, IsInFormat}
use Rattle.cops_types.specs.Histories.{Sessions, Operation, op_at, with_op}
use Rattle.cops_types.specs.Counts.{count_of}
use Rattle.cops_types.specs.Recorded.{IsWithinLimits}
use Rattle.cops_types.proofs.Sessions.{none_of}
use Rattle.cops_types.proofs.Showing.{item_came_last}
use Rattle.cops_trace.specs.Text.{ARecord, ATrace, IsOp, sessions_after}
use Rattle.cops_trace.specs.Counts.{ACounts, AreCountsOf, HasTurn, counted, next_of, nothing}
use Rattle.cops_trace.specs.Kept.{op_in, trace_of, IsKept, IsOrder}
use Rattle.cops_trace.proofs.Lists.{same_or_other, times, times-cons, times-same}
use Rattle.cops_trace.proofs.Allocation.{op_in_format, with_records}
use Rattle.cops_trace.proofs.Keeping.{AreNamed, kept_none, kept_grown, kept_turn, kept_count, kept_len, length-records_from, trace_grown, turn-records_from}
use Rattle.cops_trace.proofs.Prefixes.{op_there, turn_inside}
use Rattle.cops_trace.proofs.Underway.{counts_grown, counts_none}

-- ---- sessions of which others are prefixes

abbrev ArePrefixes : Sessions → Sessions → Type 0
ArePrefixes g h = (d : ℕ) → (rest : List Operation) × (get_or h d [] ≡ get_or g d [] ++ rest)

empty : (l : List Operation) → length l ≡ 0 → l ≡ []
empty [] none = refl
empty (x ∷ l) none = absurd (omega (arith, none))

prefixes_fewer : (g h : Sessions) → length g ≡ length h → ArePrefixes g h → count_of g ≤ count_of h
prefixes_fewer [] [] width pre = omega arith
prefixes_fewer [] (t ∷ h) width pre = absurd (omega (arith, width))
prefixes_fewer (s ∷ g) [] width pre = absurd (omega (arith, width))
prefixes_fewer (s ∷ g) (t ∷ h) width pre =
    omega (arith, sum_by-cons length s g, sum_by-cons length t h, prefixes_fewer g h (omega (arith, width)) (λ d. pre (suc d)), ap length (pre 0).1, length-append s (pre 0).0)

-- prefixes with as many operations are the whole sessions
prefixes_whole : (g h : Sessions) → length g ≡ length h → ArePrefixes g h → count_of g ≡ count_of h → g ≡ h
prefixes_whole [] [] width pre all = refl
prefixes_whole [] (t ∷ h) width pre all = absurd (omega (arith, width))
prefixes_whole (s ∷ g) [] width pre all = absurd (omega (arith, width))
prefixes_whole (s ∷ g) (t ∷ h) width pre all =
    let rest = (pre 0).0 in
    let parts : length t ≡ length s + length rest = ap length (pre 0).1 ∙ length-append s rest in
    let fewer = prefixes_fewer g h (omega (arith, width)) (λ d. pre (suc d)) in
    let none : length rest ≡ 0 = omega (arith, all, parts, fewer, sum_by-cons length s g, sum_by-cons length t h) in
    let first : s ≡ t = sym ((pre 0).1 ∙ ap (λ (l : List Operation). s ++ l) (empty rest none) ∙ append-nil s) in
    let later : g ≡ h = prefixes_whole g h (omega (arith, width)) (λ d. pre (suc d)) (omega (arith, all, parts, none, sum_by-cons length s g, sum_by-cons length t h)) in
    ap (λ (l : List Operation). l ∷ g) first ∙ ap (λ (l : Sessions). t ∷ l) later

-- ---- the first arrivals

-- Of a history's operations those of the first arrivals, a trace with these counts: they are the first ones of each session.
pub record IsPartly (format : Format) (h : Sessions) (cs : List ℕ) (c : ACounts) : Type 0 where
  pub sessions : Sessions
  pub kept : IsKept format sessions cs
  pub counts : AreCountsOf (trace_of format sessions cs) c
  pub width : length sessions ≡ length h
  pub first : ArePrefixes sessions h

pub partly_none : (format : Format) (h : Sessions) (c : ACounts) → length h < 2 ^ 16 → c ≡ nothing format (length h) → IsPartly format h [] c
partly_none format h c few is =
    let g = replicate {A = List Operation} (length h) [] in
    let width : length g ≡ length h = length-replicate (length h) [] in
    record {
      sessions = g;
      kept = kept_none format (length h) few;
      counts = subst (AreCountsOf (trace_of format g [])) (sym is) (subst (λ (n : ℕ). AreCountsOf (with_records format n []) (nothing format (length h))) (sym width) (counts_none format (length h)));
      width = width;
      first = λ d. (get_or h d [], ap (λ (l : List Operation). l ++ get_or h d []) (sym (none_of (length h) d)));
    }

there_inside : (h : Sessions) (d i : ℕ) (op : Operation) → slice_get (get_or h d []) i ≡ Some op → d < length h
there_inside [] d i op at = let gone : None ≡ Some op = at in absurd cc
there_inside (s ∷ h) zero i op at = omega arith
there_inside (s ∷ h) (suc d) i op at = omega (arith, there_inside h d i op at)

-- What is read of the next arrival: its client's operation at the index that the counts say.
abbrev Reads : Sessions → List ℕ → ℕ → ACounts → ℕ → Operation → Type 0
Reads h cs i c index op = (index ≡ next_of c (get_or cs i 0)) × (index < MAX_CLIENT_OPS) × (Some op ≡ op_at h (record { client = get_or cs i 0; index = index }))

-- its client may have one record more
pub partly_turn : (format : Format) (h : Sessions) (cs : List ℕ) (i : ℕ) (c : ACounts) (index : ℕ) (op : Operation) → IsPartly format h (take i cs) c → i < length cs → length cs ≡ count_of h
    → IsWithinLimits h → Reads h cs i c index op → HasTurn c (get_or cs i 0)
partly_turn format h cs i c index op k lt all limits read = (
  omega (arith, there_inside h (get_or cs i 0) index op (sym read.2), k.width, k.counts.clients),
  omega (arith, read.0, read.1),
  omega (arith, lt, all, limits.all, k.counts.total, length-records_from k.sessions [] (take i cs), length-take-le i cs (omega (arith, lt))),
)

rest_first : (s rest : List Operation) (op : Operation) → slice_get (s ++ rest) (length s) ≡ Some op → (later : List Operation) × (rest ≡ op ∷ later)
rest_first [] [] op at = let gone : None ≡ Some op = at in absurd cc
rest_first [] (x ∷ rest) op at = let same : Some x ≡ Some op = at in let is : x ≡ op = cc in (rest, ap (λ (o : Operation). o ∷ rest) is)
rest_first (x ∷ s) rest op at = rest_first s rest op at

-- its operation is the next one of its session
pub partly_next : (format : Format) (h : Sessions) (cs : List ℕ) (i : ℕ) (c : ACounts) (index : ℕ) (op : Operation) → IsPartly format h (take i cs) c → i < length cs → length cs ≡ count_of h
    → IsWithinLimits h → Reads h cs i c index op → IsOp format op → IsPartly format h (take (i + 1) cs) (counted c (get_or cs i 0))
partly_next format h cs i c index op k lt all limits read is =
    let p = take i cs in
    let d = get_or cs i 0 in
    let g = k.sessions in
    let s = get_or g d [] in
    let r : ARecord = record { client = d; op = op } in
    let turn = partly_turn format h cs i c index op k lt all limits read in
    let inside : d < length g = omega (arith, turn.0, k.counts.clients) in
    let len : index ≡ length s = read.0 ∙ k.counts.next d ∙ sym (kept_turn format g p d k.kept) in
    let rest = (k.first d).0 in
    let at_end : slice_get (s ++ rest) (length s) ≡ Some op = ap (slice_get (s ++ rest)) (sym len) ∙ ap (λ (l : List Operation). slice_get l index) (sym (k.first d).1) ∙ sym read.2 in
    let next = rest_first s rest op at_end in
    let same : get_or (with_op g d op) d [] ≡ s ++ op ∷ [] = get_or-set_same g d (s ++ op ∷ []) [] inside in
    let more : take (i + 1) cs ≡ p ++ d ∷ [] = let e : i + 1 ≡ suc i = omega arith in ap (λ (n : ℕ). take n cs) e ∙ take-suc cs i 0 lt in
    subst (λ (l : List ℕ). IsPartly format h l (counted c d)) (sym more) (record {
      sessions = with_op g d op;
      kept = kept_grown format g p d op k.kept inside is (omega (arith, turn.1, k.counts.next d)) (omega (arith, turn.2, k.counts.total));
      counts = subst (λ (t : ATrace). AreCountsOf t (counted c d)) (sym (trace_grown format g p d op k.kept inside)) (counts_grown (trace_of format g p) c r k.counts turn.0);
      width = length-set g d _ ∙ k.width;
      first = λ e. elim (same_or_other d e) [
        | inl q ↦ subst (λ (f : ℕ). (later : List Operation) × (get_or h f [] ≡ get_or (with_op g d op) f [] ++ later)) q (
          next.0,
          (k.first d).1 ∙ ap (λ (l : List Operation). s ++ l) next.1 ∙ sym (append_assoc s (op ∷ []) next.0) ∙ ap (λ (l : List Operation). l ++ next.0) (sym same),
        )
        | inr q ↦ (
          (k.first e).0,
          (k.first e).1 ∙ ap (λ (l : List Operation). l ++ (k.first e).0) (sym (get_or-set_other g d e (s ++ op ∷ []) [] (λ x. eqb-false _ _ q (sym x)))),
        )
      ];
    })

-- in an order of the history's operations it is there
pub partly_there : (format : Format) (h : Sessions) (cs : List ℕ) (i : ℕ) (c : ACounts) → IsPartly format h (take i cs) c → IsOrder h cs → i < length cs
    → let d = get_or cs i 0 in op_at h (record { client = d; index = next_of c d }) ≡ Some (op_in h d (next_of c d))
partly_there format h cs i c k order lt =
    let d = get_or cs i 0 in
    let index : next_of c d ≡ times d (take i cs) = k.counts.next d ∙ turn-records_from k.sessions d [] (take i cs) in
    op_there h d (next_of c d) (omega (arith, index, turn_inside h cs i order lt))

-- all arrivals, if there are as many as operations
pub partly_all : (format : Format) (h : Sessions) (cs : List ℕ) (c : ACounts) → IsPartly format h cs c → length cs ≡ count_of h → IsKept format h cs
partly_all format h cs c k all =
    let count : count_of k.sessions ≡ count_of h = kept_count format k.sessions cs k.kept ∙ length-records_from k.sessions [] cs ∙ all in
    subst (λ (g : Sessions). IsKept format g cs) (prefixes_whole k.sessions h k.width k.first count) k.kept

-- ---- an order of a history's operations

after_in_format : (format : Format) (n : ℕ) (h : Sessions) (rs : List ARecord) → length h ≡ n → AreInFormat format h → AreNamed format n rs → AreInFormat format (sessions_after h rs)
after_in_format format n h [] width old named = old
after_in_format format n h (r ∷ rs) width old named =
    let inside : r.client < length h = omega (arith, width, named.0.0) in
    let new : AreInFormat format (with_op h r.client r.op) = λ name op at. elim (item_came_last h r.client r.op inside name op at) [
      | inl before ↦ old name op before
      | inr last ↦ subst (IsInFormat format) last.0 (op_in_format format r.op named.0.1)
    ] in
    after_in_format format n (with_op h r.client r.op) rs (length-set h r.client _ ∙ width) new named.1

-- what is stored of a trace is an order of operations of its format
pub kept_order : (format : Format) (h : Sessions) (cs : List ℕ) → IsKept format h cs → IsOrder h cs × AreInFormat format h
kept_order format h cs k =
    let n = length h in
    let none : AreInFormat format (replicate n []) = λ name op at.
    let gone : None ≡ Some op = ap (λ (s : List Operation). slice_get s name.index) (sym (none_of n name.client)) ∙ at in absurd cc in
    (λ c. sym (kept_len format h cs c k), subst (AreInFormat format) (sym k.sessions) (after_in_format format n (replicate n []) (trace_of format h cs).records (length-replicate n []) none k.is_trace.named))

empty_count : (h : Sessions) → ((c : ℕ) → length (get_or h c []) ≡ 0) → count_of h ≡ 0
empty_count [] none = refl
empty_count (s ∷ h) none = omega (arith, sum_by-cons length s h, none 0, empty_count h (λ c. none (suc c)))

some_inside : (h : Sessions) (c : ℕ) → 0 < length (get_or h c []) → c < length h
some_inside [] c some = absurd (omega (arith, some))
some_inside (s ∷ h) zero some = omega arith
some_inside (s ∷ h) (suc c) some = omega (arith, some_inside h c some)

-- an order has as many arrivals as there are operations
pub order_count : (h : Sessions) (cs : List ℕ) → IsOrder h cs → length cs ≡ count_of h
order_count h [] order = sym (empty_count h (λ c. sym (order c)))
order_count h (c ∷ cs) order =
    let s = get_or h c [] in
    let some : length s ≡ times c cs + 1 = sym (order c) ∙ times-same c cs in
    let inside = some_inside h c (omega (arith, some)) in
    let fewer : length (drop 1 s) ≡ times c cs = omega (arith, length-drop 1 s, some) in
    let later : IsOrder (set h c (drop 1 s)) cs = λ d. elim (same_or_other c d) [
      | inl p ↦ subst (λ (e : ℕ). times e cs ≡ length (get_or (set h c (drop 1 s)) e [])) p (sym fewer ∙ sym (ap length (get_or-set_same h c (drop 1 s) [] inside)))
      | inr p ↦
          let same : times d (c ∷ cs) ≡ times d cs = times-cons d c cs ∙ rw p (omega arith) in
          sym same ∙ order d ∙ sym (ap length (get_or-set_other h c d (drop 1 s) [] (λ q. eqb-false _ _ p (sym q))))
    ] in
    omega (arith, order_count (set h c (drop 1 s)) cs later, sum_by-set length h c (drop 1 s) [] inside, fewer, some)
