-- The session maxima, one after each of a session's first operations.
use Rattle.std.proofs.Common.{◌≡◌, ◌<◌, ◌≤◌, ◌+◌, ◌-◌, ℕ, List, [], ◌∷◌, ◌++◌, length, get_or, Some, refl, sym, ap, subst, inl, inr, arith, slice_get}
use Rattle.std.proofs.Math.Nat.{eq-or-lt_of_le}
use Rattle.std.proofs.lemmas.Bool.{cases_lt}
use Rattle.cops_types.specs.declared.op.OpName.{OpName}
use Rattle.cops_types.specs.Histories.{Sessions, PutsVersion}
use Rattle.cops_types.specs.Faults.{HasVersion, IsNotAbove, IsNotBelow}
use Rattle.cops_types.specs.Maxima.{IsMaximum}
use Rattle.cops_types.proofs.Climbing.{maximum_none}
use Rattle.cops_audit.specs.Climbs.{AreMaxima}
use Rattle.cops_audit.proofs.Acyclic.{one_version, same_name}
use Rattle.cops_audit.proofs.Listing.{slice_get_there}
use Rattle.cops_audit.proofs.Unique.{stands}
use Rattle.cops_audit.proofs.Marks.{slice_get_push}

pub maxima_push : (h : Sessions) (client : ℕ) (maxima : List ℕ) (maximum : ℕ) → AreMaxima h client maxima → IsMaximum h client (length maxima + 1) maximum → AreMaxima h client (maxima ++ maximum ∷ [])
maxima_push h client maxima maximum are is i x at = elim (slice_get_push maxima maximum x i at) [
  | inl old ↦ are i x old
  | inr new ↦ subst (λ (p : ℕ). IsMaximum h client p x) (ap (λ (j : ℕ). j + 1) (sym new.0)) (subst (IsMaximum h client (length maxima + 1)) new.1 is)
]

-- the last entry is the session maximum after all the operations that have one
pub maxima_last : (h : Sessions) (client : ℕ) (maxima : List ℕ) → AreMaxima h client maxima → (maximum : ℕ) → (length maxima ≡ 0 → maximum ≡ 0) → ((i : ℕ) → i + 1 ≡ length maxima → slice_get maxima i ≡ Some maximum) → IsMaximum h client (length maxima) maximum
maxima_last h client maxima are maximum none last = elim (cases_lt 0 (length maxima)) [
  | inl some ↦
      let e : length maxima - 1 + 1 ≡ length maxima = omega (arith, some) in
      subst (λ (k : ℕ). IsMaximum h client k maximum) e (are (length maxima - 1) maximum (last (length maxima - 1) e))
  | inr le ↦
      let e : length maxima ≡ 0 = omega (arith, le) in
      subst (λ (k : ℕ). IsMaximum h client k maximum) (sym e) (subst (IsMaximum h client 0) (sym (none e)) (maximum_none h client))
]

-- session maxima do not fall
maximum_grows : (h : Sessions) (client i j m n : ℕ) → IsMaximum h client i m → IsMaximum h client j n → i ≤ j → m ≤ n
maximum_grows h client i j m n a b le = elim a.reached [
  | inl none ↦ omega (arith, none)
  | inr r ↦ b.bounds r.0 m (omega (arith, r.1, le)) r.2
]

pub maxima_rise : (h : Sessions) (client : ℕ) (maxima : List ℕ) → AreMaxima h client maxima → (i j d : ℕ) → i ≤ j → j < length maxima → get_or maxima i d ≤ get_or maxima j d
maxima_rise h client maxima are i j d le inside =
    maximum_grows h client (i + 1) (j + 1) (get_or maxima i d) (get_or maxima j d)
    (are i (get_or maxima i d) (stands maxima i d (omega (arith, le, inside)))) (are j (get_or maxima j d) (stands maxima j d inside)) (omega (arith, le))

-- a put and its session's maxima
module _ (h : Sessions) (name : OpName) (own : ℕ) (put : PutsVersion h name own) (maxima : List ℕ) (are : AreMaxima h name.client maxima) where
  -- an operation that the put is not above raises the session maximum to the put's version or more
  reaches : (e : OpName) (f : IsNotBelow h e name) (i maximum : ℕ) → e.index ≤ i → slice_get maxima i ≡ Some maximum → own ≤ maximum
  reaches e f i maximum le at =
      let same : e ≡ record { client = name.client; index = e.index } = same_name e (record { client = name.client; index = e.index }) f.same_client refl in
      let low = (are i maximum at).bounds e.index f.version (omega (arith, le)) (subst (λ (n : OpName). HasVersion h n f.version) same f.has) in
      omega (arith, low, f.not_below, one_version h name name f.own own f.put put refl)

  -- where the session maximum before the put is below its version, the put is above all earlier operations
  pub above_all : (last : ℕ) → slice_get maxima (name.index - 1) ≡ Some last → last < own → (e : OpName) → ¬ IsNotBelow h e name
  above_all last at low e f = let le = reaches e f (name.index - 1) last (omega (arith, f.before)) at in omega (arith, le, low)

  -- where it is not, the first operation after which the session maximum reaches the put's version is the first that the put is not above
  pub first_reaches : (first : ℕ) → 0 < own → first < name.index → name.index ≤ length maxima
      → ((i maximum : ℕ) → i < first → slice_get maxima i ≡ Some maximum → maximum < own)
      → ((i maximum : ℕ) → first ≤ i → slice_get maxima i ≡ Some maximum → own ≤ maximum)
      → IsNotAbove h name (record { client = name.client; index = first })
  first_reaches first some before within low high =
      let there = slice_get_there maxima first (omega (arith, before, within)) in
      let reach = high first there.0 (omega arith) there.1 in
      let maximum = are first there.0 there.1 in
      let has : HasVersion h (record { client = name.client; index = first }) there.0 = elim maximum.reached [
        | inl none ↦ absurd (omega (arith, none, reach, some))
        | inr r ↦ elim (eq-or-lt_of_le (let le : r.0 ≤ first = omega (arith, r.1) in le)) [
          | inl same ↦ subst (λ (i : ℕ). HasVersion h (record { client = name.client; index = i }) there.0) same r.2
          | inr earlier ↦
              let at = slice_get_there maxima r.0 (omega (arith, earlier, before, within)) in
              let le = (are r.0 at.0 at.1).bounds r.0 there.0 (omega arith) r.2 in
              absurd (omega (arith, le, low r.0 at.0 earlier at.1, reach))
        ]
      ] in
      record {
        is_not_below = record { version = there.0; own = own; put = put; has = has; same_client = refl; before = before; not_below = reach };
        first = λ e f.
            let not : ¬ (e.index < first) = λ less.
            let at = slice_get_there maxima e.index (omega (arith, less, before, within)) in
            let le = reaches e f e.index at.0 (omega arith) at.1 in
            omega (arith, le, low e.index at.0 less at.1) in
            omega (arith, not);
      }
