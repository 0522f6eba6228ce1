-- Where an operation makes a put faulty, there is a first one that does; where some put is newer, there is a newest one.
use Rattle.std.proofs.Common.{◌≡◌, ◌<◌, ◌≤◌, ◌+◌, ℕ, zero, suc, List, [], ap, arith, slice_index_or, get_or}
use Rattle.std.specs.Prelude.{sum_by}
use Rattle.std.proofs.lemmas.List.Sums.{get_or-le-sum_by}
use Rattle.std.proofs.lemmas.Option.{slice_get_within, get_or_from_slice_get}
use Rattle.cops_audit.proofs.Listing.{named_client}
use Rattle.cops_types.specs.declared.op.OpName.{OpName}
use Rattle.cops_types.specs.Histories.{Sessions, PutsVersion, Operation, write, read, missed}
use Rattle.cops_types.specs.Faults.{IsNotBelow, IsNewer}
use Rattle.cops_audit.proofs.Acyclic.{VersionsRise}
use Rattle.cops_types.specs.Verdicts.{AllAbove, NoneStale}

-- by induction on a bound of the place
none_within : (h : Sessions) → AllAbove h → (bound : ℕ) (earlier name : OpName) → earlier.index < bound → ¬ IsNotBelow h earlier name
none_within h above zero earlier name small fault = omega arith
none_within h above (suc bound) earlier name small fault =
    above name earlier (record {
      is_not_below = fault;
      first = λ e other.
          let not : ¬ (e.index < earlier.index) = λ less. none_within h above bound e name (omega arith) other in
          omega (arith, not);
    })

pub versions_rise : (h : Sessions) → AllAbove h → VersionsRise h
versions_rise h above earlier name fault = none_within h above (suc earlier.index) earlier name (omega arith) fault

-- the version of an operation, 0 for a get that found nothing
version_of : Operation → ℕ
version_of (write k v w) = w
version_of (read k v w) = w
version_of (missed k) = 0

-- no version in the history is above this
bound : Sessions → ℕ
bound h = sum_by (λ ops. sum_by version_of ops) h

version_bound : (h : Sessions) (p : OpName) (w : ℕ) → PutsVersion h p w → w ≤ bound h
unfolding bound version_of
version_bound h p w put =
    let op = write put.0 put.1 w in
    let session = slice_index_or h p.client [] in
    let same : version_of (get_or session p.index op) ≡ w = ap version_of (get_or_from_slice_get session p.index op op put.2) in
    let own = get_or-le-sum_by version_of session p.index op (slice_get_within session p.index op put.2) in
    let all = get_or-le-sum_by (λ (ops : List Operation). sum_by version_of ops) h p.client [] (named_client h p (op, put.2)) in
    omega (arith, same, own, all)

-- by induction on how far the version is below the bound
none_above : (h : Sessions) → NoneStale h → (room : ℕ) (name newer : OpName) (w : ℕ) → bound h < w + room → ¬ IsNewer h name newer w
none_above h fresh zero name newer w small fault =
    let le : w ≤ bound h = version_bound h newer w (fault.key, fault.put.0, fault.put.1) in
    omega (arith, le)
none_above h fresh (suc room) name newer w small fault =
    fresh name newer (record {
      version = w;
      is_newer = fault;
      newest = λ q v other.
          let not : ¬ (w < v) = λ less. none_above h fresh room name q v (omega arith) other in
          omega (arith, not);
    })

pub none_newer : (h : Sessions) → NoneStale h → (name newer : OpName) (w : ℕ) → ¬ IsNewer h name newer w
none_newer h fresh name newer w fault = none_above h fresh (suc (bound h)) name newer w (omega arith) fault
