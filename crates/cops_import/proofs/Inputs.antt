-- What was read from a reader whose bytes are known.
use Rattle.std.proofs.Common.{◌≡◌, ◌≤◌, ℕ, List, [], ◌++◌, arith, length, length-append, sym, ap, subst, ◌∙◌, append_assoc, append-nil}
use Rattle.std.specs.Prelude.{Option, Some, None, IfSome}
use Rattle.std.specs.Io.KnownBytes.{Consumes, IsAtEnd}
use Rattle.cops_types.specs.Counted.{inner}
use Rattle.cops_types.specs.declared.counted.Counted.{Counted}
use Rattle.cops_import.specs.declared.rules.Expected.{Expected}
use Rattle.cops_import.specs.declared.rules.Rules.{Rules}
use Rattle.cops_import.specs.Faults.{IsFaultOf}
use Rattle.cops_import.specs.Imports.{IsImport}
use Rattle.cops_import.specs.Lines.{LinesGive, lines}
use Rattle.cops_import.specs.Underway.{Finishes}
use Rattle.cops_import.specs.declared.fault.ImportFault.{ImportFault}
use Rattle.cops_import.specs.declared.imported.Imported.{Imported}

-- what was read before the end is all that the reader had
pub all_read : (a b c : Option (List ℕ)) (xs : List ℕ) → Consumes a b xs → Consumes b c [] → IsAtEnd c → IfSome a (λ bytes. bytes ≡ xs)
all_read None b c xs p q r = tt
all_read (Some u) None c xs p q r = absurd p
all_read (Some u) (Some v) None xs p q r = absurd q
all_read (Some u) (Some v) (Some w) xs p q r = p ∙ ap (λ (t : List ℕ). xs ++ t) (q ∙ r) ∙ append-nil xs

-- a fault that holds whatever follows holds for all bytes
pub fault_read : (a b c : Option (List ℕ)) (xs ys : List ℕ) (rules : Rules) (expected : Expected) (e : ImportFault) → Consumes a b xs → Consumes b c ys → ((more : List ℕ) → IsFaultOf rules expected ((xs ++ ys) ++ more) e)
    → IfSome a (λ bytes. IsFaultOf rules expected bytes e)
fault_read None b c xs ys rules expected e p q says = tt
fault_read (Some u) None c xs ys rules expected e p q says = absurd p
fault_read (Some u) (Some v) None xs ys rules expected e p q says = absurd q
fault_read (Some u) (Some v) (Some w) xs ys rules expected e p q says =
    subst (λ (bytes : List ℕ). IsFaultOf rules expected bytes e) (sym (p ∙ ap (λ (t : List ℕ). xs ++ t) q ∙ sym (append_assoc xs ys w))) (says w)

-- the reader had at least as many bytes as were read
pub long_read : (a b : Option (List ℕ)) (xs : List ℕ) (n : ℕ) → Consumes a b xs → n ≤ length xs → IfSome a (λ bytes. n ≤ length bytes)
long_read None b xs n p h = tt
long_read (Some u) None xs n p h = absurd p
long_read (Some u) (Some v) xs n p h = omega (arith, ap length p, length-append xs v, h)

pub fault_of_all : (known : Option (List ℕ)) (fed : List ℕ) (rules : Rules) (expected : Expected) (e : ImportFault) → IfSome known (λ bytes. bytes ≡ fed) → IsFaultOf rules expected fed e → IfSome known (λ bytes. IsFaultOf rules expected bytes e)
fault_of_all None fed rules expected e is says = tt
fault_of_all (Some bytes) fed rules expected e is says = subst (λ (b : List ℕ). IsFaultOf rules expected b e) (sym is) says

pub fault_of_any : (known : Option (List ℕ)) (rules : Rules) (expected : Expected) (e : ImportFault) → ((bytes : List ℕ) → IsFaultOf rules expected bytes e) → IfSome known (λ bytes. IsFaultOf rules expected bytes e)
fault_of_any None rules expected e says = tt
fault_of_any (Some bytes) rules expected e says = says bytes

-- the rules and what is expected are those of the import
pub fault_as : (known : Option (List ℕ)) (f f' : Rules) (k k' : Expected) (e : ImportFault) → f ≡ f' → k ≡ k' → IfSome known (λ bytes. IsFaultOf f k bytes e) → IfSome known (λ bytes. IsFaultOf f' k' bytes e)
fault_as None f f' k k' e rules expected says = tt
fault_as (Some bytes) f f' k k' e rules expected says = subst (λ (x : Rules). IsFaultOf x k' bytes e) rules (subst (λ (x : Expected). IsFaultOf f x bytes e) expected says)

module _ {W : Type 0} (contents : W → Option (List ℕ)) (from : Counted W) where
  pub import_of_all : (known : Option (List ℕ)) (rules : Rules) (clients : ℕ) (fed : List ℕ) (done : Imported W) → IfSome known (λ bytes. bytes ≡ fed) → Finishes contents from rules clients fed done
      → IfSome known (λ bytes. IsImport rules bytes (contents (inner from)) (contents (inner done.writer)) done.names done.unknown.items done.operations)
  import_of_all None rules clients fed done is finished = tt
  import_of_all (Some bytes) rules clients fed done is finished = record {
    given = finished.0;
    report = subst (λ (b : List ℕ). LinesGive rules (lines b) finished.0) (sym is) finished.1;
    summary = finished.2.summary;
    is_trace = finished.2.is_trace;
    written = finished.2.written;
  }
