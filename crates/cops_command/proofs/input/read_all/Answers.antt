use Rattle.std.proofs.Common.{◌≡◌, ◌++◌, [], List, ℕ, length, length-append, Option, None, Some, IfSome, refl, sym, ap, subst, ◌∙◌, arith}
use Rattle.std.proofs.lemmas.List.{append-nil}
use Rattle.std.specs.Io.KnownBytes.{Consumes, IsAtEnd}
use Rattle.cops_types.specs.Counted.{inner}
use Rattle.cops_types.proofs.Devices.{consumed, consumed_none}
use Rattle.cops_command.proofs.input.read_all.Goals as goal

-- what was read before the end is all there was
all_read : (a b c : Option (List ℕ)) (xs : List ℕ) → Consumes a b xs → Consumes b c [] → IsAtEnd c → IfSome a (λ all. xs ≡ all)
all_read None b c xs p q r = tt
all_read (Some u) None c xs p q r = absurd p
all_read (Some u) (Some v) None xs p q r = absurd q
all_read (Some u) (Some v) (Some w) xs p q r = sym (p ∙ ap (λ (t : List ℕ). xs ++ t) (q ∙ r) ∙ append-nil xs)

-- from nothing, nothing is read
none_taken : (a b c : Option (List ℕ)) (xs ys : List ℕ) → Consumes a b xs → Consumes b c ys → a ≡ Some [] → length ys ≡ 0
none_taken None b c xs ys p q e = absurd cc
none_taken (Some u) None c xs ys p q e = absurd p
none_taken (Some u) (Some v) None xs ys p q e = absurd q
none_taken (Some u) (Some v) (Some w) xs ys p q e =
    let none : u ≡ [] = cc in
    let size = λ (t : List ℕ). length t in
    omega (arith, ap size none, ap size p, length-append xs v, ap size q, length-append ys w)

pub loop-count-init : goal.loop-count-init
loop-count-init g c = (subst (λ (xs : List ℕ). Consumes (g.R.Read.remaining (inner c.args.reader.now)) (g.R.Read.remaining (inner c.args.reader.now)) xs) (sym c.new-bytes.ensures.items) (consumed_none _), refl)

pub loop-count-preserved : goal.loop-count-preserved
loop-count-preserved g c = (
  subst (λ (xs : List ℕ). Consumes (g.R.Read.remaining (inner c.args.reader.now)) (g.R.Read.remaining (inner c.read.new.self)) xs) (sym c.in_ok-extend_from_slice.ensures.items)
      (consumed _ (g.R.Read.remaining (inner c.loop-count.reader)) _ _ _ c.loop-count.invariant.0 c.in-Ok.ensures.bytes.0),
  c.in-Ok.ensures.count ∙ c.loop-count.invariant.1,
)

pub returns-then-count-eq0-clause-all : goal.returns-then-count-eq0-clause-all
returns-then-count-eq0-clause-all g c =
    let read = c.in-Ok.ensures.bytes in
    all_read _ _ _ _ c.loop-count.invariant.0 (rw c.if-count-eq0.true at read.0) (read.1 c.if-count-eq0.true (omega arith))

pub returns-in_err-extend_from_slice-clause-empty : goal.returns-in_err-extend_from_slice-clause-empty
returns-in_err-extend_from_slice-clause-empty g c = λ e.
    absurd (omega (arith, c.if-count-eq0.false, c.in-Ok.ensures.bound.1, none_taken _ (g.R.Read.remaining (inner c.loop-count.reader)) _ _ _ c.loop-count.invariant.0 c.in-Ok.ensures.bytes.0 e))
