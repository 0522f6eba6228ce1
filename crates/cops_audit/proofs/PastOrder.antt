-- The past of an operation is decided, and so it is a finite set of pairs.
use Rattle.std.proofs.Common.{◌≡◌, ◌<◌, ℕ, zero, suc, List, [], ◌∷◌, ◌++◌, Option, Some, None, refl, sym, ◌∙◌, ap, subst, inl, inr, arith, slice_get, slice_index_or, Contains, map}
use mathlib.Core.Logic.Dec as dec
use mathlib.Core.List.{List-discrete}
use native.Mathlib.Decide.{dec_lt, map_dec, ℕ_discrete}
use Rattle.std.proofs.lemmas.List.{length-map, get_or-map}
use Rattle.std.proofs.lemmas.List.Elements.{Contains-append_left, Contains-append_right}
use Rattle.std.proofs.lemmas.Option.{slice_get_within}
use Rattle.cops_types.specs.declared.op.OpName.{OpName}
use Rattle.cops_types.specs.Histories.{Sessions, IsNamed, op_at, SessionStep, SourceStep, Operation, write, read, missed}
use Rattle.cops_types.specs.Past.{Step, Past, step, more}
use Rattle.cops_types.specs.Convergence.{Order, Precedes}
use Rattle.cops_audit.specs.Names.{names_of}
use Rattle.cops_audit.proofs.Listing.{first_or_later, later, slice_get_there}
use Rattle.cops_audit.proofs.Naming.{names_listed}
use Rattle.cops_audit.proofs.Reach.{either_dec, Linked, linked_dec, step_linked, joined}

content_dec : (x y : Option (List ℕ)) → Dec (x ≡ y)
content_dec (Some xs) (Some ys) = map_dec (λ e. ap Some e) (λ e. cc) (List-discrete ℕ_discrete xs ys)
content_dec (Some xs) None = no (λ e. absurd cc)
content_dec None (Some ys) = no (λ e. absurd cc)
content_dec None None = yes refl

-- whether one operation is a put and another is a get that returned it
pub source_dec : (h : Sessions) (a b : OpName) → Dec (SourceStep h a b)
source_dec h a b = by_ops (op_at h a) (op_at h b) refl refl
  where
    by_ops : (p q : Option Operation) → op_at h a ≡ p → op_at h b ≡ q → Dec (SourceStep h a b)
    by_ops (Some (write k x v)) (Some (read l y w)) e f =
        map_dec (λ s. let kl = s.0 in let xy = s.1.0 in let vw = s.1.1 in record { key = k; content = x; version = v; put = e; got = cc })
        (λ s. let put = s.put in let got = s.got in (cc, (cc, cc)))
        (dec.and (List-discrete ℕ_discrete k l) (dec.and (content_dec x y) (ℕ_discrete v w)))
    by_ops (Some (write k x v)) (Some (write l y w)) e f = no (λ s. let got = s.got in absurd cc)
    by_ops (Some (write k x v)) (Some (missed l)) e f = no (λ s. let got = s.got in absurd cc)
    by_ops (Some (write k x v)) None e f = no (λ s. let got = s.got in absurd cc)
    by_ops (Some (read k x v)) q e f = no (λ s. let put = s.put in absurd cc)
    by_ops (Some (missed k)) q e f = no (λ s. let put = s.put in absurd cc)
    by_ops None q e f = no (λ s. let put = s.put in absurd cc)

named_dec : (h : Sessions) (name : OpName) → Dec (IsNamed h name)
named_dec h name = by_op (op_at h name) refl
  where
    by_op : (q : Option Operation) → op_at h name ≡ q → Dec (IsNamed h name)
    by_op (Some op) e = yes (op, e)
    by_op None e = no (λ named. let there = named.1 in absurd cc)

session_dec : (h : Sessions) (a b : OpName) → Dec (SessionStep h a b)
session_dec h a b = map_dec (λ s. record { same_client = s.0; earlier = s.1.0; is_there = s.1.1 }) (λ s. (s.same_client, (s.earlier, s.is_there)))
    (dec.and (ℕ_discrete a.client b.client) (dec.and (dec_lt a.index b.index) (named_dec h b)))

pub earlier_there : (s : List Operation) (i j : ℕ) → i < j → (op : Operation) × (slice_get s j ≡ Some op) → (op : Operation) × (slice_get s i ≡ Some op)
earlier_there s i j less at = slice_get_there s i (omega (arith, less, slice_get_within s j at.0 at.1))

-- the first operation of a step is in the history
pub from_there : (h : Sessions) (a b : OpName) → Step h a b → IsNamed h a
from_there h a b (inl s) = earlier_there _ a.index b.index s.earlier (s.is_there.0, ap (λ c. slice_get (slice_index_or h c []) b.index) s.same_client ∙ s.is_there.1)
from_there h a b (inr s) = (write s.key s.content s.version, s.put)

pub past_joined : (h : Sessions) (a b c : OpName) → Past h a b → Past h b c → Past h a c
past_joined h a b c p (step s) = more p s
past_joined h a b c p (more q s) = more (past_joined h a b _ p q) s

linked_past : (h : Sessions) (vs : List OpName) (a b : OpName) → Linked (Step h) vs a b → Past h a b
linked_past h [] a b s = step s
linked_past h (v ∷ vs) a b (inl l) = linked_past h vs a b l
linked_past h (v ∷ vs) a b (inr r) = past_joined h a v b (linked_past h vs a v r.0) (linked_past h vs v b r.1)

past_linked : (h : Sessions) (a : OpName) {b : OpName} → Past h a b → Linked (Step h) (names_of h) a b
past_linked h a {b} (step s) = step_linked (Step h) (names_of h) a b s
past_linked h a {b} (more {by = m} p s) =
    joined (Step h) (names_of h) a m b (((names_listed h).members m).1 (from_there h m b s)) (past_linked h a p) (step_linked (Step h) (names_of h) m b s)

past_dec : (h : Sessions) (a b : OpName) → Dec (Past h a b)
past_dec h a b = map_dec (λ l. linked_past h (names_of h) a b l) (λ p. past_linked h a p) (linked_dec (Step h) (λ x y. either_dec (session_dec h x y) (source_dec h x y)) (names_of h) a b)

-- both ends of a past are in the history
pub past_from : (h : Sessions) (a : OpName) {b : OpName} → Past h a b → IsNamed h a
past_from h a {b} (step s) = from_there h a b s
past_from h a (more p s) = past_from h a p

pub past_to : (h : Sessions) (a b : OpName) → Past h a b → IsNamed h b
past_to h a b (step (inl s)) = s.is_there
past_to h a b (step (inr s)) = (_, s.got)
past_to h a b (more p (inl s)) = s.is_there
past_to h a b (more p (inr s)) = (_, s.got)

-- the elements of a list with a property that is decided
those : {A : Type 0} (P : A → Type 0) → ((x : A) → Dec (P x)) → (xs : List A) → (ys : List A) × ((x : A) → (Contains ys x → P x) × (P x → Contains xs x → Contains ys x))
those P decide [] = ([], λ x. (λ at. absurd (omega (arith, at.1)), λ p at. absurd (omega (arith, at.1))))
those P decide (y ∷ xs) =
    let rest = those P decide xs in
    elim (decide y) [
      | yes holds ↦ (
        y ∷ rest.0,
        λ x. (
          (λ at. elim (first_or_later y rest.0 x at) [ inl same ↦ subst P same holds | inr there ↦ (rest.1 x).0 there ]),
          (λ p at. elim (first_or_later y xs x at) [ inl same ↦ (zero, omega arith, same) | inr there ↦ later y rest.0 x ((rest.1 x).1 p there) ]),
        ),
      )
      | no fails ↦ (
        rest.0,
        λ x. (
          (rest.1 x).0,
          (λ p at. elim (first_or_later y xs x at) [ inl same ↦ absurd (fails (subst P (sym same) p)) | inr there ↦ (rest.1 x).1 p there ]),
        ),
      )
    ]

pairs : List OpName → List OpName → Order
pairs [] bs = []
pairs (a ∷ as') bs = map (λ b. (a, b)) bs ++ pairs as' bs

has_pair : (as' bs : List OpName) (a b : OpName) → Contains as' a → Contains bs b → Contains (pairs as' bs) (a, b)
unfolding pairs
has_pair [] bs a b at there = absurd (omega (arith, at.1))
has_pair (x ∷ as') bs a b (zero, small, same) there =
    let make : OpName → OpName × OpName = λ y. (x, y) in
    Contains-append_left (map make bs) (pairs as' bs) (a, b)
    (there.0, omega (arith, there.1, length-map bs make), get_or-map make bs there.0 b (a, b) there.1 ∙ ap make there.2 ∙ ap (λ (y : OpName). (y, b)) same)
has_pair (x ∷ as') bs a b (suc k, small, same) there =
    Contains-append_right (map (λ y. (x, y)) bs) (pairs as' bs) (a, b) (has_pair as' bs a b (k, omega (arith, small), same) there)

pasts : (h : Sessions) → (order : Order) × ((x : OpName × OpName) → (Contains order x → Past h x.0 x.1) × (Past h x.0 x.1 → Contains (pairs (names_of h) (names_of h)) x → Contains order x))
pasts h = those (λ (x : OpName × OpName). Past h x.0 x.1) (λ x. past_dec h x.0 x.1) (pairs (names_of h) (names_of h))

-- the past as a finite set of pairs
pub past_order : Sessions → Order
past_order h = (pasts h).0

pub precedes_past : (h : Sessions) (a b : OpName) → Precedes (past_order h) a b → Past h a b
unfolding past_order
precedes_past h a b at = ((pasts h).1 (a, b)).0 at

pub past_precedes : (h : Sessions) (a b : OpName) → Past h a b → Precedes (past_order h) a b
unfolding past_order
past_precedes h a b p =
    let named = (names_listed h).members in
    ((pasts h).1 (a, b)).1 p (has_pair (names_of h) (names_of h) a b ((named a).1 (past_from h a p)) ((named b).1 (past_to h a b p)))
