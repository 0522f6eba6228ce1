-- A session and its context after each operation: each operation is fair to the context before it.
use Rattle.std.proofs.Common.{◌≡◌, ◌≢◌, ℕ, zero, suc, ◌≤◌, ◌⊎◌, inl, inr, List, [], ◌∷◌, ◌++◌, Contains, Some, slice_get, length, refl, sym, ap, ◌∙◌, arith, subst, Option}
use Rattle.std.proofs.lemmas.List.Elements.{Contains-append_left}
use Rattle.cops_types.specs.Histories.{Operation, write, read, missed}
use Rattle.cops_types.specs.declared.dep.Dep.{Dep}
use Rattle.cops_types.specs.declared.put_record.PutRecord.{PutRecord}
use Rattle.cops_context.specs.Context.{with_pair}
use Rattle.cops_node.specs.Node.{put_pair}
use Rattle.cops_core.specs.Dependencies.{HasPut, Needs, Reaches, IsConsistent}
use Rattle.cops_core.specs.Invariants.{Covers}
use Rattle.cops_core.proofs.Lists.{at_version, contains_one, contains_head, gain_old, gain_cases}
use Rattle.cops_core.proofs.Reaching.{reaches_itself, reaches_dep, reaches_old}

-- the context after an operation
abbrev pub context_after : List Dep → Operation → List Dep
context_after context (write k x v) = at_version k v ∷ []
context_after context (read k x v) = with_pair context (at_version k v)
context_after context (missed k) = context

-- the context before the operation at an index
abbrev pub context_before : List Dep → List Operation → ℕ → List Dep
context_before context ops zero = context
context_before context [] (suc i) = context
context_before context (op ∷ ops) (suc i) = context_before (context_after context op) ops i

-- one of the puts has this key, value and version
pub record IsOf (puts : List PutRecord) (k : List ℕ) (x : Option (List ℕ)) (v : ℕ) (put : PutRecord) : Type 0 where
  pub among : Contains puts put
  pub pair_is : put_pair put ≡ at_version k v
  pub value : put.value ≡ x

pub record WasPut (puts : List PutRecord) (context : List Dep) (k : List ℕ) (x : Option (List ℕ)) (v : ℕ) : Type 0 where
  pub put : PutRecord
  pub is : IsOf puts k x v put
  pub deps : put.deps ≡ context

-- nothing on the key that the context reaches is newer
pub record WasGot (puts : List PutRecord) (context : List Dep) (k : List ℕ) (x : Option (List ℕ)) (v : ℕ) : Type 0 where
  pub put : PutRecord
  pub is : IsOf puts k x v put
  pub newest : (p q : Dep) → Contains (with_pair context (at_version k v)) p → Reaches puts p q → q.key ≡ k → q.version ≤ v

pub record WasMissed (puts : List PutRecord) (context : List Dep) (k : List ℕ) : Type 0 where
  pub none : (p q : Dep) → Contains context p → Reaches puts p q → q.key ≢ k

abbrev pub IsFair : List PutRecord → List Dep → Operation → Type 0
IsFair puts context (write k x v) = WasPut puts context k x v
IsFair puts context (read k x v) = WasGot puts context k x v
IsFair puts context (missed k) = WasMissed puts context k

abbrev pub AllFair : List PutRecord → List Dep → List Operation → Type 0
AllFair puts context [] = Unit {0}
AllFair puts context (op ∷ ops) = IsFair puts context op × AllFair puts (context_after context op) ops

pub covers_own : (puts : List PutRecord) (context : List Dep) (p : Dep) → Contains context p → Covers puts context p
covers_own puts context p h = record { from = p; among = h; reaches = reaches_itself puts p }

pub fair_pushed : (puts : List PutRecord) (context : List Dep) (ops : List Operation) (op : Operation) → AllFair puts context ops → IsFair puts (context_before context ops (length ops)) op → AllFair puts context (ops ++ op ∷ [])
fair_pushed puts context [] op h f = (f, tt)
fair_pushed puts context (o ∷ ops) op h f = (h.0, fair_pushed puts (context_after context o) ops op h.1 f)

pub context_pushed : (context : List Dep) (ops : List Operation) (op : Operation) → context_before context (ops ++ op ∷ []) (length (ops ++ op ∷ [])) ≡ context_after (context_before context ops (length ops)) op
context_pushed context [] op = refl
context_pushed context (o ∷ ops) op = context_pushed (context_after context o) ops op

pub fair_at : (puts : List PutRecord) (context : List Dep) (ops : List Operation) (i : ℕ) (op : Operation) → AllFair puts context ops → slice_get ops i ≡ Some op → IsFair puts (context_before context ops i) op
fair_at puts context [] i op h e = cc
fair_at puts context (o ∷ ops) zero op h e = let same : o ≡ op = cc in subst (λ x. IsFair puts context x) same h.0
fair_at puts context (o ∷ ops) (suc i) op h e = fair_at puts (context_after context o) ops i op h.1 e

pub after_at : (context : List Dep) (ops : List Operation) (i : ℕ) (op : Operation) → slice_get ops i ≡ Some op → context_before context ops (suc i) ≡ context_after (context_before context ops i) op
after_at context [] i op e = cc
after_at context (o ∷ ops) zero op e = let same : o ≡ op = cc in ap (context_after context) same
after_at context (o ∷ ops) (suc i) op e = after_at (context_after context o) ops i op e

-- a pair that the context reaches before an operation it also reaches after it
pub covers_after : (puts : List PutRecord) (context : List Dep) (op : Operation) (p : Dep) → IsFair puts context op → Covers puts context p → Covers puts (context_after context op) p
covers_after puts context (write k x v) p f c =
    let needed : Contains f.put.deps c.from = subst (λ d. Contains d c.from) (sym f.deps) c.among in
    let needs : Needs puts (at_version k v) c.from = record { put = f.put; among = f.is.among; pair_is = f.is.pair_is; needs = needed } in
    record { from = at_version k v; among = contains_head (at_version k v) []; reaches = reaches_dep puts (at_version k v) c.from p needs c.reaches }
covers_after puts context (read k x v) p f c = record { from = c.from; among = gain_old context (at_version k v) c.from c.among; reaches = c.reaches }
covers_after puts context (missed k) p f c = c

pub covers_later : (puts : List PutRecord) (context : List Dep) (ops : List Operation) (i j : ℕ) (p : Dep) → AllFair puts context ops → i ≤ j → Covers puts (context_before context ops i) p → Covers puts (context_before context ops j) p
covers_later puts context ops zero zero p h l c = c
covers_later puts context ops (suc i) zero p h l c = absurd (omega (arith, l))
covers_later puts context [] zero (suc j) p h l c = c
covers_later puts context [] (suc i) (suc j) p h l c = c
covers_later puts context (o ∷ ops) zero (suc j) p h l c =
    covers_later puts (context_after context o) ops zero j p h.1 (omega arith) (covers_after puts context o p h.0 c)
covers_later puts context (o ∷ ops) (suc i) (suc j) p h l c = covers_later puts (context_after context o) ops i j p h.1 (omega (arith, l)) c

-- the pairs of contexts are pairs of puts
pub has_puts_after : (puts : List PutRecord) (context : List Dep) (op : Operation) → IsFair puts context op → ((p : Dep) → Contains context p → HasPut puts p) → (p : Dep) → Contains (context_after context op) p → HasPut puts p
has_puts_after puts context (write k x v) f b p h =
    let same = contains_one (at_version k v) p h in
    record { put = f.put; among = f.is.among; pair_is = f.is.pair_is ∙ same }
has_puts_after puts context (read k x v) f b p h = cases (gain_cases context (at_version k v) p h)
  where
    cases : Contains context p ⊎ (at_version k v ≡ p) → HasPut puts p
    cases (inl old) = b p old
    cases (inr e) = record { put = f.put; among = f.is.among; pair_is = f.is.pair_is ∙ e }
has_puts_after puts context (missed k) f b p h = b p h

module _ (puts : List PutRecord) (new : PutRecord) (c : IsConsistent puts) (fresh : (p : PutRecord) → Contains puts p → p.version ≢ new.version) where
  is_of_more : (k : List ℕ) (x : Option (List ℕ)) (v : ℕ) (put : PutRecord) → IsOf puts k x v put → IsOf (puts ++ new ∷ []) k x v put
  is_of_more k x v put i = record { among = Contains-append_left puts (new ∷ []) put i.among; pair_is = i.pair_is; value = i.value }

  -- each operation stays fair with a new put
  fair_more : (context : List Dep) (op : Operation) → ((p : Dep) → Contains context p → HasPut puts p) → IsFair puts context op → IsFair (puts ++ new ∷ []) context op
  fair_more context (write k x v) b f = record { put = f.put; is = is_of_more k x v f.put f.is; deps = f.deps }
  fair_more context (read k x v) b f = record {
    put = f.put;
    is = is_of_more k x v f.put f.is;
    newest = λ p q h r. f.newest p q h (reaches_old puts new c fresh p q (has_puts_after puts context (read k x v) f b p h) r);
  }
  fair_more context (missed k) b f = record { none = λ p q h r. f.none p q h (reaches_old puts new c fresh p q (b p h) r) }

  pub all_fair_more : (context : List Dep) (ops : List Operation) → ((p : Dep) → Contains context p → HasPut puts p) → AllFair puts context ops → AllFair (puts ++ new ∷ []) context ops
  all_fair_more context [] b h = tt
  all_fair_more context (op ∷ ops) b h = (fair_more context op b h.0, all_fair_more (context_after context op) ops (has_puts_after puts context op h.0 b) h.1)
