-- Pairs reached through dependencies: they are not above the start, they are settled where the start is, and a new put changes none of them.
use Rattle.std.proofs.Common.{◌≡◌, ◌≢◌, ◌<◌, ◌≤◌, ◌⊎◌, inl, inr, List, [], ◌∷◌, ◌++◌, Contains, refl, sym, ap, ◌∙◌, arith, subst}
use Rattle.std.proofs.lemmas.List.Elements.{Contains-push_cases}
use Rattle.cops_types.specs.declared.dep.Dep.{Dep}
use Rattle.cops_types.specs.declared.put_record.PutRecord.{PutRecord}
use Rattle.cops_node.specs.Node.{put_pair}
use Rattle.cops_core.specs.Dependencies.{HasPut, Needs, LeadsBack, Reaches, IsConsistent, IsClosed}

pub reaches_itself : (puts : List PutRecord) (p : Dep) → Reaches puts p p
reaches_itself puts p = ([], refl)

pub reaches_dep : (puts : List PutRecord) (p d q : Dep) → Needs puts p d → Reaches puts d q → Reaches puts p q
reaches_dep puts p d q n r = (d ∷ r.0, (n, r.1))

-- a dependency has a smaller version
pub needs_below : (puts : List PutRecord) → IsConsistent puts → (p d : Dep) → Needs puts p d → d.version < p.version
needs_below puts c p d n =
    let below = c.above n.put d n.among n.needs in
    let same : n.put.version ≡ p.version = ap (λ (x : Dep). x.version) n.pair_is in
    omega arith

pub reaches_below : (puts : List PutRecord) → IsConsistent puts → (p q : Dep) → Reaches puts p q → q.version ≤ p.version
reaches_below puts c p q r = go r.0 p r.1
  where
    go : (via : List Dep) (p : Dep) → LeadsBack puts p via q → q.version ≤ p.version
    go [] p e = let same : p.version ≡ q.version = ap (λ (x : Dep). x.version) e in omega arith
    go (d ∷ via) p l =
        let rest = go via d l.1 in
        let first = needs_below puts c p d l.0 in
        omega arith

-- only one put has a given pair
pub one_has_put : (puts : List PutRecord) → IsConsistent puts → (a b : PutRecord) (p : Dep) → Contains puts a → Contains puts b → put_pair a ≡ p → put_pair b ≡ p → a ≡ b
one_has_put puts c a b p ha hb ea eb = c.unique a b ha hb (ap (λ (x : Dep). x.version) (ea ∙ sym eb))

-- if a pair is settled, so is every pair that it reaches
pub reaches_settled : (puts settled : List PutRecord) → IsConsistent puts → IsClosed settled → ((p : PutRecord) → Contains settled p → Contains puts p) → (p q : Dep) → HasPut settled p → Reaches puts p q → HasPut settled q
reaches_settled puts settled c closed known p q b r = go r.0 p b r.1
  where
    go : (via : List Dep) (p : Dep) → HasPut settled p → LeadsBack puts p via q → HasPut settled q
    go [] p b e = subst (λ x. HasPut settled x) e b
    go (d ∷ via) p b l =
        let n = l.0 in
        let same = one_has_put puts c n.put b.put p n.among (known b.put b.among) n.pair_is b.pair_is in
        let needs : Contains b.put.deps d = subst (λ (x : PutRecord). Contains x.deps d) same n.needs in
        go via d (closed b.put d b.among needs) l.1

-- a new put with a new version is reached from no earlier pair
pub reaches_old : (puts : List PutRecord) (new : PutRecord) → IsConsistent puts → ((p : PutRecord) → Contains puts p → p.version ≢ new.version) → (p q : Dep) → HasPut puts p → Reaches (puts ++ new ∷ []) p q → Reaches puts p q
reaches_old puts new c fresh p q b r = go r.0 p b r.1
  where
    go : (via : List Dep) (p : Dep) → HasPut puts p → LeadsBack (puts ++ new ∷ []) p via q → Reaches puts p q
    go [] p b e = ([], e)
    go (d ∷ via) p b l = cases (λ bd. go via d bd l.1) (Contains-push_cases puts new l.0.put l.0.among)
      where
        cases : (HasPut puts d → Reaches puts d q) → Contains puts l.0.put ⊎ (new ≡ l.0.put) → Reaches puts p q
        cases rest (inl old) =
            reaches_dep puts p d q (record { put = l.0.put; among = old; pair_is = l.0.pair_is; needs = l.0.needs })
            (rest (c.has_puts l.0.put d old l.0.needs))
        cases rest (inr e) =
            let same : b.put.version ≡ l.0.put.version = ap (λ (x : Dep). x.version) (b.pair_is ∙ sym l.0.pair_is) in
            absurd (fresh b.put b.among (same ∙ ap (λ (x : PutRecord). x.version) (sym e)))
