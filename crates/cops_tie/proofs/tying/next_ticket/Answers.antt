use Rattle.std.proofs.Common.{◌≡◌, ◌+◌, ◌-◌, min, ℕ, zero, suc, List, [], ◌∷◌, length, map, Some, slice_get, refl, ap, subst, arith, ◌∙◌}
use Rattle.cops_tie.specs.declared.order.Ticketed.{Ticketed}
use Rattle.cops_tie.specs.Untied.{ticket_after}
use Rattle.cops_tie.specs.Ticketed.{shown}
use Rattle.cops_tie.proofs.tying.next_ticket.Goals as goal

abbrev after : Ticketed → ℕ
after t = min (t.entry.now.ticket + 1) 18446744073709551615

last_after : (ts : List Ticketed) (t : Ticketed) (n : ℕ) → length ts ≡ suc n → Some t ≡ slice_get ts n → after t ≡ ticket_after (map shown ts)
last_after [] t n e h = cc
last_after (x ∷ []) t zero e h = ap after (some_is h)
  where
    some_is : Some t ≡ Some x → t ≡ x
    some_is e = cc
last_after (x ∷ []) t (suc n) e h = cc
last_after (x ∷ y ∷ ts) t zero e h = absurd (omega (arith, e))
last_after (x ∷ y ∷ ts) t (suc n) e h = last_after (y ∷ ts) t n (omega (arith, e)) h

whole_after : (ts : List Ticketed) (t : Ticketed) → Some t ≡ slice_get ts (length ts - 1) → after t ≡ ticket_after (map shown ts)
whole_after [] t h = cc
whole_after (x ∷ ts) t h = last_after (x ∷ ts) t (length ts) refl (subst (λ n. Some t ≡ slice_get (x ∷ ts) n) (omega arith) h)

pub returns-in-Some : goal.returns-in-Some
returns-in-Some c = c.saturating_add.ensures ∙ whole_after c.args.order.now c.in-Some.ticketed.now c.in-Some.ensures.value
