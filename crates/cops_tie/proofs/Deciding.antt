-- The world's steps are deterministic, so entries that stop at a ticket lead to no end.
use Rattle.std.proofs.Common.{◌≡◌, ℕ, zero, suc, inl, inr, List, [], ◌∷◌, sym, ap, subst, ◌∙◌, arith}
use Rattle.cops_types.specs.declared.refusal.Refusal.{Refusal}
use Rattle.cops_types.specs.declared.refusal.Refusal.TheVariants.{Memory}
use Rattle.cops_types.specs.Histories.{Sessions}
use Rattle.cops_node.specs.declared.outcome.Outcome.{Outcome}
use Rattle.cops_node.specs.declared.outcome.Outcome.TheVariants.{Refused}
use Rattle.cops_core.specs.declared.event.Event.{Event}
use Rattle.cops_core.specs.World.{Act, Setting, World, Happens, act_of, opening}
use Rattle.cops_node.specs.declared.entry.Entry.{Entry}
use Rattle.cops_tie.specs.Tie.{Placed, event_of, Continues, Follows, IsTiedTo}
use Rattle.cops_tie.specs.Untied.{IsTied, StopsAt, IsUntied}
use Rattle.cops_tie.proofs.Ordering.{NeverFalls, Rises, one_order}

-- a refused act changes nothing
abbrev pub RefusedStays : Type 0
RefusedStays = (s : Setting) (w new : World) (act : Act) (refused : Refusal) → Happens s w act (Refused refused) new → new ≡ w

happens_once : (law : RefusedStays) (s : Setting) (w a b : World) (act : Act) (outcome : Outcome) → Happens s w act outcome a → Happens s w act outcome b → a ≡ b
happens_once law s w a b act outcome (inl f) (inl g) = ap (λ (r : Outcome × World). r.1) (sym f ∙ g)
happens_once law s w a b act outcome (inl f) (inr g) = law s w a act Memory (subst (λ (o : Outcome). Happens s w act o a) g.0 (inl f)) ∙ sym g.1
happens_once law s w a b act outcome (inr f) g = f.1 ∙ sym (law s w b act Memory (subst (λ (o : Outcome). Happens s w act o b) f.0 g))

continues_once : (law : RefusedStays) (s : Setting) (w : World) (p : Placed) (a b : World) → Continues s w p a → Continues s w p b → a ≡ b
continues_once law s w p a b f g = happens_once law s w a b (act_of (event_of p)) p.entry.outcome f.happens g.happens

follows_once : (law : RefusedStays) (s : Setting) (w : World) (ps : List Placed) (a b : World) → Follows s w ps a → Follows s w ps b → a ≡ b
follows_once law s w [] a b f g = f ∙ sym g
follows_once law s w (p ∷ ps) a b f g =
    follows_once law s g.1.0 ps a b (subst (λ (x : World). Follows s x ps a) (continues_once law s w p f.1.0 g.1.0 f.1.1.0 g.1.1.0) f.1.1.1) g.1.1.1

stops_or_follows : (law : RefusedStays) (s : Setting) (w : World) (ps : List Placed) (t : ℕ) (end : World) → StopsAt s w ps t → Follows s w ps end → ⊥
stops_or_follows law s w [] t end stops f = stops
stops_or_follows law s w (p ∷ ps) t end (inl (_, inl again)) f = again f.0
stops_or_follows law s w (p ∷ ps) t end (inl (_, inr none)) f = none f.1.0 f.1.1.0
stops_or_follows law s w (p ∷ ps) t end (inr (n, (_, (d, stops)))) f =
    stops_or_follows law s f.1.0 ps t end (subst (λ (x : World). StopsAt s x ps t) (continues_once law s w p n f.1.0 d f.1.1.0) stops) f.1.1.1

follows_rises : (s : Setting) (w : World) (ps : List Placed) (end : World) → Follows s w ps end → Rises ps
follows_rises s w [] end f = _
follows_rises s w (p ∷ ps) end f = (f.0, follows_rises s f.1.0 ps end f.1.1.1)

-- what is untied is not tied
pub never_tied : (law : RefusedStays) (s : Setting) (books : List (List Entry)) (sessions : Sessions) (t : ℕ) (events : List Event) → IsUntied s books sessions t → IsTied s books sessions events → ⊥
never_tied law s books sessions t events u (end, tied) =
    let one : u.order ≡ tied.order = one_order _ tied.order u.order tied.all u.all (follows_rises s (opening s) tied.order end tied.follows) u.never_falls in
    elim u.at [
      | inl stops ↦ stops_or_follows law s (opening s) tied.order t end (subst (λ (ps : List Placed). StopsAt s (opening s) ps t) one stops) tied.follows
      | inr (other, (follows, (differ, _))) ↦
          differ (ap (λ (w : World). w.sessions) (follows_once law s (opening s) tied.order other end (subst (λ (ps : List Placed). Follows s (opening s) ps other) one follows) tied.follows) ∙ tied.saw)
    ]

-- a list in which tickets rise is one in which they never fall
rises_never_falls : (ps : List Placed) → Rises ps → NeverFalls ps
rises_never_falls [] r i j d less inside = absurd (omega (arith, inside, less))
rises_never_falls (p ∷ ps) r zero zero d less inside = absurd (omega (arith, less))
rises_never_falls (p ∷ ps) r zero (suc j) d less inside = (let b = r.0 j d (omega (arith, inside)) in omega (arith, b))
rises_never_falls (p ∷ ps) r (suc i) zero d less inside = absurd (omega (arith, less))
rises_never_falls (p ∷ ps) r (suc i) (suc j) d less inside = rises_never_falls ps r.1 i j d (omega (arith, less)) (omega (arith, inside))

-- books have one order, and so one end
pub ends_once : (law : RefusedStays) (s : Setting) (books : List (List Entry)) (sessions : Sessions) (events others : List Event) (end other : World) → IsTiedTo s books sessions events end → IsTiedTo s books sessions others other → end ≡ other
ends_once law s books sessions events others end other a b =
    let rises = follows_rises s (opening s) a.order end a.follows in
    let one : a.order ≡ b.order = one_order _ b.order a.order b.all a.all (follows_rises s (opening s) b.order other b.follows) (rises_never_falls a.order rises) in
    follows_once law s (opening s) b.order end other (subst (λ (ps : List Placed). Follows s (opening s) ps end) one a.follows) b.follows
