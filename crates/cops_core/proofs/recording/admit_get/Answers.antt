use Rattle.std.proofs.Common.{◌<◌, length, rules, sym, ◌∙◌, subst}
use denote.Enum.Bare.{same_true}
use Rattle.cops_types.specs.contracts.refusal.Refusal.{the_type}
use Rattle.cops_types.specs.Histories.{Sessions}
use Rattle.cops_core.proofs.Memory.{known_client}
use Rattle.cops_core.proofs.recording.admit_get.Goals as goal

pub has_room-requires : goal.has_room-requires
has_room-requires c =
    subst (λ n. c.args.client < n) (sym c.requires) (known_client c.args.history.now.sessions c.args.client (c.in-Err.ensures.memory (same_true the_type (search rules) _ _ (sym c.eq.ensures ∙ c.if-eq.true))))

pub has_room-requires-2 : goal.has_room-requires-2
has_room-requires-2 c =
    subst (λ n. c.args.client < n) (sym c.requires) (subst (λ (h : Sessions). c.args.client < length h) c.in_default.ensures.same c.in_default.ensures.ok.known)
