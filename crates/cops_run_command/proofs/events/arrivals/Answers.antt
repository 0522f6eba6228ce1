use Rattle.std.proofs.Common.{ℕ, ◌∷◌, [], sym, ap, ◌∙◌, append-nil}
use Rattle.std.specs.Global.{Vec}
use Rattle.cops_run_command.proofs.Recording.{clients_next, clients_of}
use Rattle.cops_run_command.proofs.events.arrivals.Goals as goal
use Rattle.cops_run_command.proofs.events.arrivals.Goals.{in-Some+in_ok-push, in_default}

pub loop-n-preserved : goal.loop-n-preserved
loop-n-preserved c =
    let next = clients_next c.args.events.now c.args.outcomes.now c.loop-n.n c.index-events-n.result c.index-outcomes-n.result c.loop-n.clients.items in
    elim c.match-seen_by.branch [
      | in-Some+in_ok-push w ↦
          ap (λ (v : Vec ℕ). v.items) w.clients-is ∙ w.in_ok-push.ensures.items
          ∙ next (w.in-Some.client ∷ []) c.loop-n-test.true c.requires c.loop-n.invariant c.index-events-n.is c.index-outcomes-n.is w.in-Some.ensures.some
      | in_default w ↦
          ap (λ (v : Vec ℕ). v.items) w.clients-is ∙ sym (append-nil c.loop-n.clients.items)
          ∙ next [] c.loop-n-test.true c.requires c.loop-n.invariant c.index-events-n.is c.index-outcomes-n.is (ap clients_of w.in_default.ensures.none)
    ]
