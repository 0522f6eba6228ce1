use Rattle.std.proofs.Common.{◌≡◌, ◌^◌, ◌<◌, ℕ, ◌++◌, ◌∷◌, [], get_or, refl, sym, ◌∙◌, ap, subst, inl, inr, arith}
use Rattle.std.proofs.Math.ListN.{length-set}
use Rattle.cops_audit.specs.declared.sweep.OpRange.{OpRange}
use Rattle.cops_audit.specs.Sweeps.{InSome}
use Rattle.cops_audit.proofs.Fitting.{room_left}
use Rattle.cops_audit.proofs.Raising.{counted_then, counted_kept, counted_raised, newly_in_range, room_falls, in_some_kept, in_some_last, in_some_cases}
use Rattle.cops_audit.proofs.sweep.Sweep.raise.Goals as goal

pub returns-in_ok-push-clause-raises : goal.returns-in_ok-push-clause-raises
returns-in_ok-push-clause-raises c =
    let xs = c.args.self.now.counts in
    let k = c.args.client in
    let to = c.args.to in
    let less : get_or xs k 0 < to = omega (arith, c.get-from.ensures, c.if-from-to.true) in
    let old = c.args.self.now.pending.items in
    let r : OpRange = record { client = k; from = get_or xs k 0; to = to } in
    let pending : c.push.new.self.items ≡ old ++ r ∷ [] =
    c.in_ok-push.ensures.items ∙ ap (λ (f : ℕ). old ++ (let x : OpRange = record { client = k; from = f; to = to } in x) ∷ []) c.get-from.ensures in
    rw (c.set.ensures)
    record {
      counts = counted_then xs k to c.requires;
      kept = counted_kept xs k to c.requires (omega (arith, less));
      raised = counted_raised xs k to c.requires;
      pending = λ n there. elim (newly_in_range xs k to c.requires n there) [
        | inl was ↦ inl was
        | inr new ↦ inr (subst (λ rs. InSome rs n) (sym pending) (in_some_last old r n new))
      ];
      still = λ n there. subst (λ rs. InSome rs n) (sym pending) (in_some_kept old r n there);
      pending_counted = λ n there. elim (in_some_cases old r n (subst (λ rs. InSome rs n) pending there)) [
        | inl was ↦ inl was
        | inr new ↦ inr (counted_raised xs k to c.requires n new.0 new.2)
      ];
      width = length-set xs k to;
      newest = refl;
      work = omega (arith, room_falls xs k to c.requires (2 ^ 32) less (omega (arith, c.ranges.to)), c.in_ok-push.ensures.len);
    }

pub returns-in_err-push-clause-room : goal.returns-in_err-push-clause-room
returns-in_err-push-clause-room c = λ space lengths fits room.
    let l = room_left space lengths c.args.self.now c.args.client c.args.to c.requires (omega (arith, c.get-from.ensures, c.if-from-to.true)) fits room in
    absurd (omega (arith, l, c.in_err-push.ensures.full))
