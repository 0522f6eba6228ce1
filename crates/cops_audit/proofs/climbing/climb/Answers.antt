use Rattle.std.proofs.Common.{◌≡◌, ◌+◌, ℕ, List, length, sym, subst, ap, ◌∙◌, arith, slice_get, Some}
use Rattle.cops_types.specs.Maxima.{IsMaximum}
use Rattle.cops_types.proofs.Climbing.{maximum_next}
use Rattle.cops_audit.proofs.Ascending.{maxima_last, maxima_push}
use Rattle.cops_audit.proofs.climbing.climb.Goals as goal

pub loop-index-init : goal.loop-index-init
loop-index-init c =
    let maxima = c.args.maxima.now.items in
    let seen = c.as_slice.ensures.value in
    let len : length maxima ≡ c.len-index.result = omega (arith, c.len-index.ensures, c.args.maxima.now.ok.0) in
    record {
      maxima = c.requires;
      len = len;
      maximum = subst (λ (k : ℕ). IsMaximum c.args.history.now.sessions c.args.client k c.last_maximum-maximum.result) len
          (maxima_last c.args.history.now.sessions c.args.client maxima c.requires c.last_maximum-maximum.result
          (λ e. c.last_maximum-maximum.ensures.none (ap length seen ∙ e))
          (λ i e. subst (λ (l : List ℕ). slice_get l i ≡ Some c.last_maximum-maximum.result) seen (c.last_maximum-maximum.ensures.last i (e ∙ ap length (sym seen)))));
    }

pub loop-index-preserved : goal.loop-index-preserved
loop-index-preserved c =
    let h = c.args.history.now.sessions in
    let v = c.loop-index.invariant in
    let next = maximum_next h c.args.client c.loop-index.index c.loop-index.maximum c.version_number.result v.maximum c.version_number.ensures.version c.version_number.ensures.none in
    let maximum : IsMaximum h c.args.client (c.loop-index.index + 1) c.max-maximum.result = subst (IsMaximum h c.args.client (c.loop-index.index + 1)) (sym c.max-maximum.ensures) next in
    record {
      maxima = rw c.in_ok-push.ensures.items (maxima_push h c.args.client c.loop-index.maxima.items c.max-maximum.result v.maxima
          (subst (λ (k : ℕ). IsMaximum h c.args.client (k + 1) c.max-maximum.result) (sym v.len) maximum));
      len = omega (arith, c.in_ok-push.ensures.len, v.len, c.loop-index.maxima.ok.0, c.push.new.self.ok.0);
      maximum = maximum;
    }
