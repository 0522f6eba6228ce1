use Rattle.std.proofs.Common.{◌≡◌, length}
use Rattle.cops_types.specs.Maxima.{IsMaximum}
use Rattle.cops_audit.specs.Climbs.{AreMaxima}
use Rattle.cops_audit.proofs.climbing.climb.Given as goal

abbrev pub invariant-loop-index : goal.invariant-loop-index
invariant-loop-index l = record {
  maxima : AreMaxima l.history.sessions l.client l.maxima.items;
  len : length l.maxima.items ≡ l.index;
  maximum : IsMaximum l.history.sessions l.client l.index l.maximum;
}
