use Rattle.std.proofs.Common.{◌≡◌, ℕ, List, true, false, None, Some, ap, sym, ◌∙◌, slice_get}
use Rattle.cops_audit.proofs.puts.sources_where_rising.Goals as goal

pub returns-then-not-is_rising : goal.returns-then-not-is_rising
returns-then-not-is_rising c = record {
  places = λ number place op get at. let gone : None ≡ Some place = ap (λ (s : List ℕ). slice_get s number) (sym c.none.ensures.empty) ∙ at in cc;
  all = λ are. let both : true ≡ false = sym are ∙ c.none.ensures.unknown in cc;
}
