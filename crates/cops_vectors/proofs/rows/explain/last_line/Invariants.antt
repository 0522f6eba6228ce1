use denote.Text.{Utf8}
use denote.Shadow.{shadow}
use Rattle.cops_vectors.proofs.rows.explain.last_line.Given as goal

abbrev pub invariant-loop-line : goal.invariant-loop-line
invariant-loop-line l = shadow (Utf8 l.last)
