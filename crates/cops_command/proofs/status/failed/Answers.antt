use Rattle.std.proofs.Common.{◌≤◌, ◌<◌, ◌⊎◌, ℕ, List, length, take, Option, Result, Ok, Err, OnOk, IfErr, inl, inr, subst, sym, arith}
use Rattle.std.proofs.Math.Seq.{take-length}
use Rattle.std.specs.Io.KnownBytes.{Appends}
use Rattle.cops_command.proofs.status.failed.Goals as goal

-- a whole text is a prefix of itself
reported : (old new : Option (List ℕ)) (text : List ℕ) (F : Type 0) (r : Result (Unit {0}) ℕ) → OnOk r (Appends old new text)
    → IfErr r (λ n. Appends old new (take n text)) → IfErr r (λ n. (n < length text) × F) → (n : ℕ) × Appends old new (take n text) × ((length text ≤ n) ⊎ F)
reported old new text F (Ok u) ok err failed = (length text, subst (λ (t : List ℕ). Appends old new t) (sym (take-length text)) ok, inl (omega arith))
reported old new text F (Err n) ok err failed = (n, err, inr failed.1)

pub returns-clause-reported : goal.returns-clause-reported
returns-clause-reported g c = reported _ _ _ _ c.write_text.result c.write_text.ensures.ok c.write_text.ensures.err c.write_text.ensures.failed
