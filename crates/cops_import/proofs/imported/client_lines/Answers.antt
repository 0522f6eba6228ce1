use Rattle.std.proofs.Common.{◌≡◌, ◌<◌, ◌+◌, ◌++◌, ℕ, List, [], ◌∷◌, length, get_or, drop, sym, ap, ◌∙◌, append_assoc, add-one, arith}
use Rattle.std.proofs.Math.Seq.{drop-cons}
use Rattle.std.specs.Prelude.{string_bytes}
use Rattle.cops_import.specs.Words.{client_line, client_lines}
use Rattle.cops_import.proofs.imported.client_lines.Goals as goal

-- adding one line keeps the invariant
one_more : (names : List (List ℕ)) (n : ℕ) (name old new : List ℕ) → n < length names → name ≡ get_or names n [] → new ≡ old ++ client_line n name
    → new ++ client_lines (n + 1) (drop (n + 1) names) ≡ old ++ client_lines n (drop n names)
one_more names n name old new inside is grown =
    let left : drop n names ≡ name ∷ drop (n + 1) names = rw (is, add-one) (drop-cons names n [] inside) in
    let rest = client_lines (n + 1) (drop (n + 1) names) in
    ap (λ (t : List ℕ). t ++ rest) grown ∙ append_assoc old (client_line n name) rest ∙ ap (λ (ls : List (List ℕ)). old ++ client_lines n ls) (sym left)

pub loop-number-preserved : goal.loop-number-preserved
loop-number-preserved c =
    let step = one_more c.args.names.now c.loop-number.number c.name.result.now (string_bytes c.loop-number.text) (string_bytes c.push_client.new.text) (omega arith) c.name.ensures c.in_ok-push_client.ensures in
    step ∙ c.loop-number.invariant
