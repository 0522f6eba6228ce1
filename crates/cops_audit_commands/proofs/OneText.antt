-- A text, and a prefix of one, is that of one trace.
use Rattle.std.proofs.Common.{◌≡◌, [], drop, true, false, Option, Some, refl, sym, subst, ◌∙◌, arith}
use Rattle.std.specs.Prelude.{IfSome}
use Rattle.std.proofs.lemmas.List.{append-nil}
use Rattle.cops_trace.specs.Text.{ATrace, IsTrace, text, end_text}
use Rattle.cops_trace.specs.Answer.{text_before, progress_at}
use Rattle.cops_trace.specs.declared.found.Item.{Item}
use Rattle.cops_trace.specs.declared.found.Item.TheVariants.{End}
use Rattle.cops_trace.specs.Parsing.{is_end}
use Rattle.cops_trace.proofs.Items.{one_item, stands_used, stood}
use Rattle.cops_trace.proofs.Readings.{IsLast, end_legal, prefixes_one, same_message}

-- no head and no record is decoded from no bytes
nothing_last : (b : Option ATrace) → IsLast b []
nothing_last b i used going stands = let bounds = stands_used (progress_at b) [] i used stands in absurd (omega (arith, bounds.0, bounds.1))

-- nor from the end of a text
end_last : (t : ATrace) → IsTrace t → IsLast (Some t) (end_text t)
end_last t h i used going stands =
    let st = stood (progress_at (Some t)) (end_text t) i used stands in
    let same = same_message t.format _ _ [] (drop used (end_text t)) (end_legal t h) st.legal (append-nil (end_text t) ∙ st.parts_are) in
    let one : End ≡ i = one_item (progress_at (Some t)) End i tt st.allowed same.0 in
    let ends : true ≡ false = subst (λ (x : Item). is_end x ≡ false) (sym one) going in
    absurd cc

pub one_text : (t u : ATrace) → IsTrace t → IsTrace u → text t ≡ text u → t ≡ u
one_text t u h k e =
    let both = prefixes_one (text t) (Some t) (Some u) (end_text t) (end_text u) (record { is_trace = h; parts = refl }) (record { is_trace = k; parts = e }) (end_last t h) (end_last u k) in
    let same : Some t ≡ Some u = both.0 in
    cc

pub one_prefix : (b c : Option ATrace) → IfSome b IsTrace → IfSome c IsTrace → text_before b ≡ text_before c → b ≡ c
one_prefix b c h k e =
    (prefixes_one (text_before b) b c [] [] (record { is_trace = h; parts = sym (append-nil (text_before b)) }) (record { is_trace = k; parts = e ∙ sym (append-nil (text_before c)) }) (nothing_last b) (nothing_last c)).0
