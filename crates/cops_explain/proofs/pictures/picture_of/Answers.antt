use Rattle.std.proofs.Common.{◌∙◌, ap, Global, Vec, ℕ, string_bytes}
use Rattle.cops_explain.proofs.pictures.picture_of.Goals as goal

pub returns : goal.returns
returns c = (string_bytes c.in_ok-rest.rest, c.in_ok-rest.ensures, ap (λ (v : Vec ℕ Global). v.items) c.into_bytes.ensures.value ∙ (rw c.in_ok-label.ensures at c.in_ok-text.ensures.ok))
