use Rattle.std.proofs.Common.{◌≡◌, ℕ, List, [], ◌∷◌, length, Global, String, refl, ap, ◌∙◌}
use Rattle.std.specs.Prelude.{Some}
use Rattle.serde_json.specs.Data.{Data, member, no_members}
use Rattle.serde_json.specs.Find.{as_object}
use Rattle.serde_json.specs.View.{members_view}
use Rattle.serde_json.specs.declared.value.Value.{Value}
use Rattle.cops_scenario.proofs.field.only_member.Goals as goal

one_entry : (ms : List (String Global × Value)) (k : List ℕ) (d : Data) → Some (members_view ms) ≡ Some (member k d no_members) → length ms ≡ 1
one_entry [] k d e = let no : ⊥ = cc in absurd no
one_entry (m ∷ []) k d e = refl
one_entry (m ∷ n ∷ ms) k d e = let no : ⊥ = cc in absurd no

pub returns-then-len-ne1-clause-none : goal.returns-then-len-ne1-clause-none
returns-then-len-ne1-clause-none c = λ name of e.
    let reported = rw c.in_ok-members.ensures.ok_part at c.as_object.ensures in
    c.if-len-ne1.true (c.len.ensures.len ∙ one_entry c.in_ok-members.members.now.entries name of (reported ∙ ap as_object e))
