-- An object's operation is that of its one key member, and so are its faults.
use Rattle.std.proofs.Common.{◌≡◌, ℕ, List, [], ◌∷◌, length, Some, refl, subst}
use Rattle.serde_json.specs.Data.{Data, item, no_items}
use Rattle.serde_json.specs.View.{items_view}
use Rattle.serde_json.specs.declared.value.Value.{Value}
use Rattle.cops_import.specs.declared.rules.Rules.{Rules}
use Rattle.cops_import.specs.declared.fault.JsonLineFault.{JsonLineFault}
use Rattle.cops_import.specs.declared.fault.JsonLineFault.TheVariants.{NoJson, BadKey, BadValue, BadVersion, NeedsFormat2}
use Rattle.cops_json.specs.declared.unread.Unread.{Unread}
use Rattle.cops_json.specs.declared.unread.Unread.TheVariants.{Memory, Form}
use Rattle.cops_import.specs.declared.not_given.NotGiven.{NotGiven}
use Rattle.cops_import.specs.declared.not_given.NotGiven.TheVariants.{Fault, Memory as OutOfMemory}
use Rattle.cops_import.specs.declared.line.Kind.{Kind}
use Rattle.cops_import.specs.Line.{AsksKey, HasName, IsAsked, IsJson, IsWrong, IsWrongIn}
use Rattle.cops_import.specs.Asked.{IsKeyJson, IsWrongOf}

asks : (d : Data) (kind : Kind) (at : Data) (key : List ℕ) → IsAsked d kind at → IsKeyJson at key → AsksKey d kind key
asks d kind at key asked is = (subst (λ (x : Data). IsAsked d kind x) is.0 asked, is.1)

pub wrong_of : (rules : Rules) (d : Data) (kind : Kind) (at : Data) (fault : JsonLineFault) → HasName d → IsAsked d kind at → IsWrongOf rules d kind at fault → IsWrong rules d fault
wrong_of rules d kind at BadKey name asked wrong = (name, (kind, at, asked, wrong))
wrong_of rules d kind at BadValue name asked wrong = (name, (kind, wrong.0, asks d kind at wrong.0 asked wrong.1, wrong.2))
wrong_of rules d kind at BadVersion name asked wrong = (name, (kind, wrong.0, asks d kind at wrong.0 asked wrong.1, wrong.2))
wrong_of rules d kind at NeedsFormat2 name asked wrong = (name, (kind, wrong.0, asks d kind at wrong.0 asked wrong.1, wrong.2))
wrong_of rules d kind at _ name asked wrong = absurd wrong

-- if a member is not read because of its form, the fault is the named one
pub wrong_unread : (P : JsonLineFault → Type 0) (named fault : JsonLineFault) (unread : Unread) (r : NotGiven) → (unread ≡ Memory → r ≡ OutOfMemory) → (unread ≡ Form → r ≡ Fault named) → (unread ≡ Form → P named) → r ≡ Fault fault → P fault
wrong_unread P named fault Memory r memory form wrong e = let m = memory refl in absurd cc
wrong_unread P named fault Form r memory form wrong e = let f = form refl in let same : named ≡ fault = cc in subst P same (wrong refl)

-- what is wrong with the object of a line is wrong with the line
pub wrong_in : (rules : Rules) (line : List ℕ) (d : Data) (fault : JsonLineFault) → IsJson line d → IsWrong rules d fault → IsWrongIn rules line fault
wrong_in rules line d NoJson json wrong = absurd wrong
wrong_in rules line d fault json wrong = (d, json, wrong)

-- a list of two has two items
pub two_items : (vs : List Value) (a b : Data) → Some (items_view vs) ≡ Some (item a (item b no_items)) → length vs ≡ 2
two_items (v ∷ w ∷ []) a b e = refl
two_items _ a b e = let no : ⊥ = cc in absurd no
