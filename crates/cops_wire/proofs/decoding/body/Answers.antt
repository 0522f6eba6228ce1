use Rattle.std.proofs.Common.{ℕ, ◌+◌, ◌-◌, ◌≤◌, ◌<◌, length, take, drop, get_or, sym, subst, arith}
use Rattle.std.proofs.lemmas.List.{length-take, length-drop}
use Rattle.cops_wire.specs.Grammar.{grammar}
use Rattle.cops_wire.proofs.Fields.{IsBytes-take, IsBytes-drop}
use Rattle.cops_wire.proofs.Answering.{left_within}
use Rattle.cops_wire.proofs.decoding.body.Goals as goal

-- the bytes left are part of the fields
pub overflow_sub-place : goal.overflow_sub-place
overflow_sub-place c =
    let text = c.args.text.now in
    let fields = take (length text - 1) (drop 1 text) in
    let read = rw c.in-Err-BadField.field-0-is at c.in-Err-BadField.ensures.contents in
    let within = left_within (grammar c.args.format) (get_or text 0 0) fields c.in-Err-BadField.left (IsBytes-take (length text - 1) (drop 1 text) (IsBytes-drop 1 text (λ i. omega (arith, c.type_inv.text i)))) read in
    let bound : c.in-Err-BadField.left ≤ 4 + length text = omega (arith, within, length-take (length text - 1) (drop 1 text), length-drop 1 text) in
    subst (λ (n : ℕ). n ≤ 4 + length text) (sym c.in-Err-BadField.left-is) bound

pub returns-in-Err-BadField-clause-offset : goal.returns-in-Err-BadField-clause-offset
returns-in-Err-BadField-clause-offset c =
    let text = c.args.text.now in
    let fields = take (length text - 1) (drop 1 text) in
    let read = rw c.in-Err-BadField.field-0-is at c.in-Err-BadField.ensures.contents in
    let within = left_within (grammar c.args.format) (get_or text 0 0) fields c.in-Err-BadField.left (IsBytes-take (length text - 1) (drop 1 text) (IsBytes-drop 1 text (λ i. omega (arith, c.type_inv.text i)))) read in
    let bound : (4 < 4 + length text - c.in-Err-BadField.left) × (4 + length text - c.in-Err-BadField.left ≤ 4 + length text) = (omega (arith, within, c.requires.some, length-take (length text - 1) (drop 1 text), length-drop 1 text), omega arith) in
    subst (λ (n : ℕ). (4 < 4 + length text - n) × (4 + length text - n ≤ 4 + length text)) (sym c.in-Err-BadField.left-is) bound
