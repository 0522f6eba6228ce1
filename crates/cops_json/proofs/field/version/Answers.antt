use Rattle.std.proofs.Common.{◌≡◌, ◌<◌, ◌≤◌, ◌^◌, ◌∙◌, rules, sym, arith}
use Rattle.std.specs.Prelude.{Result, Ok, Err, OnErr}
use Rattle.std.proofs.lemmas.Fmt.{decimal_injective}
use Rattle.std.proofs.lemmas.Result.{Ok-from_Ok_iff}
use Rattle.cops_types.specs.Texts.{version_text}
use Rattle.cops_types.specs.Version.{clock_of, node_of}
use Rattle.cops_json.proofs.Versions.{clock_fits, version_parts}
use Rattle.cops_json.proofs.field.version.Goals as goal

refused : {T E : Type 0} (r : Result T E) (P : Type 0) → P → OnErr r P
refused (Ok x) P p = tt
refused (Err e) P p = p

pub returns-in_err-clock-clause-none : goal.returns-in_err-clock-clause-none
returns-in_err-clock-clause-none c = refused c.from_residual-in_err-clock.result _ (λ v is e.
    let text : c.in_ok-text.text.now ≡ version_text v = search rules in
    let parts = version_parts v c.in_ok-text.text.now c.split_once.result is text c.split_once.ensures.cases in
    rw c.in_err-clock.ensures.ok_part at parts)

pub returns-in_err-decimal-clause-none : goal.returns-in_err-decimal-clause-none
returns-in_err-decimal-clause-none c = refused c.from_residual-in_err-decimal.result _ (λ v is e.
    let text : c.in_ok-text.text.now ≡ version_text v = search rules in
    let parts = rw c.in_ok-clock.ensures.ok_part at (version_parts v c.in_ok-text.text.now c.split_once.result is text c.split_once.ensures.cases) in
    c.in_err-decimal.ensures.none (node_of v) (omega (arith, is.1)) parts.1)

pub returns-in_err-node-clause-none : goal.returns-in_err-node-clause-none
returns-in_err-node-clause-none c = refused c.from_residual-in_err-node.result _ (λ v is e.
    let text : c.in_ok-text.text.now ≡ version_text v = search rules in
    let parts = rw c.in_ok-clock.ensures.ok_part at (version_parts v c.in_ok-text.text.now c.split_once.result is text c.split_once.ensures.cases) in
    let range : c.in_ok-decimal.field-0 < 2 ^ 64 = search rules in
    let same : c.in_ok-decimal.field-0 ≡ node_of v = decimal_injective c.in_ok-decimal.field-0 (node_of v) range (omega (arith, is.1)) (sym c.in_ok-decimal.ensures.text ∙ parts.1) in
    let small = Ok-from_Ok_iff c.try_from.result _ _ c.try_from.ensures (omega (arith, is.1)) in
    let err = rw small at c.in_err-node.ensures in
    cc)

pub returns-in_err-decimal-2-clause-none : goal.returns-in_err-decimal-2-clause-none
returns-in_err-decimal-2-clause-none c = refused c.from_residual-in_err-decimal-2.result _ (λ v is e.
    let text : c.in_ok-text.text.now ≡ version_text v = search rules in
    let parts = rw c.in_ok-clock.ensures.ok_part at (version_parts v c.in_ok-text.text.now c.split_once.result is text c.split_once.ensures.cases) in
    let fits = clock_fits v is in
    c.in_err-decimal-2.ensures.none (clock_of v) (omega arith) parts.0)

pub returns-in_err-new-clause-none : goal.returns-in_err-new-clause-none
returns-in_err-new-clause-none c = refused c.from_residual-in_err-new.result _ (λ v is e.
    let text : c.in_ok-text.text.now ≡ version_text v = search rules in
    let parts = rw c.in_ok-clock.ensures.ok_part at (version_parts v c.in_ok-text.text.now c.split_once.result is text c.split_once.ensures.cases) in
    let fits = clock_fits v is in
    let node_range : c.in_ok-decimal.field-0 < 2 ^ 64 = search rules in
    let node : c.in_ok-decimal.field-0 ≡ node_of v = decimal_injective c.in_ok-decimal.field-0 (node_of v) node_range (omega (arith, is.1)) (sym c.in_ok-decimal.ensures.text ∙ parts.1) in
    let clock_range : c.in_ok-decimal-2.field-0 < 2 ^ 64 = search rules in
    let clock : c.in_ok-decimal-2.field-0 ≡ clock_of v = decimal_injective c.in_ok-decimal-2.field-0 (clock_of v) clock_range (omega arith) (sym c.in_ok-decimal-2.ensures.text ∙ parts.0) in
    let small = Ok-from_Ok_iff c.try_from.result _ _ c.try_from.ensures (omega (arith, is.1)) in
    let ok = rw small at c.in_ok-node.ensures in
    let read : c.in_ok-node.node ≡ c.in_ok-decimal.field-0 = cc in
    let bad : (1 ≤ c.in_ok-decimal-2.field-0) × (c.in_ok-decimal-2.field-0 ≤ 281474976710655) × (c.in_ok-node.node < 1024) → ⊥ = search rules in
    bad (omega (arith, is.0), omega arith, omega (arith, is.1)))
