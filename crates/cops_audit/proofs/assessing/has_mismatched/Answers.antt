use Rattle.std.proofs.Common.{◌≡◌, true, inl, inr, sym, subst}
use Rattle.std.proofs.lemmas.List.Elements.{Contains-push_cases}
use Rattle.cops_types.specs.Faults.{HasNoSource}
use Rattle.cops_audit.specs.Names.{names_left}
use Rattle.cops_audit.specs.SoFar.{IsWaiting}
use Rattle.cops_audit.proofs.Collect.{next_split}
use Rattle.cops_audit.proofs.Reading.{sourceless_same}
use Rattle.cops_audit.proofs.assessing.has_mismatched.Goals as goal

pub is_mismatched-requires-clause-sourceless : goal.is_mismatched-requires-clause-sourceless
is_mismatched-requires-clause-sourceless c = (sourceless_same c.args.history.now.sessions c.args.table.now c.requires.table c.args.summaries.now c.requires.summaries _).0 (c.is_sourceless.ensures.0 c.if-is_sourceless.true)

pub loop-got-preserved : goal.loop-got-preserved
loop-got-preserved c =
    let h = c.args.history.now.sessions in
    record {
      split = next_split (names_left c.args.names) c.loop-got.yielded (names_left c.loop-got.got-iterator) (names_left c.next.new.self) c.in-Some.got c.loop-got.invariant.split c.in-Some.ensures.steps;
      waiting = λ got at f. elim (Contains-push_cases c.loop-got.yielded c.in-Some.got got at) [
        | inl old ↦ c.loop-got.invariant.waiting got old f
        | inr same ↦
            let is : c.is_sourceless.result ≡ true = c.is_sourceless.ensures.1 ((sourceless_same h c.args.table.now c.requires.table c.args.summaries.now c.requires.summaries _).1 (subst (HasNoSource h) (sym same) f)) in
            absurd cc
      ];
    }

pub loop-got-preserved-else-is_mismatched : goal.loop-got-preserved-else-is_mismatched
loop-got-preserved-else-is_mismatched c =
    let h = c.args.history.now.sessions in
    record {
      split = next_split (names_left c.args.names) c.loop-got.yielded (names_left c.loop-got.got-iterator) (names_left c.next.new.self) c.in-Some.got c.loop-got.invariant.split c.in-Some.ensures.steps;
      waiting = λ got at f. elim (Contains-push_cases c.loop-got.yielded c.in-Some.got got at) [
        | inl old ↦ c.loop-got.invariant.waiting got old f
        | inr same ↦ subst (IsWaiting h) same (c.is_mismatched.ensures.waiting (λ is. let e = c.if-is_mismatched.false in let t : c.is_mismatched.result ≡ true = is in cc))
      ];
    }
