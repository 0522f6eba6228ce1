use Rattle.std.proofs.Common.{◌≡◌, ◌≤◌, get_or, true, refl, sym, subst, rules, map, length}
use Rattle.cops_audit.specs.declared.sweep.Sweep.{Sweep}
use Rattle.cops_audit.specs.declared.window.Suspect.{Suspect}
use Rattle.cops_audit.specs.Sweeps.{HasRoom, IsAbout, IsNewestIn, IsSweeping, NoneFrom}
use Rattle.cops_audit.proofs.Bridging.{analysis_suspect}
use Rattle.cops_audit.proofs.Clearing.{none_then}
use Rattle.cops_audit.proofs.Collect.{get_or-default}
use Rattle.cops_audit.proofs.Fitting.{no_ok}
use Rattle.cops_audit.proofs.Flooring.{fresh_sweeping, fresh_about, next_sweeping, next_about, room_again, some_then}
use Rattle.cops_audit.proofs.floors.judge_next.Goals as goal
use Rattle.cops_audit.proofs.floors.judge_next.Goals.{then-not-follows, else-not-follows}

pub newest_in_past-requires-clause-sweeping : goal.newest_in_past-requires-clause-sweeping
newest_in_past-requires-clause-sweeping c =
    let none : Suspect = record { op = record { client = 0; index = 0 }; first = 0; from = 0 } in
    let floor = get_or c.args.floors.now c.args.k 0 in
    elim c.if-not-follows.branch [
      | then-not-follows w ↦ subst (λ (s : Sweep). IsSweeping c.args.analysis.now.table.now c.args.analysis.now.summaries.now c.args.analysis.now.firsts.now floor s (λ _. ⊥)) (sym w.sweep-is)
          (fresh_sweeping c.args.analysis.now.table.now c.args.analysis.now.summaries.now c.args.analysis.now.firsts.now floor _ _ w.restart.new.self (w.restart.ensures.fresh c.requires.after.empty) c.requires.after.clients c.requires.after.places)
      | else-not-follows w ↦ subst (λ (s : Sweep). IsSweeping c.args.analysis.now.table.now c.args.analysis.now.summaries.now c.args.analysis.now.firsts.now floor s (λ _. ⊥)) (sym w.sweep-is)
          (let follows : c.follows.result ≡ true = cc in
          next_sweeping c.args.analysis.now.table.now c.args.analysis.now.summaries.now c.args.analysis.now.firsts.now c.args.suspects.now c.args.floors.now c.requires.floors c.requires.suspects.in_order c.args.k c.requires.inside
          (c.follows.ensures.before follows) (c.follows.ensures.same follows) c.args.sweep.now c.requires.after none)
    ]

pub newest_in_past-requires-clause-about : goal.newest_in_past-requires-clause-about
newest_in_past-requires-clause-about c =
    let none : Suspect = record { op = record { client = 0; index = 0 }; first = 0; from = 0 } in
    let op = (get_or c.args.suspects.now c.args.k none).op in
    elim c.if-not-follows.branch [
      | then-not-follows w ↦ subst (λ (s : Sweep). IsAbout c.args.analysis.now.table.now c.args.analysis.now.summaries.now s op) (sym w.sweep-is)
          (fresh_about c.args.analysis.now.table.now c.args.analysis.now.summaries.now c.args.analysis.now.firsts.now (get_or c.args.floors.now c.args.k 0) _ _ w.restart.new.self op (w.restart.ensures.fresh c.requires.after.empty))
      | else-not-follows w ↦ subst (λ (s : Sweep). IsAbout c.args.analysis.now.table.now c.args.analysis.now.summaries.now s op) (sym w.sweep-is)
          (let follows : c.follows.result ≡ true = cc in
          next_about c.args.analysis.now.table.now c.args.analysis.now.summaries.now c.args.analysis.now.firsts.now c.args.suspects.now c.args.floors.now c.requires.floors c.requires.suspects.in_order c.args.k c.requires.inside
          (c.follows.ensures.before follows) (c.follows.ensures.same follows) c.args.sweep.now c.requires.after none (analysis_suspect c.args.analysis.now c.requires.analysis _ (c.requires.suspects.each c.args.k none c.requires.inside)))
    ]

pub returns-clause-found : goal.returns-clause-found
returns-clause-found c =
    let none : Suspect = record { op = record { client = 0; index = 0 }; first = 0; from = 0 } in
    some_then c.in_ok-found.found c.in_ok-found.ensures.found
    (λ place w d. subst (λ (s : Suspect). (s.from ≤ place) × IsNewestIn c.args.analysis.now.table.now c.args.analysis.now.summaries.now c.args.analysis.now.firsts.now s.op s.first place) (get_or-default c.args.suspects.now c.args.k none d c.requires.inside) w)

pub returns-clause-none : goal.returns-clause-none
returns-clause-none c =
    let none : Suspect = record { op = record { client = 0; index = 0 }; first = 0; from = 0 } in
    none_then c.in_ok-found.found c.in_ok-found.ensures.none
    (λ w d. subst (λ (s : Suspect). NoneFrom c.args.analysis.now.table.now c.args.analysis.now.summaries.now c.args.analysis.now.firsts.now s.op s.first s.from) (get_or-default c.args.suspects.now c.args.k none d c.requires.inside) w)

pub returns-clause-room : goal.returns-clause-room
returns-clause-room c = λ space room.
    let lengths = map length c.args.analysis.now.summaries.now in
    let then : HasRoom space lengths c.if-not-follows.sweep = elim c.if-not-follows.branch [
      | then-not-follows w ↦ subst (HasRoom space lengths) (sym w.sweep-is)
          (room_again space lengths _ _ c.args.sweep.now w.restart.new.self refl refl
          (w.restart.ensures.fresh c.requires.after.empty) w.restart.ensures.pending room)
      | else-not-follows w ↦ subst (HasRoom space lengths) (sym w.sweep-is) room
    ] in
    (search rules, (c.in_ok-found.ensures.room space then).1)

pub returns-in_err-found-clause-room : goal.returns-in_err-found-clause-room
returns-in_err-found-clause-room c = λ space room.
    let lengths = map length c.args.analysis.now.summaries.now in
    let then : HasRoom space lengths c.if-not-follows.sweep = elim c.if-not-follows.branch [
      | then-not-follows w ↦ subst (HasRoom space lengths) (sym w.sweep-is)
          (room_again space lengths _ _ c.args.sweep.now w.restart.new.self refl refl
          (w.restart.ensures.fresh c.requires.after.empty) w.restart.ensures.pending room)
      | else-not-follows w ↦ subst (HasRoom space lengths) (sym w.sweep-is) room
    ] in
    no_ok (c.in_err-found.ensures.room space then).0
