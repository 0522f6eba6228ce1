use Rattle.std.proofs.Common.{subst}
use Rattle.cops_types.specs.declared.op.OpName.{OpName}
use Rattle.cops_types.specs.Faults.{HasNoSource, IsNotAbove}
use Rattle.cops_types.specs.Verdicts.{AllHaveSources}
use Rattle.cops_audit.specs.Sorted.{IsSorted}
use Rattle.cops_audit.specs.declared.verdict.NotAbove.{NotAbove}
use Rattle.cops_audit.proofs.Classes.{above_listed, none_doubled, without_source_listed}
use Rattle.cops_audit.proofs.Emptiness.{none_there, some_there}
use Rattle.cops_audit.proofs.puts.Puts.verdict_before_stale.Goals as goal

pub returns-then-not-is_empty-clause-refused : goal.returns-then-not-is_empty-clause-refused
returns-then-not-is_empty-clause-refused c =
    let s = c.args.self.now in
    let sorted : IsSorted s = subst IsSorted c.self.view_is c.self.invariant.0 in (
      none_doubled s.sessions s.table (record { table = sorted.table; rising = c.requires.rising }),
      some_there {A = OpName} (λ n. n) (HasNoSource s.sessions) c.args.sourceless.items c.is_empty.result _ c.if-not-is_empty.true c.is_empty.ensures c.args.sourceless.ok.0,
      without_source_listed s.sessions s.names sorted.names c.args.sourceless.items c.requires.sourceless,
    )

pub returns-then-not-is_empty-2-clause-refused : goal.returns-then-not-is_empty-2-clause-refused
returns-then-not-is_empty-2-clause-refused c =
    let s = c.args.self.now in
    let sorted : IsSorted s = subst IsSorted c.self.view_is c.self.invariant.0 in
    let lists = without_source_listed s.sessions s.names sorted.names c.args.sourceless.items c.requires.sourceless in
    let sources : AllHaveSources s.sessions = none_there {A = OpName} (λ n. n) (HasNoSource s.sessions) c.args.sourceless.items c.is_empty.result _ lists c.if-not-is_empty.false c.is_empty.ensures c.args.sourceless.ok.0 in (
      none_doubled s.sessions s.table (record { table = sorted.table; rising = c.requires.rising }),
      sources,
      some_there {A = NotAbove} (λ f. f.op) (λ f. IsNotAbove s.sessions f.op f.earlier) c.args.not_above.items c.is_empty-2.result _ c.if-not-is_empty-2.true c.is_empty-2.ensures c.args.not_above.ok.0,
      above_listed s.sessions s.names sorted.names c.args.not_above.items c.requires.not_above,
    )

pub returns-clause-sources : goal.returns-clause-sources
returns-clause-sources c =
    let s = c.args.self.now in
    let sorted : IsSorted s = subst IsSorted c.self.view_is c.self.invariant.0 in
    let lists = without_source_listed s.sessions s.names sorted.names c.args.sourceless.items c.requires.sourceless in
    none_there {A = OpName} (λ n. n) (HasNoSource s.sessions) c.args.sourceless.items c.is_empty.result _ lists c.if-not-is_empty.false c.is_empty.ensures c.args.sourceless.ok.0

pub returns-clause-above : goal.returns-clause-above
returns-clause-above c =
    let s = c.args.self.now in
    let sorted : IsSorted s = subst IsSorted c.self.view_is c.self.invariant.0 in
    let lists = above_listed s.sessions s.names sorted.names c.args.not_above.items c.requires.not_above in
    λ n e fault. none_there {A = NotAbove} (λ f. f.op) (λ f. IsNotAbove s.sessions f.op f.earlier) c.args.not_above.items c.is_empty-2.result _ lists c.if-not-is_empty-2.false c.is_empty-2.ensures c.args.not_above.ok.0 (record { op = n; earlier = e }) fault
