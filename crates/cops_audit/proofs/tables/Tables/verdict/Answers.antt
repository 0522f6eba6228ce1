use Rattle.std.proofs.Common.{sym, subst, ◌∙◌, ap, map}
use Rattle.cops_types.specs.VersionOrder.{IsVersionOrder}
use Rattle.cops_types.specs.Faults.{IsStale}
use Rattle.cops_audit.specs.Summarized.{AreTables}
use Rattle.cops_types.specs.declared.versioned_put.VersionedPut.{VersionedPut}
use Rattle.cops_audit.specs.declared.verdict.Stale.{Stale}
use Rattle.cops_audit.proofs.Classes.{none_doubled, stale_listed}
use Rattle.cops_audit.proofs.Emptiness.{none_there, some_there, order_of_table}
use Rattle.cops_audit.proofs.tables.Tables.verdict.Goals as goal

pub returns-then-not-is_empty : goal.returns-then-not-is_empty
returns-then-not-is_empty c =
    let t = c.args.self in
    let table = c.self.inside.table.items in
    let are : AreTables table t = subst (AreTables table) c.self.view_is c.self.invariant.0 in
    record {
      verdict = (
        none_doubled t.sessions table are.puts,
        c.requires.sources,
        c.requires.above,
        some_there {A = Stale} (λ f. f.op) (λ f. IsStale t.sessions f.op f.newer) c.args.stale.items c.is_empty.result _ c.if-not-is_empty.true c.is_empty.ensures c.args.stale.ok.0,
        stale_listed t.sessions t.names are.names c.args.stale.items c.requires.stale,
      );
      puts = are.puts.table;
    }

pub returns : goal.returns
returns c =
    let t = c.args.self in
    let table = c.self.inside.table.items in
    let are : AreTables table t = subst (AreTables table) c.self.view_is c.self.invariant.0 in
    let lists = stale_listed t.sessions t.names are.names c.args.stale.items c.requires.stale in
    record {
      verdict = record {
        doubled = none_doubled t.sessions table are.puts;
        sources = c.requires.sources;
        above = c.requires.above;
        stale = λ n q fault. none_there {A = Stale} (λ f. f.op) (λ f. IsStale t.sessions f.op f.newer) c.args.stale.items c.is_empty.result _ lists c.if-not-is_empty.false c.is_empty.ensures c.args.stale.ok.0 (record { op = n; newer = q }) fault;
        version_order = subst (IsVersionOrder t.sessions) (sym (c.in_ok-names.ensures ∙ ap (map (λ (p : VersionedPut). p.name)) c.as_slice.ensures.value)) (order_of_table t.sessions table are.puts);
      };
      puts = are.puts.table;
    }
