use Rattle.std.proofs.Common.{sym, subst}
use Rattle.cops_audit.specs.KeyIndexes.{IsKeyIndex}
use Rattle.cops_audit.specs.Summaries.{IsSummarized}
use Rattle.cops_audit.specs.Sorted.{Sorted}
use Rattle.cops_audit.specs.Tables.{Rises}
use Rattle.cops_audit.proofs.tables.Tables.new.Goals as goal

pub invariant_of-result : goal.invariant_of-result
invariant_of-result c =
    let h = c.puts.inside.history.now.sessions in
    let seen = c.as_slice-2.ensures.value in (
      record {
        names = c.puts.invariant.0.names;
        puts = record { table = c.puts.invariant.0.table; rising = subst (λ (s : Sorted). Rises s.table) (sym c.puts.view_is) c.requires };
        summaries = subst (λ table. IsSummarized h table c.in_ok-summaries.summaries) seen c.in_ok-summaries.ensures;
        limits = c.puts.invariant.0.limits;
      },
      subst (λ table. IsKeyIndex c.puts.inside.history.now table c.in_ok-keys.keys) seen c.in_ok-keys.ensures,
    )
