-- The report on what clients saw.
use Rattle.std.specs.Prelude.{ℕ, List}
use Rattle.cops_types.specs.Histories.{Sessions}
use Rattle.cops_audit.specs.declared.verdict.Verdict.{Verdict}
use Rattle.cops_audit.specs.Verdicts.{IsVerdict}
use Rattle.cops_report.specs.Reports.{IsReport}

-- the verdict on the history, and the verdict's report
pub record IsReportOf (h : Sessions) (verdict : Verdict) (report : List ℕ) : Type 0 where
  pub is_verdict : IsVerdict h verdict
  pub is_report : IsReport h verdict report
