use Rattle.std.proofs.Common.{[]}
use Rattle.cops_import.specs.Lines.{lines}
use Rattle.cops_import.proofs.Reporting.{lines_one, not_faulty, not_unranked}
use Rattle.cops_import.proofs.laws.lines_determine_one.Goals as goal

pub returns-clause-one : goal.returns-clause-one
returns-clause-one c = λ rules ordered bytes a b p q. lines_one rules ordered 1 [] (lines bytes) a b p q

pub returns-clause-right : goal.returns-clause-right
returns-clause-right c = not_faulty

pub returns-clause-ranked : goal.returns-clause-ranked
returns-clause-ranked c = not_unranked
