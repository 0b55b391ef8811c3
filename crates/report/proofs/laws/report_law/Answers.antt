use Rattle.report.proofs.RecordAgain.{report_again, one_record}
use Rattle.report.proofs.RecordTaken.{report_takes}
use Rattle.report.proofs.laws.report_law.Goals as goal

pub returns-clause-again : goal.returns-clause-again
returns-clause-again c = report_again

pub returns-clause-one : goal.returns-clause-one
returns-clause-one c = one_record

pub returns-clause-found : goal.returns-clause-found
returns-clause-found c = λ bytes r e. (report_takes bytes r e).0

pub returns-clause-only : goal.returns-clause-only
returns-clause-only c = λ bytes r e. (report_takes bytes r e).1
