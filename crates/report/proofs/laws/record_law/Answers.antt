use Rattle.report.proofs.Writable.{is_record}
use Rattle.report.proofs.laws.record_law.Goals as goal

pub returns : goal.returns
returns c = is_record
