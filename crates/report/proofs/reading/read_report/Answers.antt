use Rattle.report.proofs.Outlines.{whole_found}
use Rattle.report.proofs.reading.read_report.Goals as goal

pub returns-clause-found : goal.returns-clause-found
returns-clause-found c =
    let whole = c.in_ok-record.ensures in
    whole_found c.args.bytes.now c.in_ok-record.record c.in_ok-record.journal whole.0 whole.1 whole.2
