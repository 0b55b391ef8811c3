use Rattle.std.proofs.Common.{refl}
use Rattle.report.specs.Reading.{history_at}
use Rattle.report.proofs.reading.history.Goals as goal

pub returns : goal.returns
unfolding history_at
returns g c =
    let journal = c.in_ok-journal.ensures in
    ((journal.0, c.in_ok-log.log), rw (journal.1, c.in_ok-log.ensures) refl, rw journal.2 refl)
