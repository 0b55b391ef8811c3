use Rattle.report.proofs.Outlines.{record_kept}
use Rattle.report.proofs.Sequences.{line_ok, ok_gives}
use Rattle.report.proofs.reading.record.Goals as goal

pub returns : goal.returns
returns g c =
    let history = c.in_ok-journal.ensures in
    rw c.new.ensures
    (record_kept g.J.FromJournal.of c.args.bytes.now c.in_ok-rest.rest.now c.in_ok-setup.setup c.in_ok-setup.rest.now history.0 c.in_ok-journal.rest.now c.in_ok-journal.journal c.in_ok-journal.log
    c.in_ok-switches.switches c.in_ok-switches.script c.in_ok-switches.closing c.in_ok-switches.rest.now (line_ok _ _ _ (ok_gives _ _ _ _ c.first_line.ensures c.in_ok-rest.ensures)) c.in_ok-setup.ensures history.1 history.2 (rw (← c.len.ensures, ← c.len-2.ensures) c.in_ok-switches.ensures))
