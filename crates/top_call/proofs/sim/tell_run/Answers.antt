use Rattle.std.proofs.Common.{map, subst}
use Rattle.std.specs.List.{AllByRecursion}
use Rattle.journal.specs.Entries.{whole_entry}
use Rattle.report.specs.Fits.{FitsEntry}
use Rattle.top_call.proofs.Recorded.{whole_fits}
use Rattle.top_call.proofs.sim.tell_run.Goals as goal

pub returns-clause-fits : goal.returns-clause-fits
returns-clause-fits g c =
    whole_fits c.args.told.record _ c.record_fits.ensures (subst (λ hs. AllByRecursion FitsEntry (map (whole_entry c.args.told.letters) hs)) c.deref.ensures.value c.journal_fits.ensures)
