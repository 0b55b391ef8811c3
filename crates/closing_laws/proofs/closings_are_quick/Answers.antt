use Rattle.closing_laws.proofs.closings_are_quick.Goals as goal
use Rattle.closing_laws.proofs.Measure.QuickClosings.{quick_law, sharp_law}

pub returns-clause-sharp : goal.returns-clause-sharp
returns-clause-sharp g c = sharp_law

pub returns-clause-quick : goal.returns-clause-quick
returns-clause-quick g c = quick_law
