use Rattle.run_laws.proofs.SwitchTables.Tables.{turn_does}
use Rattle.run_laws.proofs.switch_tables.turn_law.Goals as goal

pub returns : goal.returns
returns c = λ s input acts is. turn_does s acts is input
