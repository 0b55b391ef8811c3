use Rattle.run_laws.proofs.SwitchTables.Parts.{told}
use Rattle.run_laws.proofs.switch_tables.table_law.Goals as goal

pub returns : goal.returns
returns g c = λ scene s own. told scene s own
