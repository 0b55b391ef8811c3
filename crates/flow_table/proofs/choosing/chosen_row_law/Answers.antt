use Rattle.flow_table.proofs.Chosen.{chosen_law, none_law}
use Rattle.flow_table.proofs.choosing.chosen_row_law.Goals as goal

pub returns-clause-chosen : goal.returns-clause-chosen
returns-clause-chosen c = chosen_law

pub returns-clause-none : goal.returns-clause-none
returns-clause-none c = none_law
