use Rattle.scenario.proofs.Setups.{given_is}
use Rattle.scenario.proofs.reading.read_scenario.Goals as goal

pub returns-clause-form : goal.returns-clause-form
returns-clause-form c = given_is c.in_ok-written.written c.scenario_within.result c.scenario_within.ensures
