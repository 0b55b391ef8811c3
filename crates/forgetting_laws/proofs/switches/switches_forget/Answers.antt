use Rattle.forgetting_laws.proofs.Forgetting.{forgotten_alike, left_alike, said_alike, turns_alike}
use Rattle.forgetting_laws.proofs.switches.switches_forget.Goals as goal

pub returns-clause-turn : goal.returns-clause-turn
returns-clause-turn c = turns_alike

pub returns-clause-forgetting : goal.returns-clause-forgetting
returns-clause-forgetting c = forgotten_alike

pub returns-clause-said : goal.returns-clause-said
returns-clause-said c = said_alike

pub returns-clause-left : goal.returns-clause-left
returns-clause-left c = left_alike
