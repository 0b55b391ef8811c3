use Rattle.run_laws.proofs.OnceLaws.SwitchTurns.{turns_are}
use Rattle.run_laws.proofs.once_laws.switch_turns.Goals as goal

pub returns : goal.returns
returns c = turns_are
