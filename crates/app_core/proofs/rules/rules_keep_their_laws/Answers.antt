use Rattle.app_core.proofs.Table.{laws_of}
use Rattle.app_core.proofs.rules.rules_keep_their_laws.Goals as goal

pub returns : goal.returns
returns c = laws_of
