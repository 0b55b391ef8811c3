use Rattle.group_controller.specs.State.{committed}
use Rattle.controller_moves.proofs.controller_laws.entries_come_from.Goals as goal
use Rattle.controller_moves.proofs.ControllerLaws.Sources.{come_from}
use Rattle.list_facts.proofs.Prefixes.{prefix_refl}

pub returns : goal.returns
returns c = λ kinds setup x s w kept chain. come_from kinds setup x s w.state w kept chain (prefix_refl (committed w.state))
