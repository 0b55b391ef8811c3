use Rattle.controller_moves.proofs.controller_laws.views_come_from.Goals as goal
use Rattle.controller_moves.proofs.ControllerLaws.Views.{views_from}

pub returns : goal.returns
returns c = λ kinds setup x s w chain. views_from kinds setup x s w chain
