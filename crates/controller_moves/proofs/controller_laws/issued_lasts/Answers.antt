use Rattle.controller_moves.proofs.controller_laws.issued_lasts.Goals as goal
use Rattle.controller_moves.proofs.ControllerLaws.Issued.{issued_prefix}

pub returns : goal.returns
returns c = λ kinds setup s l es fs p. issued_prefix kinds setup s l es fs p
