use Rattle.closing_laws.proofs.Start.Calls.{vote_told}
use Rattle.closing_laws.proofs.votes_are_counted.Goals as goal

pub returns : goal.returns
returns c = λ n w from j s voters m small other new few. vote_told n w from j s voters m small other new few
