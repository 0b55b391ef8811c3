use Rattle.closing_laws.proofs.Start.Views.{starts_of}
use Rattle.closing_laws.proofs.view_starts.Goals as goal

pub returns : goal.returns
returns c = λ n w quorum start q ready group best b covered. starts_of n w quorum start q ready group best b covered
