use Rattle.std.proofs.Common.{refl}
use Rattle.world.proofs.Adopting.{played_holds}
use Rattle.world.proofs.world.World.adopt.Goals as goal

pub returns-clause-holds : goal.returns-clause-holds
returns-clause-holds g c = λ kinds. played_holds g.A.App.law g.B.Body.sealing _ kinds refl
