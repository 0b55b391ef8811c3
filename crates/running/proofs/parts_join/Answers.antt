use Rattle.world.proofs.Joining.{legal}
use Rattle.running.proofs.parts_join.Goals as goal

pub returns : goal.returns
returns g c = λ scene entries controllers switches owed stand named orderly. legal g.A.App.law scene entries controllers switches owed stand named orderly
