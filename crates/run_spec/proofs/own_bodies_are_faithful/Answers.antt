use Rattle.run_spec.proofs.Bodies.{own_again}
use Rattle.run_spec.proofs.own_bodies_are_faithful.Goals as goal

pub returns : goal.returns
returns c = own_again
