use Rattle.run_spec.proofs.Bodies.{bytes_again}
use Rattle.run_spec.proofs.bodies_of_bytes_are_faithful.Goals as goal

pub returns : goal.returns
returns c = bytes_again
