use Rattle.of_frame.proofs.Stream.{all_of_joined, stays_refused, kept_refused}
use Rattle.of_frame.proofs.framer.any_cut.Goals as goal

pub returns-clause-cuts : goal.returns-clause-cuts
returns-clause-cuts c = all_of_joined

pub returns-clause-refusing : goal.returns-clause-refusing
returns-clause-refusing c = stays_refused

pub returns-clause-staying : goal.returns-clause-staying
returns-clause-staying c = kept_refused
