use Rattle.byte_bodies.proofs.SameSteps.{over_bytes, over_messages}
use Rattle.byte_bodies.proofs.Twins.{twins_law}
use Rattle.byte_bodies.proofs.laws.same_steps.Goals as goal

pub returns-clause-over_bytes : goal.returns-clause-over_bytes
returns-clause-over_bytes g c = over_bytes

pub returns-clause-over_messages : goal.returns-clause-over_messages
returns-clause-over_messages g c = over_messages

pub returns-clause-worlds : goal.returns-clause-worlds
returns-clause-worlds g c = twins_law g.A.App.law
