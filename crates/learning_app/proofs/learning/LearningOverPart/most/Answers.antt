use Rattle.std.proofs.Common.{sym}
use Rattle.app_core.proofs.Hosts.{learner_most}
use Rattle.learning_app.proofs.learning.LearningOverPart.most.Goals as goal

pub returns-clause-most : goal.returns-clause-most
returns-clause-most g c = sym (learner_most g.L.Learner.KIND g.L.Learner.manner g.met.L.Learner.learns)
