use Rattle.std.proofs.Common.{◌∙◌, ap, sym}
use Rattle.app_core.specs.Chain.{flat}
use Rattle.app_core.proofs.Hosts.{learner_starts}
use Rattle.learning_app.proofs.learning.LearningOverPart.start.Goals as goal

pub returns-clause-state : goal.returns-clause-state
returns-clause-state g c = ap flat c.new.ensures ∙ sym (learner_starts g.L.Learner.KIND g.L.Learner.manner g.met.L.Learner.learns)
