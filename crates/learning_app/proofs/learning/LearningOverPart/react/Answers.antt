use Rattle.app_core.proofs.Hosts.{learning_more, learning_steps}
use Rattle.learning_app.proofs.learning.LearningOverPart.react.Goals as goal

pub returns-clause-step : goal.returns-clause-step
returns-clause-step g c = λ s fits.
    learning_steps g.L.Learner.KIND g.L.Learner.manner g.met.L.Learner.learns (g.H.Hosts.hosts c.args.self.now.hosts) c.args.event.now s c.args.self.now.switches fits _ _ _
    (rw c.manner.ensures at c.in_ok-on_event.ensures.known) (rw c.manner.ensures at c.in_ok-on_event.ensures.asked)

pub returns-clause-few : goal.returns-clause-few
returns-clause-few g c = λ s fits.
    learning_more g.L.Learner.KIND g.L.Learner.manner g.met.L.Learner.learns (g.H.Hosts.hosts c.args.self.now.hosts) c.args.event.now c.args.self.now.switches _ _ (rw c.manner.ensures at c.in_ok-on_event.ensures.asked)
