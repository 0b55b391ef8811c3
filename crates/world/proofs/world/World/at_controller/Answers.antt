use Rattle.std.proofs.Common.{◌∙◌, ap, subst, refl, List, length}
use Rattle.journal.specs.Orderly.{IsOrderly}
use Rattle.journal.specs.Pool.{past}
use Rattle.run_spec.specs.States.{controller_message, sealed_letters}
use Rattle.world.specs.Actors.{ControllerTakes, ControllerWants}
use Rattle.world.proofs.Acting.{written_back}
use Rattle.world.proofs.Places.{set_length}
use Rattle.world.proofs.world.World.at_controller.Goals as goal

pub returns-in-Ok-clause-owes : goal.returns-in-Ok-clause-owes
returns-in-Ok-clause-owes g c =
    let law = g.A.App.law in
    let said = c.in-Ok.ensures.takes in
    let t = subst (λ (l : List _). ControllerTakes law g.W.Stable.saving c.args.input l c.args.stables.now c.args.number c.controller_takes.new.controllers c.controller_takes.new.stables c.in-Ok.letters) c.deref_mut.ensures.value said.1 in
    let back = written_back c.self.inside.controllers.len c.self.inside.controllers.items c.controller_takes.new.controllers c.self.inside.controllers.ok.0 (ap length t.state ∙ set_length c.self.inside.controllers.items c.args.number t.new) in
    rw (← c.self.view_is, back) (record {
      letters = c.in-Ok.letters;
      sealed = sealed_letters controller_message g.B.Body.sealing c.in-Ok.letters;
      takes = t;
      owes = record { sealed = refl; typed = said.0 };
      left = refl;
    })

pub returns-in-Err-clause-refused : goal.returns-in-Err-clause-refused
returns-in-Err-clause-refused g c =
    let law = g.A.App.law in
    let t = subst (λ (l : List _). ControllerWants law g.W.Stable.saving l c.args.stables.now c.args.number c.controller_takes.new.controllers c.controller_takes.new.stables) c.deref_mut.ensures.value c.in-Err.ensures.wants in
    let back = written_back c.self.inside.controllers.len c.self.inside.controllers.items c.controller_takes.new.controllers c.self.inside.controllers.ok.0 (ap length t.state ∙ set_length c.self.inside.controllers.items c.args.number t.new) in
    rw (← c.self.view_is, back, c.refuse.ensures) (record { wants = t; left = refl })

pub returns-in-Err-clause-orderly : goal.returns-in-Err-clause-orderly
returns-in-Err-clause-orderly g c = subst (λ z. IsOrderly z (past c.refuse.new.self)) g.met.B.Body.weighed c.lawful.ensures.orderly
