use Rattle.std.proofs.Common.{◌∙◌, ap, subst, refl, List, length}
use Rattle.journal.specs.Orderly.{IsOrderly}
use Rattle.journal.specs.Pool.{past}
use Rattle.run_spec.specs.States.{sealed_letters, switch_message}
use Rattle.world.specs.Actors.{SwitchTakes}
use Rattle.world.proofs.Acting.{written_back}
use Rattle.world.proofs.Places.{set_length}
use Rattle.world.proofs.world.World.at_switch.Goals as goal

pub returns-in-Ok-clause-owes : goal.returns-in-Ok-clause-owes
returns-in-Ok-clause-owes g c =
    let said = c.in-Ok.ensures.takes in
    let t = subst (λ (l : List _). SwitchTakes c.args.input l c.args.number c.switch_takes.new.switches c.in-Ok.letters) c.deref_mut.ensures.value said.0 in
    let back = written_back c.self.inside.switches.len c.self.inside.switches.items c.switch_takes.new.switches c.self.inside.switches.ok.0 (ap length t.state ∙ set_length c.self.inside.switches.items c.args.number t.new) in
    rw (← c.self.view_is, back) (record {
      letters = c.in-Ok.letters;
      sealed = sealed_letters switch_message g.B.Body.sealing c.in-Ok.letters;
      takes = t;
      owes = record { sealed = refl; typed = said.1 };
      left = refl;
    })

pub returns-in-Err-clause-refused : goal.returns-in-Err-clause-refused
returns-in-Err-clause-refused g c =
    let same = c.in-Err.ensures.wants ∙ c.deref_mut.ensures.value in
    let back = written_back c.self.inside.switches.len c.self.inside.switches.items c.switch_takes.new.switches c.self.inside.switches.ok.0 (ap length same) in
    rw (← c.self.view_is, back, same, c.refuse.ensures) refl

pub returns-in-Err-clause-orderly : goal.returns-in-Err-clause-orderly
returns-in-Err-clause-orderly g c = subst (λ z. IsOrderly z (past c.refuse.new.self)) g.met.B.Body.weighed c.lawful.ensures.orderly
