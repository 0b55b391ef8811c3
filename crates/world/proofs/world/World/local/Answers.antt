use Rattle.std.proofs.Common.{sym, ◌∙◌, ap, subst}
use Rattle.journal.specs.Actors.{IsActor}
use Rattle.journal.specs.Pool.{past}
use Rattle.journal.specs.Refusals.{MayBeRefused}
use Rattle.group_controller.specs.declared.messages.ControllerInput.TheVariants as controller_input
use Rattle.of_switch.specs.declared.says.SwitchInput.TheVariants as switch_input
use Rattle.world.proofs.Drawing.{controller_local_ends, controller_takes_local, may_refuse_local, on_errs, switch_local_ends, switch_takes_local}
use Rattle.world.proofs.Serving.{controller_there, served, stable_there}
use Rattle.world.proofs.Turning.{on_ok}
use Rattle.world.proofs.world.World.local.Goals as goal

pub at_controller-requires-clause-input : goal.at_controller-requires-clause-input
at_controller-requires-clause-input g c =
    let law = g.A.App.law in
    let sealing = g.B.Body.sealing in
    subst (λ z. MayBeRefused (past z.journal)) (sym c.in_ok-enter.ensures.enters) (may_refuse_local law g.W.Stable.saving sealing g.met.B.Body.faithful c.args.self.now c.args.stables.now c.requires.rests c.requires.holds c.requires.pairs c.args.actor c.args.input c.fits_types.ensures)

pub at_controller-requires-clause-there : goal.at_controller-requires-clause-there
at_controller-requires-clause-there g c =
    let law = g.A.App.law in
    let sealing = g.B.Body.sealing in
    rw (ap (λ z. z.controllers) c.in_ok-enter.ensures.enters) (controller_there law g.W.Stable.saving sealing c.args.self.now c.args.stables.now c.requires.holds c.requires.pairs c.in-Controller.number (subst (λ a. IsActor c.args.self.now.setup a) c.in-Controller.is c.requires.named))

pub at_controller-requires-clause-stable : goal.at_controller-requires-clause-stable
at_controller-requires-clause-stable g c =
    let law = g.A.App.law in
    let sealing = g.B.Body.sealing in
    stable_there law g.W.Stable.saving sealing c.args.self.now c.args.stables.now c.requires.holds c.requires.pairs c.in-Controller.number (subst (λ a. IsActor c.args.self.now.setup a) c.in-Controller.is c.requires.named)

pub at_controller-requires-clause-ready : goal.at_controller-requires-clause-ready
at_controller-requires-clause-ready g c =
    let law = g.A.App.law in
    let sealing = g.B.Body.sealing in
    rw (ap (λ z. z.controllers) c.in_ok-enter.ensures.enters) (served law g.W.Stable.saving sealing c.args.self.now c.args.stables.now c.requires.holds c.requires.pairs c.in-Controller.number (subst (λ a. IsActor c.args.self.now.setup a) c.in-Controller.is c.requires.named))

pub returns-in-Controller-clause-steps : goal.returns-in-Controller-clause-steps
returns-in-Controller-clause-steps g c =
    let law = g.A.App.law in
    let sealing = g.B.Body.sealing in
    on_ok c.at_controller.result _ _ (λ t. controller_takes_local law g.W.Stable.saving sealing g.met.B.Body.faithful c.args.self.now c.args.stables.now c.requires.rests c.requires.holds c.requires.pairs c.args.actor c.args.input c.fits_types.ensures c.enter.new.self c.in_ok-enter.ensures.enters c.in_ok-enter.ensures.orderly c.in-Controller.number c.in-Controller.is (subst (λ a. IsActor c.args.self.now.setup a) c.in-Controller.is c.requires.named) c.take_local.result (c.take_local.ensures ∙ ap (λ i. controller_input.Local i) c.in_ok-taken.ensures) c.at_controller.new.self c.at_controller.new.stables t) c.at_controller.ensures.owes

pub returns-in-Controller-clause-stops : goal.returns-in-Controller-clause-stops
returns-in-Controller-clause-stops g c =
    let law = g.A.App.law in
    let sealing = g.B.Body.sealing in
    on_errs c.at_controller.result _ _ _ (λ r behind. controller_local_ends law g.W.Stable.saving sealing g.met.B.Body.faithful c.args.self.now c.args.stables.now c.requires.rests c.requires.holds c.requires.pairs c.args.actor c.args.input c.fits_types.ensures c.enter.new.self c.in_ok-enter.ensures.enters c.in_ok-enter.ensures.orderly c.in-Controller.number c.in-Controller.is (subst (λ a. IsActor c.args.self.now.setup a) c.in-Controller.is c.requires.named) c.take_local.result (c.take_local.ensures ∙ ap (λ i. controller_input.Local i) c.in_ok-taken.ensures) c.at_controller.new.self c.at_controller.new.stables behind r) c.at_controller.ensures.refused c.at_controller.ensures.orderly

pub at_switch-requires-clause-input : goal.at_switch-requires-clause-input
at_switch-requires-clause-input g c =
    let law = g.A.App.law in
    let sealing = g.B.Body.sealing in
    subst (λ z. MayBeRefused (past z.journal)) (sym c.in_ok-enter.ensures.enters) (may_refuse_local law g.W.Stable.saving sealing g.met.B.Body.faithful c.args.self.now c.args.stables.now c.requires.rests c.requires.holds c.requires.pairs c.args.actor c.args.input c.fits_types.ensures)

pub returns-in-Switch-clause-steps : goal.returns-in-Switch-clause-steps
returns-in-Switch-clause-steps g c =
    let law = g.A.App.law in
    let sealing = g.B.Body.sealing in
    on_ok c.at_switch.result _ _ (λ t. switch_takes_local law g.W.Stable.saving sealing g.met.B.Body.faithful c.args.self.now c.args.stables.now c.requires.rests c.requires.holds c.requires.pairs c.args.actor c.args.input c.fits_types.ensures c.enter.new.self c.in_ok-enter.ensures.enters c.in_ok-enter.ensures.orderly c.in-Switch.number c.in-Switch.is (subst (λ a. IsActor c.args.self.now.setup a) c.in-Switch.is c.requires.named) c.take_local-in-Switch.result (c.take_local-in-Switch.ensures ∙ ap (λ i. switch_input.Local i) c.in_ok-taken.ensures) c.at_switch.new.self t) c.at_switch.ensures.owes

pub returns-in-Switch-clause-stops : goal.returns-in-Switch-clause-stops
returns-in-Switch-clause-stops g c =
    let law = g.A.App.law in
    let sealing = g.B.Body.sealing in
    on_errs c.at_switch.result _ _ _ (λ r behind. switch_local_ends law g.W.Stable.saving sealing g.met.B.Body.faithful c.args.self.now c.args.stables.now c.requires.rests c.requires.holds c.requires.pairs c.args.actor c.args.input c.fits_types.ensures c.enter.new.self c.in_ok-enter.ensures.enters c.in_ok-enter.ensures.orderly c.in-Switch.number c.in-Switch.is (subst (λ a. IsActor c.args.self.now.setup a) c.in-Switch.is c.requires.named) c.take_local-in-Switch.result (c.take_local-in-Switch.ensures ∙ ap (λ i. switch_input.Local i) c.in_ok-taken.ensures) c.at_switch.new.self behind r) c.at_switch.ensures.refused c.at_switch.ensures.orderly
