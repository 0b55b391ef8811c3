use Rattle.std.proofs.Common.{sym, ap, subst}
use Rattle.journal.specs.Actors.{IsActor}
use Rattle.journal.specs.Pool.{past}
use Rattle.journal.specs.Refusals.{MayBeRefused}
use Rattle.world.proofs.Drawing.{controller_draw_ends, controller_draws, may_be_refused, on_errs, switch_draw_ends, switch_draws}
use Rattle.world.proofs.Serving.{controller_there, served, stable_there}
use Rattle.world.proofs.Turning.{on_ok}
use Rattle.world.proofs.world.World.draw_place.Goals as goal

pub at_controller-requires-clause-input : goal.at_controller-requires-clause-input
at_controller-requires-clause-input g c =
    let law = g.A.App.law in
    let sealing = g.B.Body.sealing in
    subst (λ z. MayBeRefused (past z.journal)) (sym c.in_ok-input-in-Controller.ensures.enters) (rw (← c.in-Controller.is) (may_be_refused law g.W.Stable.saving sealing g.met.B.Body.faithful c.args.self.now c.args.stables.now c.requires.rests c.requires.holds c.requires.pairs c.args.actor c.args.choice c.args.keep c.args.place c.requires.found))

pub at_controller-requires-clause-there : goal.at_controller-requires-clause-there
at_controller-requires-clause-there g c =
    let law = g.A.App.law in
    let sealing = g.B.Body.sealing in
    rw (ap (λ z. z.controllers) c.in_ok-input-in-Controller.ensures.enters) (controller_there law g.W.Stable.saving sealing c.args.self.now c.args.stables.now c.requires.holds c.requires.pairs c.in-Controller.number (subst (λ a. IsActor c.args.self.now.setup a) c.in-Controller.is c.requires.named))

pub at_controller-requires-clause-stable : goal.at_controller-requires-clause-stable
at_controller-requires-clause-stable g c =
    let law = g.A.App.law in
    let sealing = g.B.Body.sealing in
    stable_there law g.W.Stable.saving sealing c.args.self.now c.args.stables.now c.requires.holds c.requires.pairs c.in-Controller.number (subst (λ a. IsActor c.args.self.now.setup a) c.in-Controller.is c.requires.named)

pub at_controller-requires-clause-ready : goal.at_controller-requires-clause-ready
at_controller-requires-clause-ready g c =
    let law = g.A.App.law in
    let sealing = g.B.Body.sealing in
    rw (ap (λ z. z.controllers) c.in_ok-input-in-Controller.ensures.enters) (served law g.W.Stable.saving sealing c.args.self.now c.args.stables.now c.requires.holds c.requires.pairs c.in-Controller.number (subst (λ a. IsActor c.args.self.now.setup a) c.in-Controller.is c.requires.named))

pub returns-in_ok-input-in-Controller-clause-steps : goal.returns-in_ok-input-in-Controller-clause-steps
returns-in_ok-input-in-Controller-clause-steps g c =
    let law = g.A.App.law in
    let sealing = g.B.Body.sealing in
    on_ok c.at_controller.result _ _ (λ t. controller_draws law g.W.Stable.saving sealing g.met.B.Body.faithful c.args.self.now c.args.stables.now c.requires.rests c.requires.holds c.requires.pairs c.args.actor c.args.choice c.args.keep c.args.place c.requires.found c.draw_from.new.self (rw c.in-Controller.is c.in_ok-input-in-Controller.ensures.enters) c.in_ok-input-in-Controller.ensures.orderly c.in-Controller.number c.in-Controller.is (subst (λ a. IsActor c.args.self.now.setup a) c.in-Controller.is c.requires.named) c.in_ok-input-in-Controller.input c.in_ok-input-in-Controller.ensures.heard c.at_controller.new.self c.at_controller.new.stables t) c.at_controller.ensures.owes

pub returns-in_ok-input-in-Controller-clause-stops : goal.returns-in_ok-input-in-Controller-clause-stops
returns-in_ok-input-in-Controller-clause-stops g c =
    let law = g.A.App.law in
    let sealing = g.B.Body.sealing in
    on_errs c.at_controller.result _ _ _ (λ r behind. controller_draw_ends law g.W.Stable.saving sealing g.met.B.Body.faithful c.args.self.now c.args.stables.now c.requires.rests c.requires.holds c.requires.pairs c.args.actor c.args.choice c.args.keep c.args.place c.requires.found c.draw_from.new.self (rw c.in-Controller.is c.in_ok-input-in-Controller.ensures.enters) c.in_ok-input-in-Controller.ensures.orderly c.in-Controller.number c.in-Controller.is (subst (λ a. IsActor c.args.self.now.setup a) c.in-Controller.is c.requires.named) c.in_ok-input-in-Controller.input c.in_ok-input-in-Controller.ensures.heard c.at_controller.new.self c.at_controller.new.stables behind r) c.at_controller.ensures.refused c.at_controller.ensures.orderly

pub at_switch-requires-clause-input : goal.at_switch-requires-clause-input
at_switch-requires-clause-input g c =
    let law = g.A.App.law in
    let sealing = g.B.Body.sealing in
    subst (λ z. MayBeRefused (past z.journal)) (sym c.in_ok-input-in-Switch.ensures.enters) (rw (← c.in-Switch.is) (may_be_refused law g.W.Stable.saving sealing g.met.B.Body.faithful c.args.self.now c.args.stables.now c.requires.rests c.requires.holds c.requires.pairs c.args.actor c.args.choice c.args.keep c.args.place c.requires.found))

pub returns-in_ok-input-in-Switch-clause-steps : goal.returns-in_ok-input-in-Switch-clause-steps
returns-in_ok-input-in-Switch-clause-steps g c =
    let law = g.A.App.law in
    let sealing = g.B.Body.sealing in
    on_ok c.at_switch.result _ _ (λ t. switch_draws law g.W.Stable.saving sealing g.met.B.Body.faithful c.args.self.now c.args.stables.now c.requires.rests c.requires.holds c.requires.pairs c.args.actor c.args.choice c.args.keep c.args.place c.requires.found c.draw_from-in-Switch.new.self (rw c.in-Switch.is c.in_ok-input-in-Switch.ensures.enters) c.in_ok-input-in-Switch.ensures.orderly c.in-Switch.number c.in-Switch.is (subst (λ a. IsActor c.args.self.now.setup a) c.in-Switch.is c.requires.named) c.in_ok-input-in-Switch.input c.in_ok-input-in-Switch.ensures.heard c.at_switch.new.self t) c.at_switch.ensures.owes

pub returns-in_ok-input-in-Switch-clause-stops : goal.returns-in_ok-input-in-Switch-clause-stops
returns-in_ok-input-in-Switch-clause-stops g c =
    let law = g.A.App.law in
    let sealing = g.B.Body.sealing in
    on_errs c.at_switch.result _ _ _ (λ r behind. switch_draw_ends law g.W.Stable.saving sealing g.met.B.Body.faithful c.args.self.now c.args.stables.now c.requires.rests c.requires.holds c.requires.pairs c.args.actor c.args.choice c.args.keep c.args.place c.requires.found c.draw_from-in-Switch.new.self (rw c.in-Switch.is c.in_ok-input-in-Switch.ensures.enters) c.in_ok-input-in-Switch.ensures.orderly c.in-Switch.number c.in-Switch.is (subst (λ a. IsActor c.args.self.now.setup a) c.in-Switch.is c.requires.named) c.in_ok-input-in-Switch.input c.in_ok-input-in-Switch.ensures.heard c.at_switch.new.self behind r) c.at_switch.ensures.refused c.at_switch.ensures.orderly
