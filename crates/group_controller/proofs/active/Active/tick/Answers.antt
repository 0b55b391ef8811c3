use Rattle.std.proofs.Common.{◌∙◌, ap, map, subst, sym}
use Rattle.dispatcher.specs.Few.{values_in}
use Rattle.dispatcher.specs.Folding.{numbered}
use Rattle.dispatcher.specs.Ledger.{StandsFor}
use Rattle.dispatcher.specs.Marks.{outstanding}
use Rattle.vr_core.specs.declared.input.VrInput.TheVariants as vr_input
use Rattle.vr_core.proofs.Lasting.{tick_same}
use Rattle.group_controller.specs.Acting.{Acting, posts_letters}
use Rattle.group_controller.specs.Settling.{command_letter}
use Rattle.vr_log.specs.Members.{leads}
use Rattle.group_controller.specs.State.{committed}
use Rattle.group_controller.proofs.Acting.{steps, still_acts, tick_does, tick_rests}
use Rattle.group_controller.proofs.active.Active.tick.Goals as goal

pub returns-else-leads : goal.returns-else-leads
returns-else-leads g c = λ kinds setup begins.
    let now = c.args.self.now in
    let taken = c.in_ok-take_step.ensures in
    let s = steps g.A.App.law kinds setup now c.take_step.new.self vr_input.Tick taken.vr taken.out begins taken.valid taken.did taken.takes in
    tick_rests g.A.App.law kinds setup now c.take_step.new.self s (sym (c.leads.ensures ∙ ap (λ (a : Acting _). leads a.work.state.vr) c.self.view_is) ∙ c.if-leads.false)

pub returns-in_ok-send : goal.returns-in_ok-send
returns-in_ok-send g c = λ kinds setup begins.
    let now = c.args.self.now in
    let taken = c.in_ok-take_step.ensures in
    let s = steps g.A.App.law kinds setup now c.take_step.new.self vr_input.Tick taken.vr taken.out begins taken.valid taken.did taken.takes in
    let acts = still_acts g.A.App.law kinds setup _ c.take_step.new.self _ s (tick_same now.work.state.vr) in
    let asked = c.in_ok-ask_unconfirmed.ensures kinds setup acts in
    let log = committed c.take_step.new.self.work.state in
    let stands = subst (λ (a : Acting _). StandsFor g.A.App.law a.dispatcher kinds setup log) (sym (c.self-then-leads.view_is ∙ asked)) acts.stands in
    let marks = ap (λ (a : Acting _). map (numbered kinds setup log) (outstanding kinds setup log a.dispatcher.marks)) (c.self-then-leads.view_is ∙ asked) ∙ ap (λ m. map (numbered kinds setup log) (outstanding kinds setup log m)) (sym acts.marks) in
    tick_does g.A.App.law kinds setup now c.take_step.new.self c.ask_unconfirmed.new.self c.send.new.self (values_in c.in_ok-commands.commands) s (sym (c.leads.ensures ∙ ap (λ (a : Acting _). leads a.work.state.vr) c.self.view_is) ∙ c.if-leads.true) asked
    (c.in_ok-commands.ensures kinds setup log stands ∙ marks) (c.in_ok-send.ensures ∙ ap (λ (a : Acting _). posts_letters c.ask_unconfirmed.new.self (map (command_letter a.work.state.vr.view) (values_in c.in_ok-commands.commands))) asked)
