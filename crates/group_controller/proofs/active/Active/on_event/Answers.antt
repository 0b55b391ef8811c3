use Rattle.std.proofs.Common.{◌∙◌, ap, subst, sym}
use Rattle.std.proofs.lemmas.Result.{on_ok_weaker}
use Rattle.vr_log.specs.declared.entry.Entry.TheVariants.{Received}
use Rattle.vr_log.specs.Members.{leads}
use Rattle.dispatcher.specs.Folding.{wish}
use Rattle.dispatcher.specs.Ledger.{StandsFor}
use Rattle.group_controller.specs.Acting.{Acting}
use Rattle.group_controller.specs.State.{committed, Work}
use Rattle.group_controller.proofs.Events.{event_acknowledged, event_last, event_more, event_nothing}
use Rattle.group_controller.proofs.Finishing.{leads_after_proposal}
use Rattle.group_controller.proofs.active.Active.on_event.Goals as goal

pub finish_all-requires-clause-leads : goal.finish_all-requires-clause-leads
finish_all-requires-clause-leads g c =
    let kinds = c.requires.begins.0 in
    let setup = c.requires.begins.1 in
    let p = c.in_ok-propose-in-Propose.ensures kinds setup c.requires.begins.2.acts in
    ap (λ (w : Work). leads w.state.vr) p.1.work_is ∙ leads_after_proposal kinds setup c.args.self.now.work (Received c.args.event) ∙ c.requires.leads

pub returns-then-branch : goal.returns-then-branch
returns-then-branch g c = λ kinds setup begins.
    let now = c.args.self.now in
    let log = committed now.work.state in
    let stands = subst (λ (a : Acting _). StandsFor g.A.App.law a.dispatcher kinds setup log) (sym c.self.view_is) begins.acts.stands in
    let is = ap (λ l. wish l log c.args.event) (sym (c.log.ensures ∙ ap (λ (a : Acting _). a.work.state.vr.log) c.self.view_is)) ∙ sym (c.on_event.ensures kinds setup log stands) ∙ c.in-Propose.is in
    let p = c.in_ok-propose-in-Propose.ensures kinds setup begins.acts in
    on_ok_weaker c.finish_all.result (λ rest. event_more g.A.App.law kinds setup now c.propose.new.self c.finish_all.new.self c.args.event begins is (sym p.0 ∙ c.if-branch.true) p.1 rest) (c.finish_all.ensures kinds setup p.1.acts)

pub returns-else-branch : goal.returns-else-branch
returns-else-branch g c = λ kinds setup begins.
    let now = c.args.self.now in
    let log = committed now.work.state in
    let stands = subst (λ (a : Acting _). StandsFor g.A.App.law a.dispatcher kinds setup log) (sym c.self.view_is) begins.acts.stands in
    let is = ap (λ l. wish l log c.args.event) (sym (c.log.ensures ∙ ap (λ (a : Acting _). a.work.state.vr.log) c.self.view_is)) ∙ sym (c.on_event.ensures kinds setup log stands) ∙ c.in-Propose.is in
    let p = c.in_ok-propose-in-Propose.ensures kinds setup begins.acts in
    event_last g.A.App.law kinds setup now c.propose.new.self c.args.event begins is (sym p.0 ∙ c.if-branch.false) p.1

pub returns-in-Acknowledge : goal.returns-in-Acknowledge
returns-in-Acknowledge g c = λ kinds setup begins.
    let now = c.args.self.now in
    let log = committed now.work.state in
    let stands = subst (λ (a : Acting _). StandsFor g.A.App.law a.dispatcher kinds setup log) (sym c.self.view_is) begins.acts.stands in
    let is = ap (λ l. wish l log c.args.event) (sym (c.log.ensures ∙ ap (λ (a : Acting _). a.work.state.vr.log) c.self.view_is)) ∙ sym (c.on_event.ensures kinds setup log stands) ∙ c.in-Acknowledge.is in
    on_ok_weaker c.acknowledge.result (event_acknowledged g.A.App.law kinds setup now c.acknowledge.new.self c.args.event c.in-Acknowledge.through begins is) c.acknowledge.ensures

pub returns-in-Nothing : goal.returns-in-Nothing
returns-in-Nothing g c = λ kinds setup begins.
    let now = c.args.self.now in
    let log = committed now.work.state in
    let stands = subst (λ (a : Acting _). StandsFor g.A.App.law a.dispatcher kinds setup log) (sym c.self.view_is) begins.acts.stands in
    let is = ap (λ l. wish l log c.args.event) (sym (c.log.ensures ∙ ap (λ (a : Acting _). a.work.state.vr.log) c.self.view_is)) ∙ sym (c.on_event.ensures kinds setup log stands) ∙ c.in-Nothing.is in
    event_nothing g.A.App.law kinds setup now c.args.event begins is
