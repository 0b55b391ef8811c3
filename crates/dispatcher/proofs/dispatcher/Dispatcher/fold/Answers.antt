use Rattle.std.proofs.Common.{◌∙◌, ◌≡◌, true, sym, ap, subst, arith}
use Rattle.std.proofs.lemmas.Result.{IfOk-weaker}
use Rattle.vr_log.specs.declared.entry.Entry.{Entry}
use Rattle.vr_log.specs.Log.{fits}
use Rattle.dispatcher.specs.Ledger.{StandsFor, handled_by, most_commands}
use Rattle.dispatcher.proofs.Standing.{at_most, reacts_is, with_received, with_processed}
use Rattle.dispatcher.proofs.dispatcher.Dispatcher.fold.Goals as goal

pub returns-in_ok-reserve-in-Received-clause-folds : goal.returns-in_ok-reserve-in-Received-clause-folds
returns-in_ok-reserve-in-Received-clause-folds g c = λ kinds setup log stands fit.
    let inside : StandsFor g.A.App.law _ kinds setup log =
    subst (λ d. StandsFor g.A.App.law d kinds setup log) (sym c.self.view_is) stands in
    let react = c.in_ok-commands-in-Received.ensures in
    let steps = react.step setup inside.suited in
    let kept = c.in_ok-receive-in-Received.ensures kinds setup log inside.ledger (subst (λ (e : Entry). fits log e ≡ true) c.in-Received.is fit)
    (reacts_is g.A.App.law kinds setup log _ _ _ _ inside steps) (at_most _ _ most_commands (react.few setup inside.suited) inside.few) in (
      sym (ap (λ (e : Entry). handled_by kinds setup log e) c.in-Received.is),
      with_received g.A.App.law kinds setup log _ _ _ _ _ _ _ _ c.in-Received.is inside react.kinds (react.suits setup inside.suited) steps kept (let room = c.in_ok-reserve-in-Received.ensures.room in let count = c.unsettled.ensures in omega (arith, room, count)),
    )

pub returns-in-Processed-clause-folds : goal.returns-in-Processed-clause-folds
returns-in-Processed-clause-folds g c = λ kinds setup log stands fit.
    let inside : StandsFor g.A.App.law _ kinds setup log =
    subst (λ d. StandsFor g.A.App.law d kinds setup log) (sym c.self.view_is) stands in
    let p = c.process.ensures kinds setup log c.in-Processed.field-0 inside.ledger (subst (λ (e : Entry). fits log e ≡ true) c.in-Processed.is fit) in
    IfOk-weaker c.process.result _ _
    (λ handled done. (
      done.0 ∙ sym (ap (λ (e : Entry). handled_by kinds setup log e) c.in-Processed.is),
      with_processed g.A.App.law kinds setup log _ _ _ _ c.in-Processed.is inside done.1,
    ))
    p
