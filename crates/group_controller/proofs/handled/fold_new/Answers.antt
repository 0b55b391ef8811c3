use Rattle.std.proofs.Common.{◌≡◌, ◌∙◌, ◌++◌, ◌∷◌, [], true, List, subst, sym}
use Rattle.vr_log.specs.declared.entry.Entry.{Entry}
use Rattle.vr_log.specs.Log.{follows}
use Rattle.vr_log.proofs.Logs.{follows_one}
use Rattle.dispatcher.specs.Folding.{places_processed}
use Rattle.dispatcher.specs.Ledger.{AreHandledAt, StandsFor}
use Rattle.group_controller.proofs.CommittedAlone.{alone_is, alone_none, alone_some}
use Rattle.group_controller.proofs.handled.fold_new.Goals as goal

pub returns-in-Some-clause-folds : goal.returns-in-Some-clause-folds
returns-in-Some-clause-folds g c = λ kinds setup log stands follow.
    let entry = c.entry-item.result in
    let one = alone_is c.args.entries.now entry c.in-len1.len_at_least c.in-len1.len_below c.entry-item.is in
    let follows_alone = subst (λ (l : List Entry). follows log l ≡ true) one follow in
    let folded = c.in_ok-event.ensures.folds kinds setup log stands (sym (follows_one log entry) ∙ follows_alone) in (
      subst (λ (l : List Entry). AreHandledAt kinds setup (log ++ l) (places_processed l) (c.in-Some.event ∷ [])) (sym one) (alone_some kinds setup log entry c.in-Some.event (sym c.in-Some.is ∙ folded.0)),
      subst (λ (l : List Entry). StandsFor g.A.App.law c.fold.new.self kinds setup (log ++ l)) (sym one) folded.1,
    )

pub returns-in-None-clause-folds : goal.returns-in-None-clause-folds
returns-in-None-clause-folds g c = λ kinds setup log stands follow.
    let entry = c.entry-item.result in
    let one = alone_is c.args.entries.now entry c.in-len1.len_at_least c.in-len1.len_below c.entry-item.is in
    let follows_alone = subst (λ (l : List Entry). follows log l ≡ true) one follow in
    let folded = c.in_ok-event.ensures.folds kinds setup log stands (sym (follows_one log entry) ∙ follows_alone) in (
      subst (λ (l : List Entry). AreHandledAt kinds setup (log ++ l) (places_processed l) []) (sym one) (alone_none kinds setup log entry follows_alone (sym c.in-None.is ∙ folded.0)),
      subst (λ (l : List Entry). StandsFor g.A.App.law c.fold.new.self kinds setup (log ++ l)) (sym one) folded.1,
    )
